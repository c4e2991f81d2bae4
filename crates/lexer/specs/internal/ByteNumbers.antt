-- What a byte begins, as one number, and the tests of such a number (`entry_test` and its like in proofs/). No function of the code goes by it.
use Prim.Native.Char.{code}
use Rattle.std.specs.Prelude.{ℕ, zero, suc, ◌+◌, ◌<◌, ◌≡◌, Bool, List, [], ◌∷◌, eqb, get_or}
use Rattle.lexer.specs.Tests.{pick, among, between}
use Rattle.lexer.specs.Bytes.{is_digit, is_letter, is_space}
use Rattle.lexer.specs.Spellings.{kind_of}
use Rattle.lexer.specs.Editions.{edition17}
use Rattle.lexer.specs.Words.{word_kind}

-- A byte's entry says what a lexeme that begins with it is. Below `longer_entry` stands the kind of a mark with which no longer one begins;
-- from there on, with `longer_entry` added, that of a mark with which a longer one does.
abbrev pub longer_entry : ℕ
longer_entry = 64

-- an arrow, or nothing
abbrev pub other_entry : ℕ
other_entry = 122

-- a comment or a mark
abbrev pub slash_entry : ℕ
slash_entry = 123

abbrev pub backtick_entry : ℕ
backtick_entry = 124

abbrev pub space_entry : ℕ
space_entry = 125

-- a number or a mark
abbrev pub minus_entry : ℕ
minus_entry = 126

abbrev pub digit_entry : ℕ
digit_entry = 127

-- from here on a word, with the kind that the letter has alone added
abbrev pub letter_entry : ℕ
letter_entry = 128

abbrev pub last_entry : ℕ
last_entry = 255

-- the first bytes of marks that go on
abbrev pub longer : List ℕ
longer = code "=" ∷ code "!" ∷ code "<" ∷ code ">" ∷ code "?" ∷ []

-- the entry of a mark by its kind, 0 where it is none
unfoldable pub mark_entry : ℕ → ℕ
mark_entry zero = other_entry
mark_entry (suc k) = suc k

unfoldable pub byte_entry : ℕ → ℕ
byte_entry b =
    pick (is_letter b) (letter_entry + word_kind (b ∷ []))
    (pick (is_digit b) digit_entry
    (pick (eqb b (code "-")) minus_entry
    (pick (is_space b) space_entry
    (pick (among longer b) (longer_entry + kind_of edition17.marks (b ∷ []))
    (pick (eqb b (code "`")) backtick_entry
    (pick (eqb b (code "/")) slash_entry (mark_entry (kind_of edition17.marks (b ∷ [])))))))))

-- a table that holds every byte's entry
abbrev pub Entries : List ℕ → Type 0
Entries table = (b : ℕ) → b < 256 → get_or table b 0 ≡ byte_entry b

-- whether a byte's entry is one of those from a number to another
abbrev pub has_entry : ℕ → ℕ → ℕ → Bool
has_entry low high b = between low high (byte_entry b)
