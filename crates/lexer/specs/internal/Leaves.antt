-- The class of a byte, by which the tokeniser chooses a rule, the test that runs up to a byte, and the numbers of a row as they
-- are written and read. Nothing but the tokeniser's own leaves speaks of these.
use Prim.Native.Char.{code}
use Rattle.std.specs.Prelude.{ℕ, ◌+◌, ◌*◌, ◌≡◌, Bool, not, List, [], ◌∷◌, eqb, ltb, drop}
use Rattle.std.proofs.lemmas.List.Edits.{sets}
use Rattle.lexer.specs.Tests.{pick}
use Rattle.lexer.specs.Bytes.{is_digit, is_letter, is_space, run}
use Rattle.lexer.specs.Tokens.{Token}
use Rattle.lexer.specs.Table.{token_width, token_room}
use Rattle.lexer.specs.declared.table.TokenRow.{TokenRow}
use Rattle.lexer.specs.declared.bytes.ByteClass.{ByteClass}
use Rattle.lexer.specs.declared.bytes.ByteClass.TheVariants.{Digit, Letter, Space, Minus, Slash, Backtick, Other}

-- the class of a byte by what a lexeme that begins with it is: 0 a number, 1 a word, 2 spaces, 3 a number or a mark, 4 a
-- comment or a mark, 5 a string, 6 a mark or nothing
unfoldable pub byte_class : ℕ → ℕ
byte_class b =
    pick (is_digit b) 0
    (pick (is_letter b) 1
    (pick (is_space b) 2
    (pick (eqb b (code "-")) 3
    (pick (eqb b (code "/")) 4
    (pick (eqb b (code "`")) 5 6)))))

-- these numbers of the classes by their names in the code
abbrev pub class_number : ByteClass → ℕ
class_number Digit = 0
class_number Letter = 1
class_number Space = 2
class_number Minus = 3
class_number Slash = 4
class_number Backtick = 5
class_number Other = 6

-- whether a byte is another than the one that ends a run
abbrev pub is_not : ℕ → ℕ → Bool
is_not stop b = not (eqb b stop)

-- the space between words
abbrev pub blank : ℕ
blank = 32

-- how many bytes are looked at in one turn
abbrev pub block : ℕ
block = 32

-- a run from one place of some bytes goes on at another
abbrev pub Goes : (ℕ → Bool) → List ℕ → ℕ → ℕ → Type 0
Goes p s at i = i + run p (drop i s) ≡ at + run p (drop at s)

-- the numbers of a row as it is written
abbrev pub row_numbers : TokenRow → List ℕ
row_numbers r = r.kind ∷ r.start ∷ r.size ∷ []

-- what a token says itself, column by column of its row
abbrev pub own_numbers : Token → List ℕ
own_numbers t = t.kind ∷ t.start ∷ t.size ∷ []

-- a table after a row's numbers were written where it has the row
abbrev pub written : List ℕ → ℕ → List ℕ → List ℕ
written table row numbers = pick (ltb row (token_room table)) (sets table (row * token_width) numbers) table
