-- The lexeme at the front of a list of bytes: what each rule finds there, and the one definition of which it is.
use Prim.Native.Char.{code}
use Rattle.std.specs.Prelude.{ℕ, zero, suc, ◌+◌, List, [], ◌∷◌, eqb, ltb, length, take, drop}
use Rattle.lexer.specs.Tests.{and, pick}
use Rattle.lexer.specs.Kinds.{token_kind}
use Rattle.lexer.specs.Bytes.{is_space, is_in_line, is_in_string, begins, run}
use Rattle.lexer.specs.Spellings.{Spelling, kind_of, longest}
use Rattle.lexer.specs.Editions.{Edition}
use Rattle.lexer.specs.Words.{word_length, word_kind, joins}
use Rattle.lexer.specs.Numbers.{digits, fraction, exponent}

-- What stands at the front of some bytes.
pub data Lexeme : Type 0 where
  -- nothing: there are none
  End : Lexeme
  -- so many bytes that make no token
  Skipped : ℕ → Lexeme
  -- a token of this kind and length
  Token : ℕ → ℕ → Lexeme
  -- a byte that begins no token, space or comment
  BadByte : Lexeme
  -- a string that is not closed
  OpenString : Lexeme

-- Each rule gives `BadByte` where it does not fit.

-- "Skipped: bytes 32, 9, 10, 13", as many as stand together
unfoldable pub skipped_spaces : ℕ → Lexeme
skipped_spaces zero = BadByte
skipped_spaces (suc n) = Skipped (suc n)

unfoldable pub spaces : List ℕ → Lexeme
spaces s = skipped_spaces (run is_space s)

-- "`//` up to byte 10 or the end"
unfoldable pub comment : List ℕ → Lexeme
comment s =
    let n = run is_in_line (drop 2 s) in
    pick (and (begins (code "/") s) (begins (code "/") (drop 1 s))) (Skipped (2 + n)) BadByte

-- a word of length n at the front of s, of kind k
unfoldable pub word_of : ℕ → ℕ → List ℕ → Lexeme
word_of zero k s = BadByte
word_of (suc n) k s =
    let more = joins (drop (suc n) s) in
    pick (eqb k (token_kind "IDENT")) (Token k (suc n + more)) (Token k (suc n))

unfoldable pub word : List ℕ → Lexeme
word s = word_of (word_length s) (word_kind (take (word_length s) s)) s

-- digits of length n with a fraction of length f, both at the front of s in a row; `3.` is INT and `.`
unfoldable pub number_of : ℕ → ℕ → List ℕ → Lexeme
number_of zero f s = BadByte
number_of (suc n) zero s = Token (token_kind "INT") (suc n)
number_of (suc n) (suc f) s = Token (token_kind "FLOAT") (suc n + suc f + exponent (drop (suc n + suc f) s))

unfoldable pub unsigned_number : List ℕ → Lexeme
unsigned_number s = number_of (digits s) (fraction (drop (digits s) s)) s

-- the same token with one byte more in front
unfoldable pub with_minus : Lexeme → Lexeme
with_minus End = BadByte
with_minus (Skipped n) = BadByte
with_minus (Token k n) = Token k (suc n)
with_minus BadByte = BadByte
with_minus OpenString = BadByte

unfoldable pub number : Edition → List ℕ → Lexeme
number e s =
    let minus = with_minus (unsigned_number (drop 1 s)) in
    let plain = unsigned_number s in
    pick (and e.signed (begins (code "-") s)) minus plain

-- "STR: backtick to next backtick, any bytes."
unfoldable pub text : List ℕ → Lexeme
text s =
    let n = run is_in_string (drop 1 s) in
    pick (begins (code "`") s) (pick (ltb (1 + n) (length s)) (Token (token_kind "STR") (2 + n)) OpenString) BadByte

-- a mark of kind k and length n; 0 is not a kind
unfoldable pub mark_of : ℕ → ℕ → Lexeme → Lexeme
mark_of zero n other = other
mark_of (suc k) n other = Token (suc k) n

-- "Marks: the longest that fits", of at most so many bytes
unfoldable pub mark_up_to : List Spelling → ℕ → List ℕ → Lexeme
mark_up_to marks zero s = BadByte
mark_up_to marks (suc n) s =
    let shorter = mark_up_to marks n s in
    mark_of (kind_of marks (take (suc n) s)) (length (take (suc n) s)) shorter

unfoldable pub mark : Edition → List ℕ → Lexeme
mark e s = mark_up_to e.marks (longest e.marks) s

-- the first of two where it fits, else the second
unfoldable pub or_else : Lexeme → Lexeme → Lexeme
or_else End other = End
or_else (Skipped n) other = Skipped n
or_else (Token k n) other = Token k n
or_else BadByte other = other
or_else OpenString other = OpenString

-- what the first of some rules that fits gives
abbrev pub first_of : List (List ℕ → Lexeme) → List ℕ → Lexeme
first_of [] s = BadByte
first_of (rule ∷ []) s = rule s
first_of (rule ∷ next ∷ more) s = let later = first_of (next ∷ more) s in or_else (rule s) later

-- The lexeme at the front: the first rule that fits, in document 01's order. No later rule gives a longer one
-- (`lexeme-longest` in proofs/), so it is the longest.
unfoldable pub lexeme : Edition → List ℕ → Lexeme
lexeme e [] = End
lexeme e (b ∷ s) = first_of (spaces ∷ comment ∷ word ∷ number e ∷ text ∷ mark e ∷ []) (b ∷ s)
