-- "Word: an ASCII letter or `_`, then letters, digits, `_`, as long as possible." Its classification, the join by `::`,
-- and the comparison of names.
use Prim.Native.Char.{code}
use Rattle.std.specs.Prelude.{ℕ, zero, suc, ◌+◌, Bool, List, [], ◌∷◌, eqb, ltb, length, take, drop}
use Rattle.lexer.specs.Tests.{and, pick}
use Rattle.lexer.specs.Kinds.{token_kind}
use Rattle.lexer.specs.Bytes.{is_letter, is_word_byte, run}
use Rattle.lexer.specs.Spellings.{kind_of, reserved, same}

-- the length of the word at the front, 0 where there is none
unfoldable pub word_length : List ℕ → ℕ
word_length [] = 0
word_length (b ∷ s) = let n = run is_word_byte s in pick (is_letter b) (suc n) 0

-- "every other word is an IDENT"
unfoldable pub or_ident : ℕ → ℕ
or_ident zero = token_kind "IDENT"
or_ident (suc k) = suc k

unfoldable pub word_kind : List ℕ → ℕ
word_kind w = or_ident (kind_of reserved w)

-- the length of the word at the front where it is an IDENT, else 0
unfoldable pub ident_length : List ℕ → ℕ
ident_length s = let n = word_length s in pick (eqb (word_kind (take n s)) (token_kind "IDENT")) n 0

-- whether two colons stand at the front
unfoldable pub two_colons : List ℕ → Bool
two_colons [] = Bool.false
two_colons (a ∷ []) = Bool.false
two_colons (a ∷ b ∷ s) = and (eqb a (code ":")) (eqb b (code ":"))

-- "An IDENT followed at once by `::` and at once by another word that is an IDENT joins it into one token, repeatedly":
-- how many bytes join the IDENT that stands before these. The first argument bounds the number of joins.
unfoldable pub joins_within : ℕ → List ℕ → ℕ
joins_within zero s = 0
joins_within (suc m) s =
    let n = ident_length (drop 2 s) in
    let more = joins_within m (drop (2 + n) s) in
    pick (and (two_colons s) (ltb 0 n)) (2 + n + more) 0

-- each join takes a byte at least, so that the length bounds their number
unfoldable pub joins : List ℕ → ℕ
unfolding joins_within
joins s = joins_within (length s) s

-- "Names compare with `::` read as `__`"
unfoldable pub as_name : List ℕ → List ℕ
as_name [] = []
as_name (a ∷ []) = a ∷ []
as_name (a ∷ b ∷ s) =
    let paired = as_name s in
    let single = as_name (b ∷ s) in
    pick (two_colons (a ∷ b ∷ [])) (code "_" ∷ code "_" ∷ paired) (a ∷ single)

unfoldable pub same_name : List ℕ → List ℕ → Bool
same_name v w = same (as_name v) (as_name w)
