-- The list of extra type names: its entries, and refusal 2.
use Rattle.std.specs.Prelude.{ℕ, ◌+◌, Bool, false, List, [], ◌∷◌, eqb, ltb, length}
use Rattle.lexer.specs.Refusals.{refusal_number}
use Rattle.lexer.specs.Tests.{and, pick}
use Rattle.lexer.specs.Kinds.{token_kind}
use Rattle.lexer.specs.Editions.{Edition}
use Rattle.lexer.specs.Lexemes.{Lexeme, End, Skipped, Token, BadByte, OpenString, lexeme}

-- whether a list of names is good, or the refusal's number and place
pub data Checked : Type 0 where
  Good : Checked
  Refused : ℕ → ℕ → Checked

-- "list over 16,384 bytes (place 0)"
abbrev pub name_limit : ℕ
name_limit = 16384

-- one byte in front of the first of some entries
unfoldable pub push : ℕ → List (List ℕ) → List (List ℕ)
push b [] = (b ∷ []) ∷ []
push b (w ∷ ws) = (b ∷ w) ∷ ws

-- what the bytes 10 separate: one entry more than there are such bytes
unfoldable pub split : List ℕ → List (List ℕ)
split [] = [] ∷ []
split (b ∷ s) = let rest = split s in pick (eqb b 10) ([] ∷ rest) (push b rest)

-- "separated by one byte 10, empty if none": an empty list has no entry
unfoldable pub entries : List ℕ → List (List ℕ)
entries [] = []
entries (b ∷ s) = split (b ∷ s)

-- whether a lexeme is an IDENT of so many bytes
unfoldable pub is_ident : ℕ → Lexeme → Bool
is_ident n End = false
is_ident n (Skipped m) = false
is_ident n (Token k m) = and (eqb k (token_kind "IDENT")) (eqb m n)
is_ident n BadByte = false
is_ident n OpenString = false

-- "exactly one IDENT token"
unfoldable pub is_name : Edition → List ℕ → Bool
is_name e w = is_ident (length w) (lexeme e w)

-- refusal 2 at the first byte of the earliest entry that is not a name, the first entry being at an offset
unfoldable pub first_bad : Edition → ℕ → List (List ℕ) → Checked
first_bad e at [] = Good
first_bad e at (w ∷ ws) = let later = first_bad e (at + length w + 1) ws in pick (is_name e w) later (Refused (refusal_number "bad names") at)

-- the answer for a list
unfoldable pub checked : Edition → List ℕ → Checked
checked e list = pick (ltb name_limit (length list)) (Refused (refusal_number "bad names") 0) (first_bad e 0 (entries list))
