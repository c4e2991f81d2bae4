-- Fixed spellings with their kinds: the words that are not IDENTs, and the marks.
use Rattle.std.specs.Prelude.{ℕ, max, Bool, true, false, List, [], ◌∷◌, map, eqb, length}
use Prim.Native.String.{String}
use Rattle.lexer.specs.Tests.{and, pick}
use Rattle.lexer.specs.Text.{bytes}
use Rattle.lexer.specs.Kinds.{token_kind}

pub record Spelling : Type 0 where
  pub text : List ℕ
  pub kind : ℕ

infix 90 ◌is◌
unfoldable pub ◌is◌ : String → String → Spelling
unfolding bytes
s is k = record { text = bytes s; kind = token_kind k }

-- whether two lists of bytes are the same
unfoldable pub same : List ℕ → List ℕ → Bool
same [] [] = true
same [] (b ∷ t) = false
same (a ∷ s) [] = false
same (a ∷ s) (b ∷ t) = and (same s t) (eqb b a)

-- the kind of exactly these bytes among some spellings, or 0
unfoldable pub kind_of : List Spelling → List ℕ → ℕ
kind_of [] s = 0
kind_of (m ∷ ms) s = pick (same m.text s) m.kind (kind_of ms s)

-- the length of the longest of some spellings
unfoldable pub longest : List Spelling → ℕ
longest [] = 0
longest (m ∷ ms) = max (length m.text) (longest ms)

-- "`i u f b s v` alone are type keywords, `T F` booleans, `Z` sizeof"
unfoldable pub reserved : List Spelling
unfolding ◌is◌
reserved =
    "i" is "keyword" ∷ "u" is "keyword" ∷ "f" is "keyword" ∷ "b" is "keyword" ∷ "s" is "keyword" ∷ "v" is "keyword" ∷
    "T" is "boolean" ∷ "F" is "boolean" ∷ "Z" is "Z" ∷ []

-- a mark is spelled as it is called
unfoldable pub spelled_marks : List String → List Spelling
unfolding ◌is◌
spelled_marks names = map (λ (s : String). s is s) names
