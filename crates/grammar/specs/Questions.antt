-- Questions about the tokens from a place on, as patterns of token kinds.
use Rattle.std.specs.Prelude.{ℕ, suc, Bool, true, false, List, [], ◌∷◌, eqb, ltb, drop}
use Rattle.lexer.specs.Tests.{and, or, pick, among}
use Rattle.lexer.specs.Spellings.{same}
use Rattle.lexer.specs.Items.{Item}

pub data Piece : Type 0 where
  -- a token of one of these kinds
  one_of : List ℕ → Piece
  -- one or more tokens of these kinds, as many as there are
  some_of : List ℕ → Piece
  -- a token of this kind with one of these texts
  spelled : ℕ → List (List ℕ) → Piece

unfoldable pub is_text : List (List ℕ) → List ℕ → Bool
is_text [] w = false
is_text (t ∷ ts) w = or (same t w) (is_text ts w)

-- how many tokens of these kinds stand at the front
unfoldable pub run_of : List ℕ → List Item → ℕ
run_of ks [] = 0
run_of ks (t ∷ ts) = let more = suc (run_of ks ts) in pick (among ks t.kind) more 0

-- whether tokens begin as a pattern says
unfoldable pub fits : List Piece → List Item → Bool
fits [] ts = true
fits (one_of ks ∷ ps) [] = false
fits (one_of ks ∷ ps) (t ∷ ts) = and (among ks t.kind) (fits ps ts)
fits (some_of ks ∷ ps) ts = and (ltb 0 (run_of ks ts)) (fits ps (drop (run_of ks ts) ts))
fits (spelled k texts ∷ ps) [] = false
fits (spelled k texts ∷ ps) (t ∷ ts) = and (and (eqb k t.kind) (is_text texts t.text)) (fits ps ts)

-- ... as one of some patterns says
unfoldable pub fits_one : List (List Piece) → List Item → Bool
fits_one [] ts = false
fits_one (p ∷ ps) ts = or (fits p ts) (fits_one ps ts)

-- a numbered question: whether the tokens begin as one of some patterns says
pub record Question : Type 0 where
  pub number : ℕ
  pub patterns : List (List Piece)

unfoldable pub answer_to : List Question → ℕ → List Item → Bool
answer_to [] number ts = false
answer_to (q ∷ qs) number ts =
    let rest = answer_to qs number ts in
    let fit = fits_one q.patterns ts in
    pick (eqb q.number number) fit rest
