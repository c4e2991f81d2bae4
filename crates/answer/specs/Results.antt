-- What a reader gives: an answer, and what both lent tables hold afterwards.
use Rattle.std.specs.Prelude.{ℕ, List, [], ◌∷◌}
use Rattle.answer.specs.declared.Answer.{Answer}
use Rattle.answer.specs.declared.Answer.TheVariants.{Accepted, Refused}

-- "where that row would be at level 201"
abbrev pub level_limit : ℕ
level_limit = 200

-- document 01's number and values for each case of the answer, as three numbers: 0 and the two row counts, or the refusal's number,
-- its place and 0
unfoldable pub values : Answer → List ℕ
values (Accepted tokens rows) = 0 ∷ tokens ∷ rows ∷ []
values (Refused number place) = number ∷ place ∷ 0 ∷ []

-- the answer, and what the token table and the tree table hold afterwards
pub record Result : Type 0 where
  pub answer : Answer
  pub tokens : List ℕ
  pub rows : List ℕ
