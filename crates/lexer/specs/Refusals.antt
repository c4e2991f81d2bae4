-- Document 01's table of refusals: a refusal's number is its position.
use Rattle.std.specs.Prelude.{ℕ, List, [], ◌∷◌}
use Prim.Native.String.{String}
use Rattle.lexer.specs.Positions.{position_from}

abbrev pub refusals : List String
refusals =
    "long source" ∷ "bad names" ∷ "bad byte" ∷ "open string" ∷ "few token rows" ∷ "no program" ∷ "too deep" ∷ "few tree rows" ∷ []

abbrev pub refusal_number : String → ℕ
refusal_number name = position_from 1 refusals name
