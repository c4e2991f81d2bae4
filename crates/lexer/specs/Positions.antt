-- A number by a name: its position in a list of names.
use Rattle.std.specs.Prelude.{ℕ, suc, List, [], ◌∷◌}
use Prim.Native.String.{String}
use lib.Text.{eqt}
use Rattle.lexer.specs.Tests.{pick}

-- the position of a name in a list whose first is at n, or 0 where it does not stand there
abbrev pub position_from : ℕ → List String → String → ℕ
position_from n [] name = 0
position_from n (other ∷ more) name = let later = position_from (suc n) more name in pick (eqt other name) n later
