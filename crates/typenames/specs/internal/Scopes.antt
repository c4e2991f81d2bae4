-- The names in force in a scope.
use Rattle.std.specs.Prelude.{ℕ, List}
use Rattle.typenames.specs.declared.Scope.{Scope}
use Rattle.typenames.specs.declared.Scope.TheVariants.{Program}

-- the names in force in a scope, given those of the source and its list: in grammar 1.7 all of them, everywhere
abbrev pub in_force : Scope → List (List ℕ) → List (List ℕ)
in_force Program names = names
