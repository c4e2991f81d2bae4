-- The names that a source declares one after the other: what the code's walk over them is stated by.
use Rattle.std.specs.Prelude.{ℕ, zero, List}
use Rattle.typenames.specs.declared.declarations.Declared.{Declared}
use Rattle.typenames.specs.TypeNames.{opening17}
use Rattle.typenames.specs.internal.Declarations.{declared_from}

-- the names that are still to come
abbrev pub declared_left : Declared → List (List ℕ)
declared_left d = declared_from opening17 d.source.now d.tokens.now d.from zero
