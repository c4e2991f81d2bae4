-- `lexer::locations::location_at` meets its contract: the numbers are those of the place reached. Assumes nothing.
use mathlib.Core.Path.{◌≡◌}
use Rattle.lexer.specs.Locations.{location_of}
use Rattle.lexer.specs.declared.Location.{Location}
use Rattle.lexer.proofs.locations.location_at.Given as goal

abbrev pub invariant-loop-b : goal.invariant-loop-b
invariant-loop-b l = ◌≡◌ {A = Location} (record { line = l.line; column = l.column }) (location_of l.source l.b-index)
