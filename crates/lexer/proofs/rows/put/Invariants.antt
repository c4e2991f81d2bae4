-- `lexer::rows::put` meets its contract: so many numbers of the row are written. Assumes nothing.
use mathlib.Core.Path.{◌≡◌}
use lib.ListN.{length, take}
use lib.Seq.{sets}
use Rattle.lexer.proofs.rows.put.Given as goal

abbrev pub invariant-loop-column : goal.invariant-loop-column
invariant-loop-column g l = (length l.table ≡ length l.initial.table) × (l.table ≡ sets l.initial.table l.at (take l.column l.numbers))
