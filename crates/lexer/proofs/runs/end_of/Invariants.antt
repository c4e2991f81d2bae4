-- `lexer::runs::end_of` meets its contract: the place reached and what is left to run make the whole run. Assumes nothing.
use Prim.Native.Nat.{◌≤◌, max}
use lib.ListN.{length}
use Rattle.lexer.specs.internal.Leaves.{Goes}
use Rattle.lexer.proofs.runs.end_of.Given as goal

abbrev pub invariant-loop-end : goal.invariant-loop-end
invariant-loop-end g l = Goes (g.T.ByteTest.holds l.test) l.source l.at l.end × (l.end ≤ max l.at (length l.source))
