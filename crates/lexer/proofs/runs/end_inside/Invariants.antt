-- `lexer::runs::end_inside` meets its contract: the place reached and what is left to run make the whole run, which ends inside.
-- Assumes nothing.
use Prim.Native.Nat.{◌-◌}
use lib.ListN.{length}
use Rattle.lexer.specs.internal.Leaves.{Goes}
use Rattle.lexer.proofs.runs.end_inside.Given as goal

abbrev pub invariant-loop-end : goal.invariant-loop-end
invariant-loop-end g l = Goes (g.T.ByteTest.holds l.test) l.source l.at l.end

abbrev pub decreases-loop-end : goal.decreases-loop-end
decreases-loop-end g l = length l.source - l.end
