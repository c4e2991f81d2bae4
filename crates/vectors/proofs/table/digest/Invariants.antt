-- The sum stays below the prime.
use Rattle.std.proofs.Common.{◌<◌}
use Rattle.vectors.proofs.table.digest.Given as goal

abbrev pub invariant-loop-n : goal.invariant-loop-n
invariant-loop-n l = l.sum < 4294967291
