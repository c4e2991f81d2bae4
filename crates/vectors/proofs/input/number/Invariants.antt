-- The value stays within the bound.
use Rattle.std.proofs.Common.{◌≤◌}
use Rattle.vectors.proofs.input.number.Given as goal

abbrev pub invariant-loop-i : goal.invariant-loop-i
invariant-loop-i l = l.value ≤ 20000255
