-- What stands there is no more than the source, and nothing only where that is empty.
use Rattle.std.proofs.Common.{◌≡◌, ◌≤◌, ◌-◌, length}
use Rattle.vectors.proofs.input.Case.source.Given as goal

abbrev pub invariant-loop-done : goal.invariant-loop-done
invariant-loop-done l = (length l.source ≡ l.size) × (l.done ≤ l.size) × (l.done ≡ 0 → l.size ≡ 0)

abbrev pub decreases-loop-done : goal.decreases-loop-done
decreases-loop-done l = l.size - l.done
