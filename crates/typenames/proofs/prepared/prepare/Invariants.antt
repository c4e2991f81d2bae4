-- `typenames::prepared::prepare` meets its contract: the bytes before the place reached are copied, and then the names so far are
-- marked in the copied list. Assumes nothing.
use mathlib.Core.Path.{◌≡◌}
use mathlib.Core.List.{map}
use lib.ListN.{length, take}
use Rattle.typenames.specs.internal.Prepared.{marked_all}
use Rattle.typenames.proofs.prepared.prepare.Given as goal

abbrev pub invariant-loop-at : goal.invariant-loop-at
invariant-loop-at l = (length l.to-items ≡ length l.names) × (take l.at l.to-items ≡ take l.at l.names)

abbrev pub invariant-loop-name : goal.invariant-loop-name
invariant-loop-name l = l.prepared ≡ marked_all l.initial.prepared (map (λ n. n.now) l.yielded)
