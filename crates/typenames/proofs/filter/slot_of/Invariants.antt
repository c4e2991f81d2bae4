-- `typenames::filter::slot_of` meets its contract: the bytes that are left make the slot out of what the bytes before made.
-- Assumes nothing.
use Prim.Native.Nat.{◌<◌}
use mathlib.Core.Path.{◌≡◌}
use lib.ListN.{drop}
use Rattle.typenames.specs.internal.Prepared.{slots, hash_from, slot_of}
use Rattle.typenames.proofs.filter.slot_of.Given as goal

abbrev pub invariant-loop-b : goal.invariant-loop-b
invariant-loop-b l = (l.slot < slots) × (slot_of l.word ≡ hash_from l.slot (drop l.b-index l.word))
