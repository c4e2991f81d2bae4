-- `typenames::list::check_names` meets its contract: the answer for the entries that are left is the whole answer, and they and their
-- bytes 10 are within the list. Assumes nothing.
use Prim.Native.Nat.{◌≤◌, ◌+◌}
use mathlib.Core.Path.{◌≡◌}
use lib.ListN.{length}
use Rattle.lexer.specs.Editions.{edition17}
use Rattle.typenames.specs.NameList.{entries, first_bad}
use Rattle.typenames.specs.internal.Entries.{entries_left}
use Rattle.typenames.proofs.Laws.Entries.{extent}
use Rattle.typenames.proofs.list.check_names.Given as goal

abbrev pub invariant-loop-entry : goal.invariant-loop-entry
invariant-loop-entry l =
    let left = entries_left l.entry-iterator in
    (l.place + extent left ≤ length l.list + 1) × (first_bad edition17 0 (entries l.list) ≡ first_bad edition17 l.place left)
