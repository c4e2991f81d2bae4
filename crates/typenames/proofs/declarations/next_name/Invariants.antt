-- `typenames::declarations::next_name` meets its contract: no name is declared before the row reached. Assumes nothing.
use Prim.Native.Nat.{◌≤◌}
use Rattle.typenames.specs.TypeNames.{opening17}
use Rattle.typenames.proofs.Laws.Declared.{Reached}
use Rattle.typenames.proofs.declarations.next_name.Given as goal

abbrev pub invariant-loop-at : goal.invariant-loop-at
invariant-loop-at l = (l.depth ≤ l.at) × Reached opening17 l.tokens l.from l.at l.depth
