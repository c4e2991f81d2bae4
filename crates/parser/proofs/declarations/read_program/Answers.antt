-- `read_program` meets its contract: the whole rows are lent, and a refusal clears them. Assumes nothing.
use Prim.Native.Nat.{ℕ, ◌*◌}
use mathlib.Core.Path.{sym, ap}
use Rattle.tree.specs.TreeTable.{tree_width}
use Rattle.parser.proofs.Laws.WholeRows.{kept_whole, cleared_whole}
use Rattle.parser.proofs.declarations.read_program.Goals as goal

pub returns-then-refused-clause-reads : goal.returns-then-refused-clause-reads
returns-then-refused-clause-reads c =
    (cleared_whole c.args.rows.now _ (ap (λ (n : ℕ). n * tree_width) c.room-end.ensures) _ c.whole_program-read.ensures
    (sym c.if-refused.ensures.value) _ c.clear.ensures).0

pub returns-then-refused-clause-refused : goal.returns-then-refused-clause-refused
returns-then-refused-clause-refused c =
    (cleared_whole c.args.rows.now _ (ap (λ (n : ℕ). n * tree_width) c.room-end.ensures) _ c.whole_program-read.ensures
    (sym c.if-refused.ensures.value) _ c.clear.ensures).1

pub returns-else-refused-clause-reads : goal.returns-else-refused-clause-reads
returns-else-refused-clause-reads c =
    (kept_whole c.args.rows.now _ (ap (λ (n : ℕ). n * tree_width) c.room-end.ensures) _ c.whole_program-read.ensures
    (sym c.if-refused.ensures.value)).0
