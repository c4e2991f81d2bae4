-- `nurl::text::Text::put_rows` meets its contract. Assumes nothing.
use Rattle.std.proofs.Common.{◌≡◌, ◌+◌, ◌-◌, min, add-one, arith}
use Rattle.tree.specs.TreeTable.{tree_room}
use Rattle.nurl.specs.Texts.{row_lines}
use Rattle.nurl.proofs.Laws.Texts.{writes_nothing, writes_append, rows_cut}
use Rattle.nurl.proofs.text.Text.put_rows.Goals as goal

pub loop-row-init : goal.loop-row-init
unfolding row_lines
loop-row-init c = writes_nothing _

pub loop-row-preserved : goal.loop-row-preserved
unfolding row_lines
loop-row-preserved c = rw (add-one c.loop-row.row) (writes_append c.loop-row.invariant c.in_ok-put_row.ensures)

pub returns-in_err-put_row : goal.returns-in_err-put_row
unfolding row_lines
returns-in_err-put_row c =
    let row = c.loop-row.row in
    let count = min c.args.count (tree_room c.args.rows.now) in
    let cut = writes_append c.loop-row.invariant c.in_err-put_row.ensures in
    let all : count ≡ (row + 1) + (count - (row + 1)) = omega arith in
    rw (c.from_residual.ensures, all) (rows_cut _ (row + 1) _ (rw (add-one row) cut))
