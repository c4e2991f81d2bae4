-- `nurl::text::Text::put_row` meets its contract: the four numbers of the row one after the other. Assumes nothing.
use Rattle.nurl.proofs.Laws.Texts.{writes_append, writes_cut}
use Rattle.nurl.proofs.text.Text.put_row.Goals as goal

pub returns-in_err-put_number : goal.returns-in_err-put_number
returns-in_err-put_number c = rw (← c.kind_at.ensures) (writes_cut _ c.from_residual.ensures c.in_err-put_number.ensures)

pub returns-in_err-put_number-2 : goal.returns-in_err-put_number-2
returns-in_err-put_number-2 c =
    rw (← c.kind_at.ensures, ← c.first_at.ensures)
    (writes_append c.in_ok-put_number.ensures
    (writes_cut _ c.from_residual-in_err-put_number-2.ensures c.in_err-put_number-2.ensures))

pub returns-in_err-put_number-3 : goal.returns-in_err-put_number-3
returns-in_err-put_number-3 c =
    rw (← c.kind_at.ensures, ← c.first_at.ensures, ← c.cover_at.ensures)
    (writes_append c.in_ok-put_number.ensures
    (writes_append c.in_ok-put_number-2.ensures
    (writes_cut _ c.from_residual-in_err-put_number-3.ensures c.in_err-put_number-3.ensures)))

pub returns : goal.returns
returns c =
    rw (← c.kind_at.ensures, ← c.first_at.ensures, ← c.cover_at.ensures, ← c.count_at.ensures)
    (writes_append c.in_ok-put_number.ensures
    (writes_append c.in_ok-put_number-2.ensures (writes_append c.in_ok-put_number-3.ensures c.put_number-4.ensures)))
