-- `nurl::text::Text::put_line` meets its contract. Assumes nothing.
use Rattle.nurl.proofs.Laws.Texts.{writes_append, writes_cut}
use Rattle.nurl.proofs.text.Text.put_line.Goals as goal

pub returns-in_err-put_bytes : goal.returns-in_err-put_bytes
returns-in_err-put_bytes c = writes_cut _ c.from_residual.ensures c.in_err-put_bytes.ensures

pub returns-in_err-put_number : goal.returns-in_err-put_number
returns-in_err-put_number c =
    writes_append c.in_ok-put_bytes.ensures (writes_cut _ c.from_residual-in_err-put_number.ensures c.in_err-put_number.ensures)

pub returns : goal.returns
returns c = writes_append c.in_ok-put_bytes.ensures (writes_append c.in_ok-put_number.ensures c.put_number-2.ensures)
