-- `nurl::text::Text::put_number` meets its contract. Assumes nothing.
use Rattle.nurl.proofs.Laws.Texts.{writes_append, writes_cut}
use Rattle.nurl.proofs.text.Text.put_number.Goals as goal

pub returns-in_err-put_decimal : goal.returns-in_err-put_decimal
returns-in_err-put_decimal c = writes_cut _ c.from_residual.ensures c.in_err-put_decimal.ensures

pub returns : goal.returns
returns c = writes_append c.in_ok-put_decimal.ensures c.put_byte.ensures
