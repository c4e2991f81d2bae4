-- `nurl::text::Text::put_answer` meets its contract. Assumes nothing.
use Rattle.lexer.specs.Text.{bytes}
use Rattle.nurl.specs.Texts.{answer_text}
use Rattle.nurl.proofs.Laws.Texts.{writes_append, writes_cut}
use Rattle.nurl.proofs.text.Text.put_answer.Goals as goal

pub returns-in_err-put_line-in-Accepted : goal.returns-in_err-put_line-in-Accepted
unfolding answer_text bytes
returns-in_err-put_line-in-Accepted c = rw c.in-Accepted.is (writes_cut _ c.from_residual.ensures c.in_err-put_line-in-Accepted.ensures)

pub returns-in_ok-put_line-in-Accepted : goal.returns-in_ok-put_line-in-Accepted
unfolding answer_text bytes
returns-in_ok-put_line-in-Accepted c = rw c.in-Accepted.is (writes_append c.in_ok-put_line-in-Accepted.ensures c.put_rows.ensures)

pub returns-in-Refused : goal.returns-in-Refused
unfolding answer_text bytes
returns-in-Refused c = rw c.in-Refused.is c.put_line-in-Refused.ensures
