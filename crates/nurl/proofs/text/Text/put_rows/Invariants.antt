-- `nurl::text::Text::put_rows` meets its contract. The loop's invariant: the lines of the rows passed are written.
use Rattle.std.proofs.Common.{Some}
use Rattle.nurl.specs.Texts.{row_lines}
use Rattle.nurl.specs.internal.Writing.{Writes}
use Rattle.nurl.proofs.text.Text.put_rows.Given as goal

abbrev pub invariant-loop-row : goal.invariant-loop-row
invariant-loop-row l = Writes (row_lines l.rows l.row) l.initial.self (Some tt) l.self
