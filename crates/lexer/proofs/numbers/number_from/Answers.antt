-- `lexer::numbers::number_from` meets its contract: after the digits a fraction, and then an exponent. Assumes nothing.
use mathlib.Core.Path.{sym}
use native.Mathlib.Omega.{arith}
use Rattle.lexer.proofs.Laws.Numbers.{int-from, float-from}
use Rattle.lexer.proofs.numbers.number_from.Goals as goal

pub returns-then-point-whole : goal.returns-then-point-whole
returns-then-point-whole c =
    let pre = c.requires in
    let point = c.fraction_end-point.ensures in
    let none = c.if-point-whole.true in
    sym (int-from _ _ _ pre.0 (omega arith))

pub returns : goal.returns
returns c =
    let pre = c.requires in
    let point = c.fraction_end-point.ensures in
    let some = c.if-point-whole.false in
    sym (float-from _ _ _ pre.0 _ _ point (omega arith) c.exponent_end-end.ensures)
