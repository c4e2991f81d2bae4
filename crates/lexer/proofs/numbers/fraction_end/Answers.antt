-- `lexer::numbers::fraction_end` meets its contract. Assumes nothing.
use mathlib.Core.Path.{◌∙◌, sym}
use native.Mathlib.Nat.{add-zero}
use Rattle.lexer.proofs.Laws.Numbers.{begins_inside, fraction-none, fraction_lost, fraction_found}
use native.Mathlib.Omega.{arith}
use Rattle.lexer.proofs.numbers.fraction_end.Goals as goal

pub overflow_add-from : goal.overflow_add-from
overflow_add-from c =
    let args = c.args in
    let begins-either = c.begins_either in
    let i = begins_inside args.source.now args.at 46 46 (sym begins-either.ensures ∙ c.if-begins_either.true) in
    omega arith

pub returns-then-from-end : goal.returns-then-from-end
returns-then-from-end c =
    let args = c.args in
    let run-end = c.run_end-end in
    let begins-either = c.begins_either in
    let if1 = c.if-begins_either in
    let a = args in
    let e = run-end.ensures in
    let t = c.if-from-end.true in
    e ∙ sym (fraction_found a.source.now a.at (sym begins-either.ensures ∙ if1.true) (omega arith))

pub returns-else-from-end : goal.returns-else-from-end
returns-else-from-end c =
    let args = c.args in
    let run-end = c.run_end-end in
    let a = args in
    let e = run-end.ensures in
    let t = c.if-from-end.false in
    rw (fraction_lost a.source.now a.at (omega arith)) (sym (add-zero _))

pub returns-else-begins_either : goal.returns-else-begins_either
returns-else-begins_either c =
    let args = c.args in
    let begins-either = c.begins_either in
    rw (fraction-none args.source.now args.at (sym begins-either.ensures ∙ c.if-begins_either.false)) (sym (add-zero _))
