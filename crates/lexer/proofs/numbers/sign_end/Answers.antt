-- `lexer::numbers::sign_end` meets its contract. Assumes nothing.
use mathlib.Core.Path.{◌∙◌, refl, sym}
use native.Mathlib.Nat.{add-zero}
use Rattle.lexer.proofs.Laws.Numbers.{begins_inside, sign_some, sign-none}
use native.Mathlib.Omega.{arith}
use Rattle.lexer.proofs.numbers.sign_end.Goals as goal

pub overflow_add-result : goal.overflow_add-result
overflow_add-result c =
    let args = c.args in
    let begins-either = c.begins_either in
    let i = begins_inside args.source.now args.at 43 45 (sym begins-either.ensures ∙ c.if-begins_either.true) in
    omega arith

pub returns-then-begins_either : goal.returns-then-begins_either
returns-then-begins_either c =
    let args = c.args in
    let begins-either = c.begins_either in
    rw (sign_some args.source.now args.at (sym begins-either.ensures ∙ c.if-begins_either.true)) refl

pub returns : goal.returns
returns c =
    let args = c.args in
    let begins-either = c.begins_either in
    rw (sign-none args.source.now args.at (sym begins-either.ensures ∙ c.if-begins_either.false)) (sym (add-zero _))
