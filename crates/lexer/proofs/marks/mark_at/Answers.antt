-- `lexer::marks::mark_at` meets its contract: where no `→` begins, two bytes decide, or one where no other follows. Assumes nothing.
use Prim.Native.Nat.{◌+◌}
use mathlib.Core.Path.{◌∙◌, sym}
use borrow.Author.Tests.{ltb-true, ltb-false}
use Rattle.lexer.proofs.Laws.Fronts.{front_none, front_last, byte_there}
use Rattle.lexer.proofs.Laws.Editions.{fits}
use Rattle.lexer.proofs.Laws.Marks.{mark_nil, one_alone, two_enough_at, three_enough_at}
use Rattle.lexer.proofs.marks.mark_at.Goals as goal

pub returns-in_default : goal.returns-in_default
returns-in_default c =
    let args = c.args in
    let past = ltb-false _ _ (sym c.in_default.ensures.lookup.0) in
    rw (front_none args.source.now args.at past) (sym (mark_nil _ (fits args.edition)))

pub returns-then-first : goal.returns-then-first
returns-then-first c =
    let args = c.args in
    let look = c.in-Some.ensures.lookup in
    let inside = ltb-true _ _ (sym look.0) in
    let arrow = byte_there args.source.now args.at _ inside look.1 ∙ c.if-first.true in
    c.arrow_at.ensures ∙ sym (three_enough_at _ (fits args.edition) args.source.now args.at inside arrow)

pub returns-in-Some-get : goal.returns-in-Some-get
returns-in-Some-get c =
    let args = c.args in
    let look = c.in-Some.ensures.lookup in
    let inside = ltb-true _ _ (sym look.0) in
    let there = byte_there args.source.now args.at _ inside look.1 in
    let next = c.in-Some-get.ensures.lookup in
    let second = byte_there args.source.now (args.at + 1) _ (ltb-true _ _ (sym next.0)) next.1 in
    rw (two_enough_at _ (fits args.edition) args.source.now args.at inside (λ e. c.if-first.false (sym there ∙ e)), there, second)
    c.mark_of_two.ensures

pub returns-in-None : goal.returns-in-None
returns-in-None c =
    let args = c.args in
    let look = c.in-Some.ensures.lookup in
    let inside = ltb-true _ _ (sym look.0) in
    let there = byte_there args.source.now args.at _ inside look.1 in
    let past = ltb-false _ _ (sym c.in-None.ensures.lookup.0) in
    rw (front_last args.source.now args.at inside past, there, one_alone _ (fits args.edition)) c.mark_of_one.ensures
