-- `lexer::words::joins_end` meets its contract: the place reached and the joins from there on make the whole.
-- Assumes nothing.
use mathlib.Core.Path.{◌∙◌, refl, sym}
use native.Mathlib.Nat.{add-zero}
use Rattle.lexer.proofs.Laws.Words.{joins_none_at, joins_lost_at, joins-more_at, colons_inside}
use native.Mathlib.Omega.{arith}
use Rattle.lexer.proofs.words.joins_end.Goals as goal

pub loop-part-init : goal.loop-part-init
loop-part-init c = refl

pub overflow_add-part : goal.overflow_add-part
overflow_add-part c =
    let args = c.args in
    let loop = c.loop-part in
    let two-colons = c.two_colons in
    let i = colons_inside args.source.now loop.i (sym two-colons.ensures ∙ c.loop-part-test.true) in
    omega arith

pub returns-then-next-part : goal.returns-then-next-part
returns-then-next-part c =
    let args = c.args in
    let loop = c.loop-part in
    let ident-end = c.ident_end-next in
    sym (add-zero _) ∙ rw (joins_lost_at args.source.now loop.i (let e = ident-end.ensures in let t = c.if-next-part.true in omega arith)) at loop.invariant

pub loop-part-smaller : goal.loop-part-smaller
loop-part-smaller c =
    let args = c.args in
    let loop = c.loop-part in
    let two-colons = c.two_colons in
    let if1 = c.loop-part-test in
    let ident-end = c.ident_end-next in
    let i = colons_inside args.source.now loop.i (sym two-colons.ensures ∙ if1.true) in
    let e = ident-end.ensures in
    let t = c.if-next-part.false in
    omega arith

pub loop-part-preserved : goal.loop-part-preserved
loop-part-preserved c =
    let args = c.args in
    let loop = c.loop-part in
    let two-colons = c.two_colons in
    let if1 = c.loop-part-test in
    let ident-end = c.ident_end-next in
    let more = joins-more_at args.source.now loop.i (sym two-colons.ensures ∙ if1.true) in
    rw ident-end.ensures (sym (more (let e = ident-end.ensures in let t = c.if-next-part.false in omega arith)) ∙ loop.invariant)

pub returns : goal.returns
returns c =
    let args = c.args in
    let loop = c.loop-part in
    let two-colons = c.two_colons in
    sym (add-zero _) ∙ rw (joins_none_at args.source.now loop.i (sym two-colons.ensures ∙ c.loop-part-test.false)) at loop.invariant
