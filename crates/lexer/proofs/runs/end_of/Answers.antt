-- `lexer::runs::end_of` meets its contract: the place reached and what is left to run make the whole run. Assumes nothing.
use mathlib.Core.Path.{◌≡◌, refl, sym, ◌∙◌}
use native.Mathlib.Omega.{arith}
use Rattle.lexer.proofs.Laws.Runs.{follow_on, follow_ends, follow_past}
use Rattle.lexer.proofs.runs.end_of.Goals as goal

pub loop-end-init : goal.loop-end-init
loop-end-init g c = (refl, omega arith)

pub loop-end-preserved : goal.loop-end-preserved
loop-end-preserved g c =
    let inside = c.loop-end-test.true in
    (follow_on (g.T.ByteTest.holds c.args.test.now) _ _ _ c.loop-end.invariant.0 inside (sym c.passes.ensures ∙ c.if-not-passes.false), omega arith)

pub returns-then-not-passes : goal.returns-then-not-passes
returns-then-not-passes g c =
    follow_ends (g.T.ByteTest.holds c.args.test.now) _ _ _ c.loop-end.invariant.0 c.loop-end-test.true (sym c.passes.ensures ∙ c.if-not-passes.true)

pub returns : goal.returns
returns g c =
    let past = c.loop-end-test.false in
    let upto = c.loop-end.invariant.1 in
    let on = c.loop-end.auto.end in
    let last : c.max.result ≡ c.loop-end.end = omega (arith, c.max.ensures) in
    last ∙ follow_past (g.T.ByteTest.holds c.args.test.now) _ _ _ c.loop-end.invariant.0 past
