-- `lexer::runs::end_inside` meets its contract: the place reached and what is left to run make the whole run, which ends inside.
-- Assumes nothing.
use mathlib.Core.Path.{sym, ◌∙◌}
use native.Mathlib.Omega.{arith}
use Rattle.lexer.proofs.Laws.Runs.{follow_on, follow_ends}
use Rattle.lexer.proofs.runs.end_inside.Goals as goal

pub loop-end-preserved : goal.loop-end-preserved
loop-end-preserved g c =
    let so_far = c.loop-end.invariant in
    let ends = c.requires in
    follow_on (g.T.ByteTest.holds c.args.test.now) _ _ _ so_far (omega arith) (sym c.passes.ensures ∙ c.loop-end-test.true)

pub returns : goal.returns
returns g c =
    let so_far = c.loop-end.invariant in
    let ends = c.requires in
    follow_ends (g.T.ByteTest.holds c.args.test.now) _ _ _ so_far (omega arith) (sym c.passes.ensures ∙ c.loop-end-test.false)
