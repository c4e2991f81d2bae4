-- `lexer::runs::stop_end` meets its contract: the place reached and what is left to run make the whole run, a block a turn. Assumes
-- nothing.
use mathlib.Core.Path.{refl, ◌∙◌}
use native.Mathlib.Omega.{arith}
use Rattle.lexer.proofs.runs.stop_end.Goals as goal

pub loop-i-init : goal.loop-i-init
loop-i-init c = refl

pub block_passes-requires : goal.block_passes-requires
block_passes-requires c =
    let bytes-from = c.saturating_sub-last in
    let last = bytes-from.ensures in
    let some = c.loop-i-test.true in
    omega arith

pub end_inside-requires : goal.end_inside-requires
end_inside-requires c =
    c.block_passes.ensures.source_in_bounds c.if-not-block_passes.true

pub returns-then-not-block_passes : goal.returns-then-not-block_passes
returns-then-not-block_passes c =
    let loop = c.loop-i in
    c.end_inside.ensures ∙ loop.invariant

pub overflow_add-i : goal.overflow_add-i
overflow_add-i c =
    let bytes-from = c.saturating_sub-last in
    let loop-test = c.loop-i-test in
    let last = bytes-from.ensures in
    let some = loop-test.true in
    omega arith

pub loop-i-smaller : goal.loop-i-smaller
loop-i-smaller c =
    let bytes-from = c.saturating_sub-last in
    let loop-test = c.loop-i-test in
    let last = bytes-from.ensures in
    let some = loop-test.true in
    omega arith

pub loop-i-preserved : goal.loop-i-preserved
loop-i-preserved c =
    let loop = c.loop-i in
    c.block_passes.ensures.goes c.if-not-block_passes.false ∙ loop.invariant

pub returns : goal.returns
returns c =
    let loop = c.loop-i in
    c.end_of.ensures ∙ loop.invariant
