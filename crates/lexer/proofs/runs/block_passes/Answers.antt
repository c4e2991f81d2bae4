-- `lexer::runs::block_passes` meets its contract. Assumes nothing.
use mathlib.Core.Path.{sym, ◌∙◌}
use Rattle.lexer.specs.internal.Leaves.{block}
use Rattle.lexer.proofs.Laws.Tests.{not-true, not-false}
use Rattle.lexer.proofs.Laws.Runs.{block_goes, block_ends}
use Rattle.lexer.proofs.runs.block_passes.Goals as goal

pub returns-clause-goes : goal.returns-clause-goes
returns-clause-goes c = λ passes. block_goes c.args.stop c.args.source.now c.args.at block c.requires (sym c.contains.ensures.value ∙ not-true _ passes)

pub returns-clause-source_in_bounds : goal.returns-clause-source_in_bounds
returns-clause-source_in_bounds c =
    λ fails. block_ends c.args.stop c.args.source.now c.args.at block c.requires (sym c.contains.ensures.value ∙ not-false _ fails)
