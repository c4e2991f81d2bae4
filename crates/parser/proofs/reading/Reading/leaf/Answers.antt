-- `Reading::leaf` meets its contract. Assumes nothing.
use mathlib.Core.Path.{ap, ◌∙◌}
use Rattle.parser.specs.internal.Steps.{step_at}
use Rattle.parser.proofs.Laws.Results.{closable_leaf}
use Rattle.parser.proofs.reading.Reading.leaf.Goals as goal

pub close_row-requires : goal.close_row-requires
close_row-requires c =
    rw c.open-to.ensures.answer (closable_leaf c.args.self.now.tokens_good c.requires.stands c.requires.some)

pub returns-clause-answer : goal.returns-clause-answer
returns-clause-answer c = ap step_at c.close_row.ensures.answer ∙ c.open-to.ensures.answer

pub returns-clause-table : goal.returns-clause-table
returns-clause-table c = rw (← c.open-to.ensures.answer) c.close_row.ensures.table
