-- `Reading::optional_list` meets its contract. Assumes nothing.
use mathlib.Core.Path.{◌∙◌, sym}
use Rattle.parser.specs.internal.Words.{with_keywords}
use Rattle.parser.proofs.Laws.Lists.{optional_some, optional_none}
use Rattle.parser.proofs.reading.Reading.optional_list.Goals as goal

pub returns-then-opens_list-clause-reads : goal.returns-then-opens_list-clause-reads
returns-then-opens_list-clause-reads c = λ source e.
    optional_some source _ c.args.self.now.tokens_good e (with_keywords c.args.words)
    (λ source e. sym c.if-opens_list.true ∙ c.opens_list.ensures source e) c.requires (c.list.ensures.reads source e)

pub returns-clause-reads : goal.returns-clause-reads
returns-clause-reads c = λ source e.
    optional_none source _ c.args.self.now.tokens_good e (with_keywords c.args.words)
    (λ source e. sym c.if-opens_list.false ∙ c.opens_list.ensures source e) c.requires
