-- `Reading::selector` meets its contract. Assumes nothing.
use Rattle.parser.proofs.Laws.Expressions.{selector_some, selector_none}
use Rattle.parser.proofs.reading.Reading.selector.Goals as goal

pub returns-then-zero_or_one-clause-reads : goal.returns-then-zero_or_one-clause-reads
returns-then-zero_or_one-clause-reads c = λ e.
    selector_some c.args.self.now.source.now _ c.args.self.now.tokens_good e c.requires (c.zero_or_one.ensures e) c.if-zero_or_one.true
    (c.literal.ensures.reads _ e)

pub returns-clause-reads : goal.returns-clause-reads
returns-clause-reads c = λ e.
    selector_none c.args.self.now.source.now _ c.args.self.now.tokens_good e c.requires (c.zero_or_one.ensures e) c.if-zero_or_one.false
