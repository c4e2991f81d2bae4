-- `Reading::zero_or_one` meets its contract. Assumes nothing.
use mathlib.Core.Path.{refl, sym, ◌∙◌}
use Rattle.lexer.specs.Tests.{and}
use Rattle.parser.specs.internal.Steps.{next_kind, step_at}
use Rattle.parser.proofs.Laws.Questions.{bit_next}
use Rattle.parser.proofs.reading.Reading.zero_or_one.Goals as goal

pub returns-then-next_is : goal.returns-then-next_is
unfolding next_kind and
returns-then-next_is c = λ e.
    rw (
      ← bit_next c.args.self.now.tokens.now (step_at c.args.from) _ _ refl c.args.self.now.source.now e,
      ← c.text_at.ensures,
      sym c.next_is.ensures ∙ c.if-next_is.true,
    ) c.is_bit.ensures

pub returns-else-next_is : goal.returns-else-next_is
unfolding next_kind and
returns-else-next_is c = λ e.
    rw (
      ← bit_next c.args.self.now.tokens.now (step_at c.args.from) _ _ refl c.args.self.now.source.now e,
      sym c.next_is.ensures ∙ c.if-next_is.false,
    ) c.if-next_is.false
