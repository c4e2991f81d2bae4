-- `Reading::take_if` meets its contract. Assumes nothing.
use mathlib.Core.Path.{sym, ◌∙◌}
use Rattle.parser.specs.internal.Steps.{taken_if, next_kind}
use Rattle.parser.proofs.Laws.Results.{wide, taken_within}
use Rattle.parser.proofs.reading.Reading.take_if.Goals as goal

pub returns-then-next_is-clause-answer : goal.returns-then-next_is-clause-answer
unfolding taken_if next_kind
returns-then-next_is-clause-answer c = rw (sym c.next_is.ensures ∙ c.if-next_is.true)

pub returns-then-next_is-clause-stands : goal.returns-then-next_is-clause-stands
returns-then-next_is-clause-stands c = taken_within c.args.kind (wide c.requires) (sym c.next_is.ensures ∙ c.if-next_is.true)

pub returns-clause-answer : goal.returns-clause-answer
unfolding taken_if next_kind
returns-clause-answer c = rw (sym c.next_is.ensures ∙ c.if-next_is.false)
