-- `Reading::take` meets its contract. Assumes nothing.
use mathlib.Core.Path.{sym, ◌∙◌}
use Rattle.parser.specs.internal.Steps.{taken_by, refused_at, next_kind}
use Rattle.parser.proofs.Laws.Results.{taken_within}
use Rattle.parser.proofs.reading.Reading.take.Goals as goal

pub returns-then-next_is-clause-answer : goal.returns-then-next_is-clause-answer
unfolding taken_by next_kind
returns-then-next_is-clause-answer c = rw (sym c.next_is.ensures ∙ c.if-next_is.true)

pub returns-then-next_is-clause-arrives : goal.returns-then-next_is-clause-arrives
returns-then-next_is-clause-arrives c = taken_within c.args.kind c.requires (sym c.next_is.ensures ∙ c.if-next_is.true)

pub returns-clause-answer : goal.returns-clause-answer
unfolding taken_by refused_at next_kind
returns-clause-answer c = rw (sym c.next_is.ensures ∙ c.if-next_is.false) c.no_program.ensures
