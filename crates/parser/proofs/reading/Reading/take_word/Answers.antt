-- `Reading::take_word` meets its contract. Assumes nothing.
use mathlib.Core.Path.{sym, ap, ◌∙◌}
use Rattle.lexer.specs.Tests.{among}
use Rattle.parser.specs.internal.Steps.{taken_by, refused_at, next_kind, word_kinds}
use Rattle.parser.specs.internal.Words.{with_keywords}
use Rattle.parser.proofs.Laws.Results.{wide, taken_word_within}
use Rattle.parser.proofs.reading.Reading.take_word.Goals as goal

pub returns-then-has-clause-answer : goal.returns-then-has-clause-answer
unfolding taken_by next_kind
returns-then-has-clause-answer c =
    rw (ap (among (word_kinds (with_keywords c.args.words))) (sym c.kind.ensures) ∙ sym c.has.ensures ∙ c.if-has.true)

pub returns-then-has-clause-arrives : goal.returns-then-has-clause-arrives
returns-then-has-clause-arrives c =
    taken_word_within (with_keywords c.args.words) (wide c.requires)
    (ap (among (word_kinds (with_keywords c.args.words))) (sym c.kind.ensures) ∙ sym c.has.ensures ∙ c.if-has.true)

pub returns-clause-answer : goal.returns-clause-answer
unfolding taken_by refused_at next_kind
returns-clause-answer c =
    rw (ap (among (word_kinds (with_keywords c.args.words))) (sym c.kind.ensures) ∙ sym c.has.ensures ∙ c.if-has.false) c.no_program.ensures
