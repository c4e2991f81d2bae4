-- `Reading::plain_name` meets its contract. Assumes nothing.
use mathlib.Core.Path.{refl, sym, ◌∙◌}
use borrow.Author.Tests.{eqb-true}
use Rattle.lexer.specs.Tests.{and}
use Rattle.parser.specs.internal.Steps.{next_kind, step_at}
use Rattle.parser.specs.internal.Readings.{names_in}
use Rattle.parser.proofs.Laws.Questions.{plain_next, plain_named}
use Rattle.parser.proofs.reading.Reading.plain_name.Goals as goal

pub returns-then-next_is : goal.returns-then-next_is
unfolding next_kind
returns-then-next_is c =
    let r = c.args.self.now in
    plain_named r.tokens.now (step_at c.args.from) _ _ refl r.source.now (names_in r.source.now r.prepared.now r.tokens.now r.scope) _
    (eqb-true _ _ (sym c.next_is.ensures ∙ c.if-next_is.true)) c.is_type_name.ensures

pub returns-else-next_is : goal.returns-else-next_is
unfolding next_kind and
returns-else-next_is c =
    let r = c.args.self.now in
    rw (
      plain_next r.tokens.now (step_at c.args.from) _ _ refl r.source.now (names_in r.source.now r.prepared.now r.tokens.now r.scope),
      sym c.next_is.ensures ∙ c.if-next_is.false,
    ) c.if-next_is.false
