-- `Reading::two_names` meets its contract. Assumes nothing.
use mathlib.Core.Path.{refl, sym, ◌∙◌}
use native.Mathlib.Omega.{arith}
use borrow.Author.Tests.{eqb-true}
use Rattle.lexer.specs.Tests.{and}
use Rattle.lexer.proofs.Laws.Tests.{and-true}
use Rattle.parser.specs.internal.Steps.{next_kind, kinds_at, step_at}
use Rattle.parser.proofs.Laws.Views.{kind-inside}
use Rattle.lexer.specs.internal.Kinds.{ident}
use Rattle.parser.proofs.Laws.Questions.{two_names_lem}
use Rattle.parser.proofs.reading.Reading.two_names.Goals as goal

pub overflow_add-from : goal.overflow_add-from
unfolding next_kind
overflow_add-from c =
    let inside = kind-inside c.args.self.now.tokens.now c.args.from.token ident (eqb-true _ _ (sym c.next_is.ensures ∙ c.if-next_is.true)) (omega arith) in
    omega (arith, inside)

pub returns-then-next_is : goal.returns-then-next_is
unfolding next_kind kinds_at and
returns-then-next_is c = λ source e.
    rw (← two_names_lem c.args.self.now.tokens.now (step_at c.args.from) _ _ refl source e, sym c.next_is.ensures ∙ c.if-next_is.true, and-true)
    c.stands.ensures

pub returns-else-next_is : goal.returns-else-next_is
unfolding next_kind kinds_at and
returns-else-next_is c = λ source e.
    rw (← two_names_lem c.args.self.now.tokens.now (step_at c.args.from) _ _ refl source e, sym c.next_is.ensures ∙ c.if-next_is.false)
    c.if-next_is.false
