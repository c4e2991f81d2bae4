-- `Reading::opens_struct` meets its contract. Assumes nothing.
use mathlib.Core.Path.{refl, sym, ◌∙◌}
use native.Mathlib.Omega.{arith}
use borrow.Author.Tests.{eqb-true}
use Rattle.lexer.specs.Tests.{and, or}
use Rattle.parser.specs.internal.Steps.{next_kind, step_at}
use Rattle.parser.proofs.Laws.Views.{kind-inside}
use Rattle.lexer.specs.internal.Kinds.{ident}
use Rattle.parser.proofs.Laws.Questions.{struct_opens}
use Rattle.parser.proofs.reading.Reading.opens_struct.Goals as goal

pub overflow_add-from : goal.overflow_add-from
unfolding next_kind
overflow_add-from c =
    let inside = kind-inside c.args.self.now.tokens.now c.args.from.token ident (eqb-true _ _ (sym c.next_is.ensures ∙ c.if-next_is.true)) (omega arith) in
    omega (arith, inside)

pub overflow_add-from-else-stands : goal.overflow_add-from-else-stands
unfolding next_kind
overflow_add-from-else-stands c =
    let inside = kind-inside c.args.self.now.tokens.now c.args.from.token ident (eqb-true _ _ (sym c.next_is.ensures ∙ c.if-next_is.true)) (omega arith) in
    omega (arith, inside)

pub returns-then-stands : goal.returns-then-stands
unfolding next_kind and or
returns-then-stands c = λ source e.
    rw (
      ← struct_opens c.args.self.now.tokens.now (step_at c.args.from) _ _ refl source e,
      sym c.next_is.ensures ∙ c.if-next_is.true,
      sym c.stands.ensures ∙ c.if-stands.true,
    ) c.if-stands.true

pub returns-else-stands : goal.returns-else-stands
unfolding next_kind and or
returns-else-stands c = λ source e.
    rw (
      ← struct_opens c.args.self.now.tokens.now (step_at c.args.from) _ _ refl source e,
      sym c.next_is.ensures ∙ c.if-next_is.true,
      sym c.stands.ensures ∙ c.if-stands.false,
    ) c.stands-else-stands.ensures

pub returns-else-next_is : goal.returns-else-next_is
unfolding next_kind and
returns-else-next_is c = λ source e.
    rw (← struct_opens c.args.self.now.tokens.now (step_at c.args.from) _ _ refl source e, sym c.next_is.ensures ∙ c.if-next_is.false)
    c.if-next_is.false
