-- `Reading::names_before_arrow` meets its contract. Assumes nothing.
use Prim.Native.Nat.{◌+◌}
use mathlib.Core.Path.{◌≡◌}
use mathlib.Core.Path.{sym, ◌∙◌}
use native.Mathlib.Omega.{arith}
use borrow.Author.Tests.{eqb-true}
use Rattle.lexer.specs.Tests.{and}
use Rattle.lexer.proofs.Laws.Tests.{and-true}
use Rattle.parser.specs.internal.Steps.{next_kind, kinds_at}
use Rattle.parser.proofs.Laws.Views.{kind-inside}
use Rattle.lexer.specs.internal.Kinds.{ident}
use Rattle.parser.proofs.reading.Reading.names_before_arrow.Goals as goal

pub overflow_add-from : goal.overflow_add-from
unfolding next_kind
overflow_add-from c =
    let inside = kind-inside c.args.self.now.tokens.now c.args.from.token ident (eqb-true _ _ (sym c.next_is.ensures ∙ c.if-next_is.true)) (omega arith) in
    omega (arith, inside)

pub overflow_add-from-then-stands : goal.overflow_add-from-then-stands
overflow_add-from-then-stands c =
    let inside = kind-inside c.args.self.now.tokens.now (c.args.from.token + 1) ident (eqb-true _ _ (sym c.stands.ensures ∙ c.if-stands.true)) (omega arith) in
    omega (arith, inside)

pub returns-then-stands : goal.returns-then-stands
unfolding next_kind kinds_at and
returns-then-stands c =
    let third : c.args.from.token + 1 + 1 ≡ c.args.from.token + 2 = omega arith in
    rw (third, sym c.next_is.ensures ∙ c.if-next_is.true, sym c.stands.ensures ∙ c.if-stands.true, and-true) c.stands-then-stands.ensures

pub returns-else-stands : goal.returns-else-stands
unfolding next_kind kinds_at and
returns-else-stands c = rw (sym c.next_is.ensures ∙ c.if-next_is.true, sym c.stands.ensures ∙ c.if-stands.false) c.if-stands.false

pub returns-else-next_is : goal.returns-else-next_is
unfolding next_kind kinds_at and
returns-else-next_is c = rw (sym c.next_is.ensures ∙ c.if-next_is.false) c.if-next_is.false
