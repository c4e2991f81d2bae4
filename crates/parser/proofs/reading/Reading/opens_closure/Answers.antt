-- `Reading::opens_closure` meets its contract. Assumes nothing.
use mathlib.Core.Path.{refl, sym, ◌∙◌}
use mathlib.Core.List.{[], ◌∷◌}
use native.Mathlib.Omega.{arith}
use Rattle.lexer.specs.Tests.{and, or, among}
use Rattle.lexer.specs.internal.Kinds.{left_paren, at}
use Rattle.lexer.proofs.Laws.Tests.{and-true, or-false}
use Rattle.parser.specs.internal.Steps.{next_kind, kinds_at, step_at}
use Rattle.parser.proofs.Laws.Views.{kind-inside}
use Rattle.parser.proofs.Laws.Kinds.{first_differs, one_among, none-among}
use Rattle.parser.proofs.Laws.Questions.{closure_kinds, closure_opens}
use Rattle.parser.proofs.reading.Reading.opens_closure.Goals as goal

pub overflow_add-from : goal.overflow_add-from
unfolding next_kind
overflow_add-from c =
    let inside = kind-inside c.args.self.now.tokens.now c.args.from.token _ (sym c.kind.ensures ∙ c.in-19.is) (omega arith) in
    omega (arith, inside)

pub returns-in-42 : goal.returns-in-42
unfolding next_kind or
returns-in-42 c = λ source e.
    rw (
      ← closure_opens c.args.self.now.tokens.now (step_at c.args.from) _ _ refl source e,
      ← c.kind.ensures,
      one_among closure_kinds c.kind.result c.in-42.is,
    )

pub returns-in-19 : goal.returns-in-19
unfolding next_kind and or among kinds_at
returns-in-19 c = λ source e.
    rw (← closure_opens c.args.self.now.tokens.now (step_at c.args.from) _ _ refl source e, ← c.kind.ensures, c.in-19.is, and-true, or-false)
    c.stands.ensures

pub returns-in_default : goal.returns-in_default
unfolding next_kind or
returns-in_default c = λ source e.
    let no-paren = first_differs c.args.self.now.tokens.now c.args.from.token left_paren (at ∷ []) (rw (← c.kind.ensures) search) in
    let none = none-among closure_kinds c.kind.result search in
    rw (← closure_opens c.args.self.now.tokens.now (step_at c.args.from) _ _ refl source e, ← c.kind.ensures, none, no-paren)
    c.names_before_arrow.ensures
