-- `typenames::declarations::Declared`'s `next` gives the first of the names that are still to come. Assumes nothing.
use mathlib.Core.Path.{◌≡◌, ◌∙◌, ap}
use mathlib.Core.List.{◌∷◌}
use lib.ListN.{length}
use native.Mathlib.Omega.{arith}
use Rattle.typenames.specs.TypeNames.{opening17}
use Rattle.typenames.specs.internal.Declared.{declared_left}
use Rattle.typenames.proofs.Laws.Declared.{row_here, row_none}
use Rattle.typenames.proofs.declarations.DeclaredIterator.next.Goals as goal
use Rattle.typenames.proofs.declarations.DeclaredIterator.next.Goals.{After-text_at}

-- the name that is given, and those that are still to come
given : (c : After-text_at) → let d = c.args.self.now in
    declared_left d ≡ c.text_at.result.now ∷ declared_left record { source = d.source; tokens = d.tokens; from = c.in_ok-row.row }
given c =
    let d = c.args.self.now in
    let source = d.source.now in
    c.in_ok-row.ensures.next.names source
    ∙ row_here opening17 source d.tokens.now c.in_ok-row.row c.in_ok-row.ensures.inside
    ∙ rw c.text_at.ensures

pub returns-in_err-row-clause-steps : goal.returns-in_err-row-clause-steps
returns-in_err-row-clause-steps c =
    let d = c.args.self.now in
    let none = c.in_err-row.ensures.next.names d.source.now ∙ row_none opening17 d.source.now d.tokens.now _ (omega arith) in
    rw c.from_residual.ensures (none, none)

pub returns-clause-steps : goal.returns-clause-steps
returns-clause-steps c = given (goal.at.returns-clause-steps c).After-text_at

pub returns-clause-goes : goal.returns-clause-goes
returns-clause-goes c =
    let less = ap length (given (goal.at.returns-clause-goes c).After-text_at) in
    record { on = λ _. (tt, tt, omega arith); keeps = tt; rests = λ _. tt }
