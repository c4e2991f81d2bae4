-- `typenames::compare::Read`'s `next` gives what the first of the bytes that are left is read as. Assumes nothing.
use mathlib.Core.Path.{refl, sym, ap}
use mathlib.Core.Bool.{true, false}
use lib.ListN.{length}
use native.Mathlib.Omega.{arith}
use Rattle.typenames.proofs.Laws.Compared.{read_none, read_step}
use Rattle.typenames.proofs.compare.ReadIterator.next.Goals as goal

pub returns-in_err-first-clause-steps : goal.returns-in_err-first-clause-steps
returns-in_err-first-clause-steps c =
    let args = c.args in
    let none = read_none args.self.now.inside args.self.now.rest.now c.in_err-first.ensures.cases in
    rw c.from_residual.ensures (none, none)

pub returns-then-two_colons-clause-steps : goal.returns-then-two_colons-clause-steps
returns-then-two_colons-clause-steps c =
    read_step _ _ _ _ true true c.in_ok-first.ensures.cases.0 c.if-self.false refl (sym c.if-two_colons.ensures)

pub returns-then-two_colons-clause-goes : goal.returns-then-two_colons-clause-goes
returns-then-two_colons-clause-goes c =
    let step = read_step _ _ _ _ true true c.in_ok-first.ensures.cases.0 c.if-self.false refl (sym c.if-two_colons.ensures) in
    record { on = λ _. (tt, tt, omega (arith, ap length step)); keeps = tt; rests = λ _. tt }

pub returns-clause-steps : goal.returns-clause-steps
returns-clause-steps c =
    let out = c.if-self.false in
    read_step _ _ _ _ _ false c.in_ok-first.ensures.cases.0 out out (sym c.if-two_colons.ensures)

pub returns-clause-goes : goal.returns-clause-goes
returns-clause-goes c =
    let out = c.if-self.false in
    let step = read_step _ _ _ _ _ false c.in_ok-first.ensures.cases.0 out out (sym c.if-two_colons.ensures) in
    record { on = λ _. (tt, tt, omega (arith, ap length step)); keeps = tt; rests = λ _. tt }
