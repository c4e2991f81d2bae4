-- `nurl::exports::nurl_read` meets its contract: every number of the answer has 32 bits. Assumes nothing.
use mathlib.Core.Path.{sym, ◌∙◌, ap}
use native.Mathlib.Omega.{arith}
use Rattle.answer.specs.Results.{values}
use Rattle.nurl.proofs.Laws.Numbers.{refused_small, accepted_small}
use Rattle.nurl.proofs.exports.nurl_read.Goals as goal

pub overflow_cast-answer : goal.overflow_cast-answer
overflow_cast-answer c =
    let small = accepted_small _ _ _ _ _ c.read-found.ensures.demands _ _ c.in-Accepted.is in
    omega (arith, small.0)

pub overflow_cast-answer-in-Accepted : goal.overflow_cast-answer-in-Accepted
overflow_cast-answer-in-Accepted c =
    let small = accepted_small _ _ _ _ _ c.read-found.ensures.demands _ _ c.in-Accepted.is in
    omega (arith, small.1)

pub overflow_cast-answer-in-Refused : goal.overflow_cast-answer-in-Refused
overflow_cast-answer-in-Refused c =
    let small = refused_small _ _ _ _ _ c.read-found.ensures.demands _ _ c.in-Refused.is in
    omega arith

pub returns-in-Accepted-clause-answer : goal.returns-in-Accepted-clause-answer
unfolding values
returns-in-Accepted-clause-answer c = sym (ap values c.in-Accepted.is) ∙ c.read-found.ensures.values

pub returns-in-Refused-clause-answer : goal.returns-in-Refused-clause-answer
unfolding values
returns-in-Refused-clause-answer c = sym (ap values c.in-Refused.is) ∙ c.read-found.ensures.values
