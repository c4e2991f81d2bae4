-- `steps::close_row` meets its contract. Assumes nothing.
use mathlib.Core.Path.{refl}
use native.Mathlib.Omega.{arith}
use Rattle.parser.specs.internal.Steps.{closed}
use Rattle.parser.proofs.Laws.Steps.{spans_read}
use Rattle.parser.proofs.steps.close_row.Goals as goal

pub overflow_sub-cover : goal.overflow_sub-cover
overflow_sub-cover c =
    let known = spans_read _ _ _ _ _ _ refl refl c.requires.1.1 in
    omega (arith, known.0)

pub overflow_sub-count : goal.overflow_sub-count
overflow_sub-count c =
    let known = spans_read _ _ _ _ _ _ refl refl c.requires.1.1 in
    omega (arith, known.1)

pub returns-clause-table : goal.returns-clause-table
unfolding closed
returns-clause-table c = rw (← c.number.ensures) c.put_row.ensures
