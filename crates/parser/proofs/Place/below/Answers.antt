-- `Place::below` meets its contract. Assumes nothing.
use Rattle.parser.specs.internal.Steps.{refused_at}
use Rattle.parser.proofs.Place.below.Goals as goal

pub returns-then-left-eq0-clause-stops : goal.returns-then-left-eq0-clause-stops
unfolding refused_at
returns-then-left-eq0-clause-stops c = (c.if-left-eq0.true, rw c.new.ensures)
