-- `Place::no_program` meets its contract. Assumes nothing.
use Rattle.parser.specs.internal.Steps.{refused_at}
use Rattle.parser.proofs.Place.no_program.Goals as goal

pub returns : goal.returns
unfolding refused_at
returns c = rw c.new.ensures
