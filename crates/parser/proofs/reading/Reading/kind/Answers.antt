-- `Reading::kind` meets its contract. Assumes nothing.
use Rattle.parser.specs.internal.Steps.{next_kind}
use Rattle.parser.proofs.reading.Reading.kind.Goals as goal

pub returns : goal.returns
unfolding next_kind
returns c = c.kind_at.ensures
