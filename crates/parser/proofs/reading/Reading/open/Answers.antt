-- `Reading::open` meets its contract. Assumes nothing.
use mathlib.Core.Path.{refl}
use Rattle.parser.specs.internal.Steps.{opened}
use Rattle.parser.proofs.Laws.Results.{opened_within}
use Rattle.parser.proofs.reading.Reading.open.Goals as goal

pub returns-clause-answer : goal.returns-clause-answer
unfolding opened
returns-clause-answer c = refl

pub returns-clause-stands : goal.returns-clause-stands
returns-clause-stands c = opened_within c.requires.stands c.requires.some
