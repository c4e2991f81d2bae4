-- `Reading::reserve` meets its contract. Assumes nothing.
use mathlib.Core.Path.{refl}
use Rattle.parser.specs.internal.Steps.{row_left}
use Rattle.parser.proofs.Laws.Steps.{reserved_within}
use Rattle.parser.proofs.reading.Reading.reserve.Goals as goal

pub returns-clause-answer : goal.returns-clause-answer
unfolding row_left
returns-clause-answer c = refl

pub returns-clause-stands : goal.returns-clause-stands
unfolding row_left
returns-clause-stands c = reserved_within _ c.requires refl
