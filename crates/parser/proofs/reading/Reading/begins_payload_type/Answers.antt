-- `Reading::begins_payload_type` meets its contract. Assumes nothing.
use Rattle.parser.specs.internal.Steps.{payload_begins}
use Rattle.parser.proofs.reading.Reading.begins_payload_type.Goals as goal

pub returns-then-not-plain_name : goal.returns-then-not-plain_name
unfolding payload_begins
returns-then-not-plain_name c = rw (← c.plain_name.ensures, c.if-not-plain_name.true) c.begins_type.ensures

pub returns-else-not-plain_name : goal.returns-else-not-plain_name
unfolding payload_begins
returns-else-not-plain_name c = rw (← c.plain_name.ensures, c.if-not-plain_name.false)
