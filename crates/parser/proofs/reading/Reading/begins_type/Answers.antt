-- `Reading::begins_type` meets its contract. Assumes nothing.
use mathlib.Core.Path.{◌∙◌}
use Rattle.grammar.proofs.Laws.Forms.{type_begins}
use Rattle.parser.specs.internal.Steps.{begins_part}
use Rattle.parser.proofs.reading.Reading.begins_type.Goals as goal

pub returns : goal.returns
unfolding begins_part
returns c = c.is_some.ensures ∙ type_begins c.type_form.result ∙ rw (c.type_form.ensures, c.kind.ensures)
