-- `Reading::begins_expression` meets its contract. Assumes nothing.
use mathlib.Core.Path.{◌∙◌}
use Rattle.grammar.proofs.Laws.Forms.{expression_begins}
use Rattle.parser.specs.internal.Steps.{begins_part}
use Rattle.parser.proofs.reading.Reading.begins_expression.Goals as goal

pub returns : goal.returns
unfolding begins_part
returns c = c.is_some.ensures ∙ expression_begins c.expression_form.result ∙ rw (c.expression_form.ensures, c.kind.ensures)
