-- `Reading::begins_statement` meets its contract. Assumes nothing.
use mathlib.Core.Path.{◌∙◌}
use Rattle.grammar.proofs.Laws.Forms.{statement_begins}
use Rattle.parser.specs.internal.Steps.{begins_part}
use Rattle.parser.proofs.reading.Reading.begins_statement.Goals as goal

pub returns : goal.returns
unfolding begins_part
returns c = c.is_some.ensures ∙ statement_begins c.statement_form.result ∙ rw (c.statement_form.ensures, c.kind.ensures)
