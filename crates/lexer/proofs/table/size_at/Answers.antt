-- `lexer::table::size_at` meets its contract. Assumes nothing.
use mathlib.Core.Path.{◌∙◌}
use native.Mathlib.Omega.{arith}
use Rattle.lexer.proofs.Laws.Rows.{own_number}
use Rattle.lexer.proofs.table.size_at.Goals as goal

pub returns : goal.returns
returns c = c.number_at.ensures ∙ own_number _ _ 2 (omega arith)
