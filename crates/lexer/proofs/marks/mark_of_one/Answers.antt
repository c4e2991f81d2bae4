-- `lexer::marks::mark_of_one` meets its contract. Assumes nothing.
use mathlib.Core.Path.{sym}
use Rattle.lexer.proofs.Laws.KindNumbers.{some_kind}
use Rattle.lexer.proofs.Laws.Marks.{mark_found, mark_lost}
use Rattle.lexer.proofs.marks.mark_of_one.Goals as goal

pub returns-in-Some : goal.returns-in-Some
returns-in-Some c = rw (← c.in-Some.ensures) (sym (mark_found _ _ _ (some_kind c.in-Some.kind)))

pub returns-in-None : goal.returns-in-None
returns-in-None c = sym (mark_lost _ _ _ (sym c.in-None.ensures))
