-- `lexer::marks::mark_of_two` meets its contract. Assumes nothing.
use mathlib.Core.Path.{◌∙◌, sym}
use Rattle.lexer.proofs.Laws.Editions.{fits}
use Rattle.lexer.proofs.Laws.KindNumbers.{some_kind}
use Rattle.lexer.proofs.Laws.Marks.{two_found, two_lost}
use Rattle.lexer.proofs.marks.mark_of_two.Goals as goal

pub returns-in-Some : goal.returns-in-Some
returns-in-Some c =
    rw c.in-Some.ensures (sym (two_found _ (fits c.args.edition) _ _ (λ e. some_kind c.in-Some.kind (c.in-Some.ensures ∙ e))))

pub returns-in-None : goal.returns-in-None
returns-in-None c = c.mark_of_one.ensures ∙ sym (two_lost _ (fits c.args.edition) _ _ (sym c.in-None.ensures))
