-- `lexer::marks::arrow_at` meets its contract: the two bytes that follow are compared, and past the end there is none.
-- Assumes nothing.
use Prim.Native.Nat.{◌+◌}
use mathlib.Core.Path.{◌∙◌, sym}
use native.Mathlib.Omega.{arith}
use borrow.Author.Tests.{eqb-true, eqb-false}
use Rattle.lexer.proofs.Laws.Fronts.{byte_tested}
use Rattle.lexer.proofs.Laws.Marks.{arrow_found_at, arrow_none_at, arrow_cut_at}
use Rattle.lexer.proofs.marks.arrow_at.Goals as goal
use Rattle.lexer.proofs.marks.arrow_at.Goals.{else-eq-via-then-eq+else-eq-2, else-eq-via-else-eq}

pub returns-then-eq-2 : goal.returns-then-eq-2
returns-then-eq-2 c =
    let s = c.args.source.now in
    let at = c.args.at in
    let look = c.get.ensures.lookup in
    let first = c.eq.ensures ∙ byte_tested s (at + 1) _ _ (omega arith) look.0 look.1 in
    let next = c.get-then-eq.ensures.lookup in
    let second = c.eq-then-eq.ensures ∙ byte_tested s (at + 1 + 1) _ _ (omega arith) next.0 next.1 in
    sym (arrow_found_at s at c.requires.0 c.requires.1 (eqb-true _ _ (sym first ∙ c.if-eq.true)) (eqb-true _ _ (sym second ∙ c.if-eq-2.true)))

pub returns : goal.returns
returns c =
    let s = c.args.source.now in
    let at = c.args.at in
    let look = c.get.ensures.lookup in
    let first = c.eq.ensures ∙ byte_tested s (at + 1) _ _ (omega arith) look.0 look.1 in
    elim c.else-eq.branch [
      | else-eq-via-then-eq+else-eq-2 w ↦
          let next = w.get-then-eq.ensures.lookup in
          let second = w.eq-then-eq.ensures ∙ byte_tested s (at + 1 + 1) _ _ (omega arith) next.0 next.1 in
          sym (arrow_cut_at s at c.requires.0 c.requires.1 (eqb-false _ _ (sym second ∙ w.if-eq-2.false)))
      | else-eq-via-else-eq w ↦ sym (arrow_none_at s at c.requires.0 c.requires.1 (eqb-false _ _ (sym first ∙ w.if-eq.false)))
    ]
