-- `lexer::words::ident_end` meets its contract: a word of one letter is looked up, a longer one is an IDENT.
-- Assumes nothing.
use mathlib.Core.Path.{◌∙◌, sym, ap}
use Prim.Native.Nat.{ℕ, ◌+◌}
use native.Mathlib.Nat.{add-zero}
use native.Mathlib.Omega.{arith}
use borrow.Author.Tests.{eq-eqb, ne_eqb}
use Rattle.lexer.proofs.Laws.KindNumbers.{is_ident, not_ident}
use Rattle.lexer.proofs.Laws.Words.{one_byte, one_inside, ident-one_at, ident_other}
use Rattle.lexer.proofs.words.ident_end.Goals as goal
use Rattle.lexer.proofs.words.ident_end.Goals.{else-end-at-eq1-via-then-end-at-eq1+else-ne, else-end-at-eq1-via-else-end-at-eq1}

pub bounds-source-at : goal.bounds-source-at
bounds-source-at c = one_inside _ _ (one_byte _ _ _ c.word_end-end.ensures c.if-end-at-eq1.true)

pub returns-then-ne : goal.returns-then-ne
returns-then-ne c =
    let a = c.args in
    let length = one_byte _ _ _ c.word_end-end.ensures c.if-end-at-eq1.true in
    let other = not_ident _ (sym c.ne.ensures ∙ c.if-ne.true) in
    rw (ident-one_at a.source.now a.at length, ne_eqb _ _ (λ e. other (c.letter_kind.ensures ∙ e))) (sym (add-zero _))

pub returns : goal.returns
returns c =
    let a = c.args in
    let ends = c.word_end-end.ensures in
    elim c.else-end-at-eq1.branch [
      | else-end-at-eq1-via-then-end-at-eq1+else-ne w ↦
          let length = one_byte _ _ _ ends w.if-end-at-eq1.true in
          let ident = is_ident _ (sym w.ne.ensures ∙ w.if-ne.false) in
          rw (ident-one_at a.source.now a.at length, eq-eqb _ _ (sym w.letter_kind.ensures ∙ ident))
          (ends ∙ ap (λ (n : ℕ). a.at + n) length)
      | else-end-at-eq1-via-else-end-at-eq1 w ↦
          ends ∙ sym (ap (λ (n : ℕ). a.at + n) (ident_other _ (λ e. w.if-end-at-eq1.false (omega arith))))
    ]
