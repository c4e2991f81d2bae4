-- `lexer::words::word_end` meets its contract: a letter begins a word, which runs on over word bytes. Assumes nothing.
use mathlib.Core.Path.{◌∙◌, sym}
use native.Mathlib.Nat.{add-zero}
use native.Mathlib.Omega.{arith}
use Rattle.lexer.proofs.Laws.Classes.{letter_told}
use Rattle.lexer.proofs.Laws.Fronts.{front_none, front_one}
use Rattle.lexer.proofs.Laws.Words.{word_letter, word_none, word_nil}
use Rattle.lexer.proofs.words.word_end.Goals as goal
use Rattle.lexer.proofs.words.word_end.Goals.{else-at-source-via-then-at-source+else-eq, else-at-source-via-else-at-source}

pub returns-then-eq : goal.returns-then-eq
returns-then-eq c =
    let a = c.args in
    let letter = sym (letter_told _ _ (c.type_inv.source a.at).fits c.class_of.ensures) ∙ sym c.eq.ensures ∙ c.if-eq.true in
    rw (front_one a.source.now a.at c.if-at-source.true, word_letter _ _ letter) (let e = c.run_end.ensures in omega arith)

pub returns : goal.returns
returns c =
    let a = c.args in
    elim c.else-at-source.branch [
      | else-at-source-via-then-at-source+else-eq w ↦
          let other = sym (letter_told _ _ (c.type_inv.source a.at).fits w.class_of.ensures) ∙ sym w.eq.ensures ∙ w.if-eq.false in
          rw (front_one a.source.now a.at w.if-at-source.true, word_none _ _ other) (sym (add-zero _))
      | else-at-source-via-else-at-source w ↦ rw (front_none a.source.now a.at w.if-at-source.false, word_nil) (sym (add-zero _))
    ]
