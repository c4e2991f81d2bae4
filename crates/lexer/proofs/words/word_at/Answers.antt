-- `lexer::words::word_at` meets its contract: a word of one letter is looked up, a longer one is an IDENT.
-- Assumes nothing.
use mathlib.Core.Path.{◌≡◌, ◌∙◌, sym}
use native.Mathlib.Nat.{add-sub_cancel_left}
use native.Mathlib.Omega.{arith}
use lib.ListN.{drop, take}
use Rattle.lexer.specs.internal.Kinds.{ident}
use Rattle.lexer.specs.Words.{word_length, word_kind}
use Rattle.lexer.proofs.Laws.KindNumbers.{is_ident, not_ident}
use Rattle.lexer.proofs.Laws.Words.{one_byte, one_inside, kind_one-at, kind_other, word_le, no_word, ident-word, letter_word}
use Rattle.lexer.proofs.words.word_at.Goals as goal
use Rattle.lexer.proofs.words.word_at.Goals.{Joined-end-at-eq1, then-end-at-eq1+else-ne, else-end-at-eq1}

pub returns-then-end-at : goal.returns-then-end-at
returns-then-end-at c = sym (no_word c.args.source.now c.args.at (let e = c.word_end-end.ensures in let t = c.if-end-at.true in omega arith))

pub bounds-source-at : goal.bounds-source-at
bounds-source-at c = one_inside _ _ (one_byte _ _ _ c.word_end-end.ensures c.if-end-at-eq1.true)

pub returns-then-ne : goal.returns-then-ne
returns-then-ne c =
    let length = one_byte _ _ _ c.word_end-end.ensures c.if-end-at-eq1.true in
    let other = not_ident _ (sym c.ne.ensures ∙ c.if-ne.true) in
    rw c.letter_kind-kind.ensures (sym (letter_word c.args.source.now c.args.at length (λ e. other (c.letter_kind-kind.ensures ∙ e))))

-- a word that is longer, or whose letter alone has that kind, is an IDENT
ident-there : (c : Joined-end-at-eq1) → let d = drop c.args.at c.args.source.now in word_kind (take (word_length d) d) ≡ ident
ident-there c =
    let s = c.args.source.now in
    let ends = c.word_end-end.ensures in
    elim c.if-end-at-eq1.branch [
      | then-end-at-eq1+else-ne w ↦
          let length = one_byte _ _ _ ends w.if-end-at-eq1.true in
          rw length (kind_one-at s c.args.at length ∙ sym w.letter_kind-kind.ensures ∙ is_ident _ (sym w.ne.ensures ∙ w.if-ne.false))
      | else-end-at-eq1 w ↦
          let d = drop c.args.at s in
          kind_other (word_length d) d (word_le d) (λ (q : word_length d ≡ 1). w.if-end-at-eq1.false (omega arith))
    ]

pub returns : goal.returns
returns c =
    let e = c.word_end-end.ensures in
    let first = c.if-end-at.false in
    let kind = ident-there (goal.at.returns c).Joined-end-at-eq1 in
    c.joined.ensures ∙ rw (e, add-sub_cancel_left c.args.at _) (sym (ident-word c.args.source.now c.args.at (omega arith) kind))
