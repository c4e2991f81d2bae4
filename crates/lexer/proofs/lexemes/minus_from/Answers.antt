-- `lexer::lexemes::minus_from` meets its contract: where the edition says so, the number after the `-` takes it, and else it is a mark.
-- Assumes nothing.
use Prim.Native.Nat.{◌+◌}
use mathlib.Core.Path.{◌≡◌, ◌∙◌, sym}
use native.Mathlib.Omega.{arith}
use lib.ListN.{drop, length-drop}
use Rattle.lexer.specs.Bytes.{is_digit}
use Rattle.lexer.specs.Lexemes.{Token, BadByte, number, mark, or_else}
use Rattle.lexer.specs.internal.Editions.{edition_of}
use Rattle.lexer.specs.internal.Kinds.{minus}
use Rattle.lexer.proofs.Laws.Runs.{run_le}
use Rattle.lexer.proofs.Laws.Editions.{fits}
use Rattle.lexer.proofs.Laws.Lexemes.{minus-digits, minus-none, minus_alone, minus-mark}
use Rattle.lexer.proofs.lexemes.minus_from.Goals as goal
use Rattle.lexer.proofs.lexemes.minus_from.Goals.{Start, else-at-whole-via-then-at-whole+else-is_signed, else-at-whole-via-else-at-whole}

-- where no number begins with it, the minus is a mark
marked : (c : Start) → let e = edition_of c.args.edition in
    let s = drop c.args.at c.args.source.now in
    number e s ≡ BadByte → Token minus 1 ≡ or_else (number e s) (mark e s)
unfolding or_else
marked c none = rw none (sym (minus-mark _ _ c.requires.at_in_bounds.0 c.requires.at_in_bounds.1 _ (fits c.args.edition)))

pub number_from-requires : goal.number_from-requires
number_from-requires c =
    let next = c.args.at + 1 in
    let digits = run_le is_digit (drop next c.args.source.now) in
    let left = length-drop next c.args.source.now in
    let whole = c.requires.whole_value in
    let inside = c.requires.at_in_bounds.0 in
    let some = c.if-at-whole.true in
    (omega arith, omega arith)

pub returns-then-is_signed : goal.returns-then-is_signed
returns-then-is_signed c =
    let signed = sym c.is_signed.ensures ∙ c.if-is_signed.true in
    c.number_from.ensures
    ∙ minus-digits _ _ c.requires.at_in_bounds.0 c.requires.at_in_bounds.1 (edition_of c.args.edition) signed _ c.requires.whole_value
    c.if-at-whole.true _

pub returns : goal.returns
returns c =
    let at = c.requires.at_in_bounds in
    let start = (goal.at.returns c).Start in
    elim c.else-at-whole.branch [
      | else-at-whole-via-then-at-whole+else-is_signed w ↦ marked start (minus_alone _ _ at.0 at.1 _ (sym w.is_signed.ensures ∙ w.if-is_signed.false))
      | else-at-whole-via-else-at-whole w ↦
          let whole = c.requires.whole_value in
          let none = w.if-at-whole.false in
          marked start (minus-none _ _ at.0 at.1 _ (omega arith))
    ]
