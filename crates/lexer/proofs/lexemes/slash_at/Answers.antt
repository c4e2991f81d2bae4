-- `lexer::lexemes::slash_at` meets its contract. Assumes nothing.
use Prim.Native.Nat.{ℕ}
use mathlib.Core.Path.{◌∙◌, sym, ap}
use Rattle.lexer.specs.Lexemes.{Lexeme, or_else}
use Rattle.lexer.proofs.Laws.Lexemes.{comment_found, comment_lost}
use native.Mathlib.Omega.{arith}
use Rattle.lexer.proofs.lexemes.slash_at.Goals as goal

pub returns-then-begins_either : goal.returns-then-begins_either
unfolding or_else
returns-then-begins_either c =
    let args = c.args in
    let pre = c.requires in
    let begins-either = c.begins_either in
    let if1 = c.if-begins_either in
    rw (comment_found args.source.now args.at pre.0 pre.1 (sym begins-either.ensures ∙ if1.true))
    (ap (λ (n : ℕ). Lexeme.Skipped n) (let e = c.run_end-end.ensures in omega arith))

pub returns : goal.returns
unfolding or_else
returns c =
    let args = c.args in
    let pre = c.requires in
    let begins-either = c.begins_either in
    rw (comment_lost args.source.now args.at pre.0 pre.1 (sym begins-either.ensures ∙ c.if-begins_either.false))
