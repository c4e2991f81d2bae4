-- `lexer::lexemes::string_at` meets its contract. Assumes nothing.
use Prim.Native.Nat.{ℕ}
use mathlib.Core.Path.{◌∙◌, sym, ap}
use Rattle.lexer.specs.internal.Kinds.{string}
use Rattle.lexer.specs.Lexemes.{Lexeme}
use Rattle.lexer.proofs.Laws.Lexemes.{string_closed, string_open}
use native.Mathlib.Omega.{arith}
use Rattle.lexer.proofs.lexemes.string_at.Goals as goal

pub returns-then-end-source : goal.returns-then-end-source
returns-then-end-source c =
    let run-end = c.run_end-end in
    let args = c.args in
    let pre = c.requires in
    let e = run-end.ensures in
    let t = c.if-end-source.true in
    ap (λ (n : ℕ). Lexeme.Token string n) (omega arith)
    ∙ sym (string_closed args.source.now args.at pre.0 pre.1 (omega arith))

pub returns : goal.returns
returns c =
    let args = c.args in
    let pre = c.requires in
    let run-end = c.run_end-end in
    sym (string_open args.source.now args.at pre.0 pre.1 (let e = run-end.ensures in let t = c.if-end-source.false in omega arith))
