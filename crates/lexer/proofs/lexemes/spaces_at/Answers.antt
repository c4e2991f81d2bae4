-- `lexer::lexemes::spaces_at` meets its contract: after the space that stands there the run goes on. Assumes nothing.
use Prim.Native.Nat.{ℕ}
use mathlib.Core.Path.{◌∙◌, sym, ap}
use native.Mathlib.Omega.{arith}
use Rattle.lexer.specs.Bytes.{is_space}
use Rattle.lexer.specs.Lexemes.{Lexeme}
use Rattle.lexer.proofs.Laws.Runs.{run_goes_on}
use Rattle.lexer.proofs.Laws.Lexemes.{spaces_some}
use Rattle.lexer.proofs.lexemes.spaces_at.Goals as goal

pub returns : goal.returns
returns c =
    let e = c.run_end-end.ensures in
    let on = run_goes_on is_space c.args.source.now c.args.at c.requires.0 c.requires.1 in
    ap (λ (n : ℕ). Lexeme.Skipped n) (omega arith) ∙ sym (spaces_some _ (omega arith))
