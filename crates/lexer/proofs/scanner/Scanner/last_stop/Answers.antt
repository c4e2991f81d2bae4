-- `lexer::scanner::Scanner::last_stop` meets its contract. Assumes nothing.
use Prim.Native.Nat.{ℕ, ◌+◌, ◌<◌}
use mathlib.Core.Path.{◌≡◌}
use mathlib.Core.Bool.{false}
use mathlib.Core.List.{List}
use native.Mathlib.Omega.{arith}
use lib.ListN.{length, get_or}
use Rattle.std.proofs.lemmas.Grind.{common_steps}
use Rattle.std.specs.Prelude.{Option, Some, None}
use Rattle.std.specs.Option.{IfSome, unwrap_or}
use Rattle.lexer.specs.Bytes.{is_word_byte}
use Rattle.lexer.specs.internal.Entries.{Stop}
use Rattle.lexer.proofs.Laws.Runs.{run_upto}
use Rattle.lexer.proofs.scanner.Scanner.last_stop.Goals as goal

module _ (s : List ℕ) where
  -- a byte that no word goes on over ends every word before it
  stops : (i : ℕ) → i < length s → is_word_byte (get_or s i 0) ≡ false → Stop s i
  stops i inside out =
      λ at before.
      let here = run_upto is_word_byte s at i (omega arith) inside out in
      let next = run_upto is_word_byte s (at + 1) i (omega arith) inside out in
      (omega arith, omega arith)

  -- a place where such a byte was found, or none
  found_stop : (r : Option ℕ) → IfSome r (λ i. (i < length s) × (is_word_byte (get_or s i 0) ≡ false)) → Stop s (unwrap_or r 0)
  found_stop (Some i) h = stops i h.0 h.1
  found_stop None h = λ at before. absurd (omega arith)

pub returns : goal.returns
returns c =
    let s = c.args.self.now.source.now in
    rw c.unwrap_or.ensures (found_stop s c.rposition.result (grind (arith, common_steps)))
