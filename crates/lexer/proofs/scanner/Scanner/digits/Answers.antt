-- `lexer::scanner::Scanner::digits` meets its contract: the digits after the first end before the source does. Assumes nothing.
use Prim.Native.Nat.{◌+◌}
use mathlib.Core.Path.{◌≡◌, ◌∙◌, sym}
use native.Mathlib.Omega.{arith}
use lib.ListN.{drop}
use Rattle.lexer.specs.Bytes.{is_digit, run}
use Rattle.lexer.proofs.Laws.Bounded.{digits-inside}
use Rattle.lexer.proofs.Laws.Runs.{run_goes_on}
use Rattle.lexer.proofs.Laws.Numbers.{unsigned_from}
use Rattle.lexer.proofs.scanner.Scanner.digits.Goals as goal

pub end_inside-whole-requires : goal.end_inside-whole-requires
end_inside-whole-requires c = digits-inside c.args.self.now.source.now c.args.at c.requires.bounded c.requires.digit

pub number_from-requires : goal.number_from-requires
number_from-requires c =
    let inside = digits-inside c.args.self.now.source.now c.args.at c.requires.bounded c.requires.digit in
    let whole = c.end_inside-whole.ensures in
    (omega arith, omega arith)

pub returns : goal.returns
returns c =
    let s = c.args.self.now.source.now in
    let bounded = c.requires.bounded in
    let whole = c.end_inside-whole.ensures in
    let digits : c.end_inside-whole.result ≡ c.args.at + run is_digit (drop c.args.at s) =
    whole ∙ sym (run_goes_on is_digit s c.args.at (omega arith) c.requires.digit) in
    c.number_from.ensures ∙ unsigned_from _ _ _ (omega arith) digits
