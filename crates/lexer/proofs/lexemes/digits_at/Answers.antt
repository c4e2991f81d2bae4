-- `lexer::lexemes::digits_at` meets its contract. Assumes nothing.
use Prim.Native.Nat.{◌<◌}
use mathlib.Core.Path.{◌∙◌}
use native.Mathlib.Omega.{arith}
use lib.ListN.{drop, length-drop}
use Rattle.lexer.specs.Bytes.{is_digit}
use Rattle.lexer.proofs.Laws.Runs.{run_le, run_goes_on}
use Rattle.lexer.proofs.Laws.Numbers.{unsigned_from}
use Rattle.lexer.proofs.lexemes.digits_at.Goals as goal
use Rattle.lexer.proofs.lexemes.digits_at.Goals.{After-run_end-whole}

-- the digits end after their first
after : (c : After-run_end-whole) → c.args.at < c.run_end-whole.result
after c =
    let args = c.args in
    let pre = c.requires in
    let on = run_goes_on is_digit args.source.now args.at pre.0 pre.1 in
    let whole = c.run_end-whole.ensures in
    omega arith

pub number_from-requires : goal.number_from-requires
number_from-requires c =
    let args = c.args in
    let digits = run_le is_digit (drop args.at args.source.now) in
    let left = length-drop args.at args.source.now in
    let whole = c.run_end-whole.ensures in
    let inside = c.requires.0 in
    (after (goal.at.number_from-requires c).After-run_end-whole, omega arith)

pub returns : goal.returns
returns c = c.number_from.ensures ∙ unsigned_from _ _ _ (after (goal.at.returns c).After-run_end-whole) c.run_end-whole.ensures
