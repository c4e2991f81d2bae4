-- `lexer::scanner::Scanner::scan_lexemes` meets its contract: what is met, counted and written so far, and what the bytes from the place
-- reached on are, make the whole (`Passed`). Assumes nothing.
use Prim.Native.Nat.{ℕ, ◌+◌, ◌≤◌, ◌<◌}
use mathlib.Core.Path.{◌≡◌, sym, ◌∙◌}
use mathlib.Core.Bool.{Bool, true, false}
use mathlib.Core.List.{List}
use native.Mathlib.Nat.{add-zero}
use native.Mathlib.Omega.{arith}
use lib.Dec.{eqb, ltb}
use lib.ListN.{length, drop, get_or}
use borrow.Author.Rules.{rules}
use borrow.Author.Tests.{ltb-true}
use Rattle.lexer.specs.Tests.{and, pick}
use Rattle.lexer.specs.Lexemes.{Lexeme, End, BadByte, OpenString, lexeme}
use Rattle.lexer.specs.internal.Editions.{edition_of}
use Rattle.lexer.specs.internal.Leaves.{blank}
use Rattle.lexer.specs.internal.Tokenized.{ended_by}
use Rattle.lexer.specs.internal.Entries.{Bounded, Stop}
use Rattle.lexer.proofs.Laws.Editions.{fits}
use Rattle.lexer.proofs.Laws.Packed.{Ends, ends_clean, ends_bad, ends_open}
use Rattle.lexer.proofs.Laws.Rows.{row_written}
use Rattle.lexer.proofs.Laws.Passes.{Passed, Reaches, token_reaches, skip_reaches, pass_start, pass_blank, pass_skip, pass_token}
use Rattle.lexer.proofs.Laws.Passes.{Ended, pass_ended}
use Rattle.lexer.proofs.scanner.Scanner.scan_lexemes.Goals as goal
use Rattle.lexer.proofs.scanner.Scanner.scan_lexemes.Goals.{After-after_blank-from, In-Token, In-Skipped}

-- a place before a stop is inside, and runs from it or from the next end inside
module _ (s : List ℕ) (stop at : ℕ) (stops : Stop s stop) (below : ltb at stop ≡ true) where
  before-inside : at < length s
  before-inside = let here = (stops at (ltb-true _ _ below)).0 in omega arith

  before-bounded : (blanks : Bool) → Bounded s (at + pick blanks 1 0)
  before-bounded true = (stops at (ltb-true _ _ below)).1
  before-bounded false = rw (add-zero at) (stops at (ltb-true _ _ below)).0

pub loop-kind-init : goal.loop-kind-init
loop-kind-init c = pass_start _ (fits c.args.edition).spells c.args.self.now.source.now _

pub after_blank-from-requires : goal.after_blank-from-requires
after_blank-from-requires c = before-inside c.args.self.now.source.now c.args.stop c.loop-kind.at c.requires

-- the place from which the next lexeme is looked for has been come to
come : (c : After-after_blank-from) → let args = c.args in
    let loop = c.loop-kind in
    Passed (edition_of args.edition) args.self.now.source.now args.table.now loop.table c.after_blank-from.result loop.count
come c =
    let args = c.args in
    let loop = c.loop-kind in
    let inside = before-inside args.self.now.source.now args.stop loop.at c.requires in
    rw c.after_blank-from.ensures
    (pass_blank _ (fits args.edition).spells _ _ _ loop.at loop.count loop.invariant (ltb loop.at args.stop) inside)

-- .. and it is not before the one where the turn began
come-after : (c : After-after_blank-from) → c.loop-kind.at ≤ c.after_blank-from.result
come-after c = rw c.after_blank-from.ensures (omega arith)

pub lexeme-requires : goal.lexeme-requires
lexeme-requires c =
    let args = c.args in
    let loop = c.loop-kind in
    let blanks = and (ltb loop.at args.stop) (eqb (get_or args.self.now.source.now loop.at 0) blank) in
    λ below. rw c.after_blank-from.ensures (before-bounded args.self.now.source.now args.stop loop.at c.requires below blanks)

-- how far a token reaches, and what is skipped
token : (c : In-Token) → Reaches c.args.self.now.source.now c.after_blank-from.result c.in-Token.len
token c = token_reaches _ (fits c.args.edition).spells _ _ _ (come c.before.before).inside _ c.in-Token.ensures

skip : (c : In-Skipped) → Reaches c.args.self.now.source.now c.after_blank-from.result c.in-Skipped.len
skip c = skip_reaches _ (fits c.args.edition).spells _ _ _ (come c.before.before).inside c.in-Skipped.ensures

pub overflow_cast-start : goal.overflow_cast-start
overflow_cast-start c =
    let short = c.args.self.now.short in
    let inside = (come (goal.at.overflow_cast-start c).After-after_blank-from).inside in
    record { fits = omega arith }

pub overflow_cast-size : goal.overflow_cast-size
overflow_cast-size c =
    let short = c.args.self.now.short in
    let within = (token (goal.at.overflow_cast-size c).In-Token).inside in
    record { fits = omega arith }

pub overflow_add-count : goal.overflow_add-count
overflow_add-count c =
    let short = c.args.self.now.short in
    let inside = c.loop-kind.invariant.inside in
    let few = c.loop-kind.invariant.few in
    record { fits = omega arith }

pub overflow_add-at : goal.overflow_add-at
overflow_add-at c =
    let short = c.args.self.now.short in
    let within = (token (goal.at.overflow_add-at c).In-Token).inside in
    record { fits = omega arith }

pub loop-kind-smaller-in-Token : goal.loop-kind-smaller-in-Token
loop-kind-smaller-in-Token c =
    let told = token (goal.at.loop-kind-smaller-in-Token c).In-Token in
    let on = come-after (goal.at.loop-kind-smaller-in-Token c).After-after_blank-from in
    let some = told.some in
    let within = told.inside in
    omega arith

pub loop-kind-preserved-in-Token : goal.loop-kind-preserved-in-Token
loop-kind-preserved-in-Token c =
    let told = token (goal.at.loop-kind-preserved-in-Token c).In-Token in
    let passed = come (goal.at.loop-kind-preserved-in-Token c).After-after_blank-from in
    rw (c.put_token.ensures, c.number-kind.ensures)
    (pass_token _ (fits c.args.edition).spells _ _ _ _ c.loop-kind.count passed _ _ told.some told.inside (sym c.in-Token.ensures) _
    (row_written c.args.self.now.source.now _ _ _))

pub overflow_add-at-in-Skipped : goal.overflow_add-at-in-Skipped
overflow_add-at-in-Skipped c =
    let short = c.args.self.now.short in
    let within = (skip (goal.at.overflow_add-at-in-Skipped c).In-Skipped).inside in
    record { fits = omega arith }

pub loop-kind-smaller : goal.loop-kind-smaller
loop-kind-smaller c =
    let told = skip (goal.at.loop-kind-smaller c).In-Skipped in
    let on = come-after (goal.at.loop-kind-smaller c).After-after_blank-from in
    let some = told.some in
    let within = told.inside in
    omega arith

pub loop-kind-preserved : goal.loop-kind-preserved
loop-kind-preserved c =
    let told = skip (goal.at.loop-kind-preserved c).In-Skipped in
    let passed = come (goal.at.loop-kind-preserved c).After-after_blank-from in
    pass_skip _ (fits c.args.edition).spells _ _ _ _ c.loop-kind.count passed _ told.inside (sym c.in-Skipped.ensures)

-- what the whole is where a lexeme ends the pass
module _ (c : After-after_blank-from) where
  whole : (l : Lexeme) → Ends l → lexeme (edition_of c.args.edition) (drop c.after_blank-from.result c.args.self.now.source.now) ≡ l
      → let args = c.args in
      Ended (edition_of args.edition) (fits args.edition).spells args.self.now.source.now args.table.now c.loop-kind.table
      c.after_blank-from.result c.loop-kind.count (come c) l
  whole = pass_ended (edition_of c.args.edition) (fits c.args.edition).spells _ _ _ _ _ (come c)

pub returns-in-End-clause-value : goal.returns-in-End-clause-value
unfolding ended_by
returns-in-End-clause-value c =
    let before = (goal.at.returns-in-End-clause-value c).After-after_blank-from in
    search rules ∙ sym (whole before End ends_clean (sym c.in-End.ensures)).says

pub returns-in-End-clause-table_after : goal.returns-in-End-clause-table_after
returns-in-End-clause-table_after c =
    let before = (goal.at.returns-in-End-clause-table_after c).After-after_blank-from in
    (whole before End ends_clean (sym c.in-End.ensures)).leaves

pub returns-in-BadByte-clause-value : goal.returns-in-BadByte-clause-value
unfolding ended_by
returns-in-BadByte-clause-value c =
    let before = (goal.at.returns-in-BadByte-clause-value c).After-after_blank-from in
    search rules ∙ sym (whole before BadByte ends_bad (sym c.in-BadByte.ensures)).says

pub returns-in-BadByte-clause-table_after : goal.returns-in-BadByte-clause-table_after
returns-in-BadByte-clause-table_after c =
    let before = (goal.at.returns-in-BadByte-clause-table_after c).After-after_blank-from in
    (whole before BadByte ends_bad (sym c.in-BadByte.ensures)).leaves

pub returns-in-OpenString-clause-value : goal.returns-in-OpenString-clause-value
unfolding ended_by
returns-in-OpenString-clause-value c =
    let before = (goal.at.returns-in-OpenString-clause-value c).After-after_blank-from in
    search rules ∙ sym (whole before OpenString ends_open (sym c.in-OpenString.ensures)).says

pub returns-in-OpenString-clause-table_after : goal.returns-in-OpenString-clause-table_after
returns-in-OpenString-clause-table_after c =
    let before = (goal.at.returns-in-OpenString-clause-table_after c).After-after_blank-from in
    (whole before OpenString ends_open (sym c.in-OpenString.ensures)).leaves
