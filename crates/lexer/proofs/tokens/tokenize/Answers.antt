-- `lexer::tokens::tokenize` meets its contract: what the count and the table's room decide. Assumes nothing.
use mathlib.Core.Path.{◌≡◌, ◌∙◌, sym, ap}
use borrow.Author.Rules.{rules}
use native.Mathlib.Omega.{arith}
use Rattle.std.specs.Prelude.{Err}
use Rattle.lexer.specs.internal.Editions.{edition_of}
use Rattle.lexer.specs.internal.Tokenized.{scanned_values}
use Rattle.lexer.proofs.Laws.Rows.{kept_all}
use Rattle.lexer.proofs.Laws.Answers.{clean_count, clean-scanned, answer_refused, answer_full, answer_tokens}
use Rattle.lexer.proofs.tokens.tokenize.Goals as goal

pub returns-in_err-count : goal.returns-in_err-count
returns-in_err-count c =
    let args = c.args in
    let refused : c.from_residual.result ≡ Err c.in_err-count.field-0.0 = search rules in
    let a = answer_refused (edition_of args.edition) args.source.now args.table.now _ _ (sym c.in_err-count.ensures.answer) in
    rw refused (record { answer = sym a.says; table = sym a.leaves; values = ap scanned_values (sym a.says) })

pub returns-then-room-count : goal.returns-then-room-count
returns-then-room-count c =
    let args = c.args in
    let e = c.room.ensures in
    let full = c.if-room-count.true in
    let a = answer_full (edition_of args.edition) args.source.now args.table.now _ (sym c.in_ok-count.ensures.answer) (omega arith) in
    rw c.new.ensures (record { answer = sym a.says; table = sym a.leaves; values = ap scanned_values (sym a.says) })

pub scan-requires : goal.scan-requires
scan-requires c = (clean_count (edition_of c.args.edition) c.args.source.now _ (sym c.in_ok-count.ensures.answer)).short

pub returns : goal.returns
returns c =
    let args = c.args in
    let rules = edition_of args.edition in
    let counted = sym c.in_ok-count.ensures.answer in
    let clean = clean_count rules args.source.now _ counted in
    let e = c.room.ensures in
    let fits = c.if-room-count.false in
    let n = clean.count in
    let a = answer_tokens rules args.source.now args.table.now _ counted (omega arith) in
    let says = c.scan.ensures.value ∙ clean-scanned rules args.source.now _ clean ∙ sym a.says in
    record {
      answer = says;
      table = c.scan.ensures.table_after ∙ kept_all args.source.now _ args.table.now (omega arith) ∙ sym a.leaves;
      values = ap scanned_values says;
    }
