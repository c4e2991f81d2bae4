-- `lexer::tokens::count_tokens` meets its contract. Assumes nothing.
use borrow.Author.Tests.{lt-ltb, le-ltb}
use Rattle.lexer.specs.internal.Tokenized.{counted, scanned_values}
use Rattle.lexer.proofs.Laws.Answers.{valued}
use Rattle.lexer.proofs.tokens.count_tokens.Goals as goal

pub returns-then-source-gt-SOURCE_LIMIT : goal.returns-then-source-gt-SOURCE_LIMIT
unfolding counted
returns-then-source-gt-SOURCE_LIMIT c =
    let v = valued scanned_values _ _ (rw (c.new.ensures, lt-ltb _ _ c.if-source-gt-SOURCE_LIMIT.true)) in
    record { answer = v.0; values = v.1 }

pub returns : goal.returns
unfolding counted
returns c =
    let if1 = c.if-source-gt-SOURCE_LIMIT in
    let v = valued scanned_values _ _ (rw (le-ltb _ _ if1.false) c.scan.ensures.value) in
    record { answer = v.0; values = v.1 }
