-- `lexer::scanner::Scanner::longer_mark` meets its contract: two bytes decide, and where they are no mark the first is one.
-- Assumes nothing.
use Prim.Native.Nat.{◌+◌}
use mathlib.Core.Path.{◌∙◌, sym}
use borrow.Author.Tests.{ltb-true, ltb-false}
use Rattle.lexer.proofs.Laws.Editions.{fits}
use Rattle.lexer.proofs.Laws.Entries.{pair_past, mark_alone, mark_pair}
use Rattle.lexer.proofs.Laws.Fronts.{byte_there}
use Rattle.lexer.proofs.Laws.KindNumbers.{some_kind}
use Rattle.lexer.proofs.scanner.Scanner.longer_mark.Goals as goal

pub returns-in-Some-pair_kind : goal.returns-in-Some-pair_kind
returns-in-Some-pair_kind c =
    let source = c.args.self.now.source.now in
    let look = c.in-Some.ensures.lookup in
    let second = byte_there source (c.args.at + 1) _ (ltb-true _ _ (sym look.0)) look.1 in
    let kind = rw (← second) at c.in-Some-pair_kind.ensures in
    rw kind (mark_pair _ (fits c.args.edition) source c.args.at c.requires.at_in_bounds c.args.alone c.requires.alone
    (λ q. some_kind c.in-Some-pair_kind.kind (kind ∙ q)))

pub returns-in_default-pair_kind : goal.returns-in_default-pair_kind
returns-in_default-pair_kind c =
    let source = c.args.self.now.source.now in
    let look = c.in-Some.ensures.lookup in
    let second = byte_there source (c.args.at + 1) _ (ltb-true _ _ (sym look.0)) look.1 in
    mark_alone _ (fits c.args.edition) source c.args.at c.requires.at_in_bounds c.args.alone c.requires.alone
    (rw (← second) at (sym c.in_default-pair_kind.ensures))

pub returns-in_default : goal.returns-in_default
returns-in_default c =
    let source = c.args.self.now.source.now in
    mark_alone _ (fits c.args.edition) source c.args.at c.requires.at_in_bounds c.args.alone c.requires.alone
    (pair_past _ (fits c.args.edition) source c.args.at (ltb-false _ _ (sym c.in_default.ensures.lookup.0)))
