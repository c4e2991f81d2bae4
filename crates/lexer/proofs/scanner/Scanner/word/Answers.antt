-- `lexer::scanner::Scanner::word` meets its contract: a word of one letter has the kind that its entry tells, a longer one is an IDENT.
-- Assumes nothing.
use Prim.Native.Nat.{◌+◌}
use mathlib.Core.Path.{◌∙◌, sym}
use native.Mathlib.Omega.{arith}
use Rattle.lexer.proofs.Laws.Bounded.{letter_next, IdentEnds, ident_there, word-inside, long_ident, letter_ident, letter_alone}
use Rattle.lexer.proofs.Laws.KindNumbers.{is_ident, not_ident}
use Rattle.lexer.proofs.scanner.Scanner.word.Goals as goal
use Rattle.lexer.proofs.scanner.Scanner.word.Goals.{After-end_inside-end, Else-ne}

pub bounds-source-next : goal.bounds-source-next
bounds-source-next c = let next = letter_next c.args.self.now.source.now c.args.at c.requires.letter c.requires.bounded in omega arith

pub end_inside-end-requires : goal.end_inside-end-requires
end_inside-end-requires c =
    word-inside c.args.self.now.source.now c.args.at c.requires.letter c.requires.bounded (sym c.passes.ensures ∙ c.if-passes.true)

-- where the word ends that goes on
long : (c : After-end_inside-end) → IdentEnds c.args.self.now.source.now c.args.at c.end_inside-end.result
long c =
    let on = sym c.passes.ensures ∙ c.if-passes.true in
    long_ident c.args.self.now.source.now c.args.at c.requires.letter c.requires.bounded on _ c.end_inside-end.ensures

pub ident-requires : goal.ident-requires
ident-requires c =
    let some = (long c).some in
    (omega arith, (long c).inside)

pub returns-then-passes : goal.returns-then-passes
returns-then-passes c = c.ident.ensures ∙ ident_there _ _ _ (long (goal.at.returns-then-passes c).After-end_inside-end)

pub returns-then-ne : goal.returns-then-ne
returns-then-ne c =
    let last = sym c.passes.ensures ∙ c.if-passes.false in
    letter_alone c.args.self.now.source.now c.args.at c.requires.letter c.requires.bounded last _ c.requires.alone
    (not_ident c.args.alone (sym c.ne.ensures ∙ c.if-ne.true))

-- .. and the one that is a letter alone
short : (c : Else-ne) → IdentEnds c.args.self.now.source.now c.args.at (c.args.at + 1)
short c =
    let last = sym c.passes.ensures ∙ c.if-passes.false in
    letter_ident c.args.self.now.source.now c.args.at c.requires.letter c.requires.bounded last
    (c.requires.alone ∙ is_ident c.args.alone (sym c.ne.ensures ∙ c.if-ne.false))

pub ident-requires-2 : goal.ident-requires-2
ident-requires-2 c = (omega arith, (short c).inside)

pub returns : goal.returns
returns c = c.ident-2.ensures ∙ ident_there _ _ _ (short (goal.at.returns c).Else-ne)
