-- `lexer::bytes::begins_either` meets its contract: the byte there, if there is one, is compared with both.
-- Assumes nothing.
use borrow.Author.Tests.{eq-eqb, ne_eqb}
use Rattle.lexer.specs.Tests.{or}
use Rattle.lexer.specs.Bytes.{begins_either}
use Rattle.lexer.proofs.Laws.Fronts.{front_none, front_one}
use Rattle.lexer.proofs.bytes.begins_either.Goals as goal

pub returns-in-None : goal.returns-in-None
unfolding begins_either
returns-in-None c = rw (front_none c.args.source.now c.args.at c.in-None.ensures.lookup.3)

pub returns-then-first-a : goal.returns-then-first-a
unfolding begins_either or
returns-then-first-a c =
    let there = c.in-Some.ensures.lookup.3 in
    rw (front_one c.args.source.now c.args.at there.0, ← there.1 0, eq-eqb _ _ c.if-first-a.true)

pub returns-else-first-a : goal.returns-else-first-a
unfolding begins_either or
returns-else-first-a c =
    let there = c.in-Some.ensures.lookup.3 in
    rw (front_one c.args.source.now c.args.at there.0, ← there.1 0, ne_eqb _ _ c.if-first-a.false)
