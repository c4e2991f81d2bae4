-- `lexer::runs::WordByteTest::passes` meets its contract: the table tells it. Assumes nothing.
use Rattle.lexer.proofs.Laws.Entries.{goes_on, goes_not_on}
use Rattle.lexer.proofs.runs.WordByteTest.passes.Goals as goal

pub returns-in-Letter : goal.returns-in-Letter
returns-in-Letter c = goes_on _ _ c.ranges.b.fits c.of.ensures c.in-Letter.is

pub returns-in_default : goal.returns-in_default
returns-in_default c = goes_not_on _ _ c.ranges.b.fits c.of.ensures c.in_default.not-Letter c.in_default.not-Digit
