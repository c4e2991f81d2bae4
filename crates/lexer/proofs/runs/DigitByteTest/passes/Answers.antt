-- `lexer::runs::DigitByteTest::passes` meets its contract: the table tells it. Assumes nothing.
use mathlib.Core.Path.{sym}
use Rattle.lexer.proofs.Laws.Entries.{digit_there, no_digit_there}
use Rattle.lexer.proofs.runs.DigitByteTest.passes.Goals as goal

pub returns-in-Digit : goal.returns-in-Digit
returns-in-Digit c = sym (digit_there _ c.ranges.b.fits c.in-Digit.ensures)

pub returns-in_default : goal.returns-in_default
returns-in_default c = no_digit_there _ _ c.ranges.b.fits c.of.ensures c.in_default.not-Digit
