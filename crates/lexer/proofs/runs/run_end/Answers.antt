-- `lexer::runs::run_end` meets its contract: each arm searches by the test of its class. Assumes nothing.
use Rattle.lexer.specs.Bytes.{is_in_line, is_in_string}
use Rattle.lexer.proofs.runs.run_end.Goals as goal

pub returns-in-Word : goal.returns-in-Word
returns-in-Word c = rw c.in-Word.is c.end_of.ensures

pub returns-in-Space : goal.returns-in-Space
returns-in-Space c = rw c.in-Space.is c.end_of-in-Space.ensures

pub returns-in-Digit : goal.returns-in-Digit
returns-in-Digit c = rw c.in-Digit.is c.end_of-in-Digit.ensures

pub returns-in-Line : goal.returns-in-Line
unfolding is_in_line
returns-in-Line c = rw c.in-Line.is c.stop_end.ensures

pub returns-in-Text : goal.returns-in-Text
unfolding is_in_string
returns-in-Text c = rw c.in-Text.is c.stop_end-in-Text.ensures
