-- `lexer::runs::SpaceByteTest::passes` meets its contract: the table tells it. Assumes nothing.
use mathlib.Core.Path.{sym}
use Rattle.lexer.proofs.Laws.Entries.{space_there, no_space_there}
use Rattle.lexer.proofs.runs.SpaceByteTest.passes.Goals as goal

pub returns-in-Space : goal.returns-in-Space
returns-in-Space c = sym (space_there _ c.ranges.b.fits c.in-Space.ensures)

pub returns-in_default : goal.returns-in_default
returns-in_default c = no_space_there _ _ c.ranges.b.fits c.of.ensures c.in_default.not-Space
