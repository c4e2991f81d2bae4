-- `Reading::next_is_either` meets its contract. Assumes nothing.
use Rattle.lexer.specs.Tests.{or}
use Rattle.parser.proofs.Laws.Kinds.{among_two}
use Rattle.parser.proofs.reading.Reading.next_is_either.Goals as goal

pub returns-then-next_is : goal.returns-then-next_is
unfolding or
returns-then-next_is c = rw (among_two, ← c.next_is.ensures, c.if-next_is.true)

pub returns-else-next_is : goal.returns-else-next_is
unfolding or
returns-else-next_is c = rw (among_two, ← c.next_is.ensures, c.if-next_is.false) c.next_is-else-next_is.ensures
