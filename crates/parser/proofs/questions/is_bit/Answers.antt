-- `questions::is_bit` meets its contract. Assumes nothing.
use borrow.Author.Tests.{eq-eqb, ne_eqb}
use Rattle.lexer.specs.Tests.{or}
use Rattle.parser.proofs.Laws.Questions.{bit_text, bit_none}
use Rattle.parser.proofs.questions.is_bit.Goals as goal

pub returns-then-text-eq48 : goal.returns-then-text-eq48
unfolding or
returns-then-text-eq48 c = rw (bit_text _ c.if-text-eq1.true, eq-eqb _ _ c.if-text-eq48.true)

pub returns-else-text-eq48 : goal.returns-else-text-eq48
unfolding or
returns-else-text-eq48 c = rw (bit_text _ c.if-text-eq1.true, ne_eqb _ _ c.if-text-eq48.false)

pub returns-else-text-eq1 : goal.returns-else-text-eq1
returns-else-text-eq1 c = rw (bit_none _ c.if-text-eq1.false, ne_eqb _ _ c.if-text-eq1.false)
