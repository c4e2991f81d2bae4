-- `lexer::scanner::Scanner::after_blank` meets its contract. Assumes nothing.
use native.Mathlib.Omega.{arith}
use borrow.Author.Tests.{eq-eqb, ne_eqb}
use Rattle.lexer.specs.Tests.{and}
use Rattle.lexer.proofs.scanner.Scanner.after_blank.Goals as goal
use Rattle.lexer.proofs.scanner.Scanner.after_blank.Goals.{else-bounded-via-then-bounded+else-self-at-eq32, else-bounded-via-else-bounded}

pub returns-then-self-at-eq32 : goal.returns-then-self-at-eq32
unfolding and
returns-then-self-at-eq32 c = rw (c.if-bounded.true, eq-eqb _ _ c.if-self-at-eq32.true)

pub returns : goal.returns
unfolding and
returns c = elim c.else-bounded.branch [
  | else-bounded-via-then-bounded+else-self-at-eq32 w ↦ rw (w.if-bounded.true, ne_eqb _ _ w.if-self-at-eq32.false) (omega arith)
  | else-bounded-via-else-bounded w ↦ rw w.if-bounded.false (omega arith)
]
