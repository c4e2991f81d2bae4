-- What falls at each call of the cycle, and what its loops keep.
use Prim.Native.Nat.{◌*◌, ◌+◌, ◌-◌, ◌≤◌}
use lib.ListN.{replicate}
use Rattle.tree.specs.internal.RowKindNumbers.{row_kind_number}
use Rattle.grammar.specs.Grammars.{derived}
use Rattle.grammar.specs.internal.Nonterminals.{expression as anExpression}
use Rattle.parser.proofs.Laws.Results.{Begun}
use Rattle.parser.proofs.reading.Reading.+expression_readers.Given as goal

-- `arm`

abbrev pub decreases-arm : goal.decreases-arm
decreases-arm l = l.left * 8 + 1

-- `arms`

abbrev pub decreases-arms : goal.decreases-arms
decreases-arms l = l.left * 8 + 2

-- `assignment`

abbrev pub decreases-assignment : goal.decreases-assignment
decreases-assignment l = (l.below + 1) * 8 + 1

-- `block`

abbrev pub decreases-block : goal.decreases-block
decreases-block l = l.left * 8 + 3

-- `call`

abbrev pub decreases-call : goal.decreases-call
decreases-call l = (l.below + 1) * 8 + 1

-- `cast`

abbrev pub decreases-cast : goal.decreases-cast
decreases-cast l = (l.below + 1) * 8 + 1

-- `defer`

abbrev pub decreases-defer : goal.decreases-defer
decreases-defer l = (l.below + 1) * 8 + 1

-- `elements`

abbrev pub decreases-elements : goal.decreases-elements
decreases-elements l = (l.below + 1) * 8 + 1

-- `expression`

abbrev pub decreases-expression : goal.decreases-expression
decreases-expression l = l.left * 8 + 4

-- `expressions`

abbrev pub decreases-expressions : goal.decreases-expressions
decreases-expressions l = l.left * 8 + 5

-- `let_statement`

abbrev pub decreases-let_statement : goal.decreases-let_statement
decreases-let_statement l = (l.below + 1) * 8 + 1

-- `match_expression`

abbrev pub decreases-match_expression : goal.decreases-match_expression
decreases-match_expression l = (l.below + 1) * 8 + 1

-- `operation`

abbrev pub decreases-operation : goal.decreases-operation
decreases-operation l = (l.below + 1) * 8 + 1

abbrev pub invariant-operation-loop : goal.invariant-operation-loop
invariant-operation-loop l =
    (l.counter ≤ l.operands) ×
    Begun l.self l.below (row_kind_number l.kind) anExpression (replicate (l.operands - l.counter) (derived anExpression)) l.from l.initial.rows
    l.place l.rows

-- `statement`

abbrev pub decreases-statement : goal.decreases-statement
decreases-statement l = l.left * 8 + 5

-- `statements`

abbrev pub decreases-statements : goal.decreases-statements
decreases-statements l = l.left * 8 + 6

-- `tilde_statement`

abbrev pub decreases-tilde_statement : goal.decreases-tilde_statement
decreases-tilde_statement l = (l.below + 1) * 8 + 1

-- `try_or_closure`

abbrev pub decreases-try_or_closure : goal.decreases-try_or_closure
decreases-try_or_closure l = (l.below + 1) * 8 + 1
