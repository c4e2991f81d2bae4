-- `lexer::scanner::Scanner::scan_lexemes` meets its contract: what is met, counted and written so far, and what the bytes from the place
-- reached on are, make the whole (`Passed`). Assumes nothing.
use Prim.Native.Nat.{◌-◌}
use lib.ListN.{length}
use Rattle.lexer.specs.internal.Editions.{edition_of}
use Rattle.lexer.proofs.Laws.Passes.{Passed}
use Rattle.lexer.proofs.scanner.Scanner.scan_lexemes.Given as goal

abbrev pub invariant-loop-kind : goal.invariant-loop-kind
invariant-loop-kind l = Passed (edition_of l.edition) l.self.source.now l.initial.table l.table l.at l.count

abbrev pub decreases-loop-kind : goal.decreases-loop-kind
decreases-loop-kind l = length l.self.source.now - l.at
