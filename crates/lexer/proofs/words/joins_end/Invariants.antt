-- `lexer::words::joins_end` meets its contract: the place reached and the joins from there on make the whole.
-- Assumes nothing.
use mathlib.Core.Path.{◌≡◌}
use Prim.Native.Nat.{◌+◌, ◌-◌}
use lib.ListN.{length, drop}
use Rattle.lexer.specs.Words.{joins}
use Rattle.lexer.proofs.words.joins_end.Given as goal

abbrev pub invariant-loop-part : goal.invariant-loop-part
invariant-loop-part l = l.i + joins (drop l.i l.source) ≡ l.end + joins (drop l.end l.source)

abbrev pub decreases-loop-part : goal.decreases-loop-part
decreases-loop-part l = length l.source - l.i
