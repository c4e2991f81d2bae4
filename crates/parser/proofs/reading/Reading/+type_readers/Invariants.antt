-- What falls at each call of the cycle, and what its loops keep.
use Prim.Native.Nat.{◌*◌, ◌+◌}
use Rattle.parser.proofs.reading.Reading.+type_readers.Given as goal

abbrev pub decreases-parenthesized : goal.decreases-parenthesized
decreases-parenthesized l = (l.below + 1) * 4 + 1

abbrev pub decreases-read_type : goal.decreases-read_type
decreases-read_type l = l.left * 4 + 2

abbrev pub decreases-marked_type : goal.decreases-marked_type
decreases-marked_type l = (l.below + 1) * 4 + 1

abbrev pub decreases-result_type : goal.decreases-result_type
decreases-result_type l = (l.below + 1) * 4 + 1

abbrev pub decreases-types : goal.decreases-types
decreases-types l = l.left * 4 + 3
