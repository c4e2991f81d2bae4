-- What is read is what was taken from the input, and each turn that goes on puts a byte or takes one retry.
use Rattle.std.proofs.Common.{◌≡◌, ◌+◌, ◌-◌, ◌≤◌, length, take}
use Rattle.std.specs.Io.KnownBytes.{Consumes}
use Rattle.replies.proofs.script.read_script.Given as goal

abbrev pub invariant-loop-reading : goal.invariant-loop-reading
invariant-loop-reading g l =
    (length l.buffer ≡ length l.initial.buffer)
    × (l.reading.done ≤ length l.buffer)
    × Consumes (g.R.Read.remaining l.initial.input) (g.R.Read.remaining l.input) (take l.reading.done l.buffer)

abbrev pub decreases-loop-reading : goal.decreases-loop-reading
decreases-loop-reading g l = length l.initial.buffer - l.reading.done + l.reading.retries
