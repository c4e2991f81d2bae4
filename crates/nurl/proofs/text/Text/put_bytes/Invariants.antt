-- `nurl::text::Text::put_bytes` meets its contract. The loop's invariant: the bytes passed are written.
use Rattle.std.proofs.Common.{take, Some}
use Rattle.nurl.specs.internal.Writing.{Writes}
use Rattle.nurl.proofs.text.Text.put_bytes.Given as goal

abbrev pub invariant-loop-byte : goal.invariant-loop-byte
invariant-loop-byte l = Writes (take l.byte-index l.bytes) l.initial.self (Some tt) l.self
