-- `nurl::reading::names_buffer` meets its contract: the length of a repeat, with nothing computed. Assumes nothing.
use Prim.Native.Nat.{ℕ}
use mathlib.Core.Path.{refl, sym}
use lib.ListN.{length-replicate}
use Rattle.nurl.proofs.reading.names_buffer.Goals as goal

pub returns : goal.returns
returns c = record { size = sym (length-replicate {0} {A = ℕ} 20480 0); unset = refl }
