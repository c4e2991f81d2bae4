-- The text of a token whose place and length are cut to what the source has. Assumes nothing.
use Prim.Native.Nat.{ℕ, min, ◌-◌}
use mathlib.Core.Path.{◌≡◌, refl}
use mathlib.Core.Bool.{Bool, true, false}
use mathlib.Core.List.{List}
use native.Mathlib.Omega.{arith}
use native.Mathlib.Nat.{min-eq_left}
use lib.Dec.{leb}
use borrow.Author.Tests.{leb-true, leb-false}
use lib.ListN.{length, take, drop, length-drop, drop_of_length-le}
use lib.Seq.{take_all}

take_cut_by : (l : List ℕ) (n : ℕ) (t : Bool) → leb n (length l) ≡ t → take (min n (length l)) l ≡ take n l
take_cut_by l n true e = rw (min-eq_left (leb-true n (length l) e))
take_cut_by l n false e =
    let h = leb-false n (length l) e in
    let least : min n (length l) ≡ length l = omega arith in
    rw (least, take_all (length l) l (omega arith), take_all n l (omega arith))

-- so many bytes, or all that there are
take_cut : (l : List ℕ) (n : ℕ) → take (min n (length l)) l ≡ take n l
take_cut l n = take_cut_by l n (leb n (length l)) refl

drop_cut_by : (l : List ℕ) (n : ℕ) (t : Bool) → leb n (length l) ≡ t → drop (min n (length l)) l ≡ drop n l
drop_cut_by l n true e = rw (min-eq_left (leb-true n (length l) e))
drop_cut_by l n false e =
    let h = leb-false n (length l) e in
    let least : min n (length l) ≡ length l = omega arith in
    rw (least, drop_of_length-le l {i = length l} (omega arith), drop_of_length-le l {i = n} (omega arith))

drop_cut : (l : List ℕ) (n : ℕ) → drop (min n (length l)) l ≡ drop n l
drop_cut l n = drop_cut_by l n (leb n (length l)) refl

-- a part whose start and length are cut
pub text_cut : (source : List ℕ) (start size : ℕ)
    → take (min size (length source - min start (length source))) (drop (min start (length source)) source)
    ≡ take size (drop start source)
text_cut source start size =
    let first = min start (length source) in
    rw (← length-drop first source, take_cut (drop first source) size, drop_cut source start)
