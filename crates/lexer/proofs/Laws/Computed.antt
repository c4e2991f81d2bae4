-- Rules proved at many numbers by one test that is computed: of each entry of a table, and of each number of a range, or
-- each but some. Assumes nothing.
use mathlib.Core.Path.{◌≡◌, refl, subst, sym}
use mathlib.Core.Bool.{Bool, true, false}
use mathlib.Core.List.{List, [], ◌∷◌}
use Prim.Native.Nat.{ℕ, zero, suc, ◌+◌, ◌-◌, ◌≤◌, ◌<◌}
use native.Mathlib.Nat.{add-zero, zero-add, add-suc, suc-add, le_of_suc-le-suc, not-suc-le-zero}
use native.Mathlib.Omega.{arith}
use lib.Dec.{T, eqb}
use lib.ListN.{get_or}
use borrow.Author.Tests.{eqb-true, eqb-false, ne_eqb}
use Rattle.lexer.specs.Tests.{or, among}

abbrev pub both : Bool → Bool → Bool
both true b = b
both false b = false

pub both_left : (a b : Bool) → T (both a b) → T a
both_left true b t = tt
both_left false b t = t

pub both_right : (a b : Bool) → T (both a b) → T b
both_right true b t = t
both_right false b t = absurd t

-- a function's values at n numbers, from i on
abbrev pub table : (ℕ → ℕ) → ℕ → ℕ → List ℕ
table f i zero = []
table f i (suc n) = f i ∷ table f (suc i) n

from : (f : ℕ → ℕ) (i n k : ℕ) → k < n → get_or (table f i n) k 0 ≡ f (i + k)
from f i zero k h = absurd (not-suc-le-zero h)
from f i (suc n) zero h = rw add-zero refl
from f i (suc n) (suc k) h = rw (add-suc, ← suc-add) (from f (suc i) n k (le_of_suc-le-suc h))

-- an entry of the table; a constant table of the code is compared with it by computation
pub entry : (f : ℕ → ℕ) (n k : ℕ) → k < n → get_or (table f 0 n) k 0 ≡ f k
entry f n k h = rw zero-add at (from f 0 n k h)

-- a test passes at each number below n
abbrev pub all : (ℕ → Bool) → ℕ → Bool
all f zero = true
all f (suc n) = both (f n) (all f n)

step : (f : ℕ → Bool) (n k : ℕ) → k < suc n → T (f n) → (k < n → T (f k)) → (t : Bool) → eqb k n ≡ t → T (f k)
step f n k h here below true e = subst (λ (m : ℕ). T (f m)) (sym (eqb-true k n e)) here
step f n k h here below false e = let ne = eqb-false k n e in below (omega arith)

-- ... and so at one of them
pub all-at : (f : ℕ → Bool) (n : ℕ) → T (all f n) → (k : ℕ) → k < n → T (f k)
all-at f zero t k h = absurd (not-suc-le-zero h)
all-at f (suc n) t k h =
    step f n k h (both_left (f n) (all f n) t) (all-at f n (both_right (f n) (all f n) t) k) (eqb k n) refl

-- ... or at each of n numbers from a number on
pub within : (f : ℕ → Bool) (low n : ℕ) → T (all (λ i. f (low + i)) n) → (k : ℕ) → low ≤ k → k < low + n → T (f k)
within f low n t k h below =
    let e : low + (k - low) ≡ k = omega arith in
    rw e at (all-at (λ i. f (low + i)) n t (k - low) (omega arith))

-- none of some numbers, the last first, as the last arm of a `match` knows it
abbrev pub None : List ℕ → ℕ → Type 0
None [] n = Unit
None (k ∷ ks) n = None ks n × (n ≡ k → ⊥)

pub none : (ks : List ℕ) (n : ℕ) → None ks n → among ks n ≡ false
unfolding among or
none [] n h = refl
none (k ∷ ks) n h = rw (ne_eqb k n (λ (e : k ≡ n). h.1 (sym e))) (none ks n h.0)

or_told : (a b : Bool) → T (or a b) → a ≡ false → b ≡ true
unfolding or
or_told true b t e = let z : ◌≡◌ {A = ℕ} 0 1 = cc in absurd (omega arith)
or_told false true t e = refl
or_told false false t e = absurd t

-- a function's value at each of n numbers from a number on, but where a test lets out
pub elsewhere : (f : ℕ → ℕ) (v : ℕ) (out : ℕ → Bool) (low n : ℕ)
    → T (all (λ i. or (out (low + i)) (eqb (f (low + i)) v)) n)
    → (k : ℕ) → low ≤ k → k < low + n → out k ≡ false → v ≡ f k
elsewhere f v out low n t k h below in-it =
    sym (eqb-true (f k) v (or_told _ _ (within (λ k. or (out k) (eqb (f k) v)) low n t k h below) in-it))
