-- How far a class of bytes runs, at a place of a list. Assumes nothing.
use Prim.Native.Nat.{ℕ, zero, suc, ◌+◌, ◌-◌, ◌≤◌, ◌<◌, zero-le, suc-le-suc}
use mathlib.Core.Path.{◌≡◌, refl, ◌∙◌, sym, ap}
use mathlib.Core.Bool.{Bool, true, false, not, ◌||◌}
use mathlib.Core.List.{List, [], ◌∷◌}
use lib.Dec.{eqb}
use lib.ListN.{length, take, drop, get_or, length-drop, drop_of_length-le}
use lib.Seq.{drop-cons, drop-drop}
use native.Mathlib.Numerals.{add-one}
use native.Mathlib.Omega.{arith}
use native.Mathlib.Nat.{zero-add, add-zero, add-suc, suc-add, add_assoc}
use borrow.Author.Tests.{eq-eqb, ne_eqb}
use Rattle.std.specs.List.{list_any}
use Rattle.std.proofs.lemmas.Bool.{false≢true}
use Rattle.lexer.specs.Bytes.{run}
use Rattle.lexer.specs.internal.Leaves.{is_not, Goes}

pub run_nil : (p : ℕ → Bool) → run p [] ≡ 0
unfolding run
run_nil p = refl

pub run_pass : (p : ℕ → Bool) (b : ℕ) (s : List ℕ) → p b ≡ true → run p (b ∷ s) ≡ suc (run p s)
unfolding run
run_pass p b s h = rw h

pub run_stop : (p : ℕ → Bool) (b : ℕ) (s : List ℕ) → p b ≡ false → run p (b ∷ s) ≡ 0
unfolding run
run_stop p b s h = rw h

run_le_by : (p : ℕ → Bool) (b : ℕ) (s : List ℕ) (t : Bool) → p b ≡ t → run p s ≤ length s → run p (b ∷ s) ≤ suc (length s)
run_le_by p b s true h below = rw (run_pass p b s h) (suc-le-suc below)
run_le_by p b s false h below = rw (run_stop p b s h) zero-le

pub run_le : (p : ℕ → Bool) (s : List ℕ) → run p s ≤ length s
run_le p [] = rw run_nil zero-le
run_le p (b ∷ s) = run_le_by p b s (p b) refl (run_le p s)

-- a test that passes wherever another does runs at least as far
module _ (p q : ℕ → Bool) (wider : (b : ℕ) → p b ≡ true → q b ≡ true) where
  run_narrow_by : (b : ℕ) (s : List ℕ) (t : Bool) → p b ≡ t → run p s ≤ run q s → run p (b ∷ s) ≤ run q (b ∷ s)
  run_narrow_by b s true h below = rw (run_pass p b s h, run_pass q b s (wider b h)) (suc-le-suc below)
  run_narrow_by b s false h below = rw (run_stop p b s h) zero-le

  pub run_narrow : (s : List ℕ) → run p s ≤ run q s
  run_narrow [] = rw (run_nil p) zero-le
  run_narrow (b ∷ s) = run_narrow_by b s (p b) refl (run_narrow s)

-- two tests that agree at every byte run equally far
module _ (p q : ℕ → Bool) (agreeing : (b : ℕ) → b < 256 → p b ≡ q b) where
  pub run_same : (s : List ℕ) → ((i : ℕ) → get_or s i 0 < 256) → run p s ≡ run q s
  unfolding run
  run_same [] bytes = refl
  run_same (b ∷ s) bytes = rw (agreeing b (bytes 0), run_same s (λ i. bytes (suc i)))

-- a run from a place on
module _ (p : ℕ → Bool) (s : List ℕ) (i : ℕ) where
  pub run_past : length s ≤ i → run p (drop i s) ≡ 0
  run_past h = rw (drop_of_length-le s h) (run_nil p)

  pub run_goes_on : i < length s → p (get_or s i 0) ≡ true → i + run p (drop i s) ≡ (i + 1) + run p (drop (i + 1) s)
  run_goes_on h e = rw (add-one, drop-cons s i 0 h, run_pass p _ _ e, add-suc, suc-add)

  pub run_ends : i < length s → p (get_or s i 0) ≡ false → run p (drop i s) ≡ 0
  run_ends h e = rw (drop-cons s i 0 h) (run_stop p _ _ e)

-- a byte that the test lets out ends every run before it
module _ (p : ℕ → Bool) (s : List ℕ) where
  run-short_by : (n at : ℕ) (t : Bool) → at < length s → p (get_or s at 0) ≡ t → run p (drop (at + 1) s) ≤ n → run p (drop at s) ≤ suc n
  run-short_by n at true inside goes later = let on = run_goes_on p s at inside goes in omega arith
  run-short_by n at false inside ends later = rw (run_ends p s at inside ends) zero-le

  run_short : (n at : ℕ) → at + n < length s → p (get_or s (at + n) 0) ≡ false → run p (drop at s) ≤ n
  run_short zero at inside out = rw (run_ends p s at (rw add-zero at inside) (rw add-zero at out)) zero-le
  run_short (suc n) at inside out =
      let next : at + suc n ≡ (at + 1) + n = omega arith in
      run-short_by n at (p (get_or s at 0)) (omega arith) refl (run_short n (at + 1) (omega arith) (rw next at out))

  pub run_upto : (at i : ℕ) → at ≤ i → i < length s → p (get_or s i 0) ≡ false → at + run p (drop at s) ≤ i
  run_upto at i before inside out =
      let here : at + (i - at) ≡ i = omega arith in
      let short = run_short (i - at) at (rw here inside) (rw here out) in
      omega arith

-- A run that is followed byte by byte, from `at` on: the place reached and what is left to run make the whole (`Goes`).
module _ (p : ℕ → Bool) (s : List ℕ) (at i : ℕ) (so_far : Goes p s at i) where
  pub follow_on : i < length s → p (get_or s i 0) ≡ true → Goes p s at (i + 1)
  follow_on h e = sym (run_goes_on p s i h e) ∙ so_far

  pub follow_ends : i < length s → p (get_or s i 0) ≡ false → i ≡ at + run p (drop at s)
  follow_ends h e = sym (add-zero i) ∙ rw (run_ends p s i h e) at so_far

  pub follow_past : length s ≤ i → i ≡ at + run p (drop at s)
  follow_past h = sym (add-zero i) ∙ rw (run_past p s i h) at so_far

  -- .. to a place that is the next one
  pub follow_to : (j : ℕ) → j ≡ i + 1 → i < length s → p (get_or s i 0) ≡ true → Goes p s at j
  follow_to j next h e = rw next (follow_on h e)

-- a run up to a byte
pub is_stop : (stop b : ℕ) → b ≡ stop → is_not stop b ≡ false
is_stop stop b h = rw (eq-eqb b stop h)

pub is_other : (stop b : ℕ) → (b ≡ stop → ⊥) → is_not stop b ≡ true
is_other stop b h = rw (ne_eqb b stop h)

-- whether some bytes at the front have the byte that ends a run, and how far the run goes
module _ (stop : ℕ) where
  abbrev stops_in : List ℕ → Bool
  stops_in = list_any (λ (b : ℕ). eqb b stop)

  none_stops : (n : ℕ) (s : List ℕ) → n ≤ length s → stops_in (take n s) ≡ false → n + run (is_not stop) (drop n s) ≡ run (is_not stop) s
  none_stops zero s h none = zero-add _
  none_stops (suc n) [] h none = absurd (omega arith)
  none_stops (suc n) (b ∷ s) h none = by (eqb b stop) refl none (none_stops n s (omega arith))
    where
      by : (t : Bool) → eqb b stop ≡ t → (t || stops_in (take n s)) ≡ false
          → (stops_in (take n s) ≡ false → n + run (is_not stop) (drop n s) ≡ run (is_not stop) s)
          → suc n + run (is_not stop) (drop n s) ≡ run (is_not stop) (b ∷ s)
      by true e none more = absurd (false≢true (sym none))
      by false e none more = rw (suc-add, run_pass (is_not stop) b s (ap not e)) (ap (λ (k : ℕ). suc k) (more none))

  one_stops : (n : ℕ) (s : List ℕ) → stops_in (take n s) ≡ true → run (is_not stop) s < length s
  one_stops zero s one = absurd (false≢true one)
  one_stops (suc n) [] one = absurd (false≢true one)
  one_stops (suc n) (b ∷ s) one = by (eqb b stop) refl one (one_stops n s)
    where
      by : (t : Bool) → eqb b stop ≡ t → (t || stops_in (take n s)) ≡ true → (stops_in (take n s) ≡ true → run (is_not stop) s < length s)
          → run (is_not stop) (b ∷ s) < suc (length s)
      by true e one more = rw (run_stop (is_not stop) b s (ap not e)) (omega arith)
      by false e one more = rw (run_pass (is_not stop) b s (ap not e)) (suc-le-suc (more one))

  -- the same of a part that begins at a place
  module _ (s : List ℕ) (at n : ℕ) (inside : at + n ≤ length s) where
    part : at + n - at ≡ n
    part = omega arith

    pub block_goes : stops_in (take (at + n - at) (drop at s)) ≡ false → Goes (is_not stop) s at (at + n)
    block_goes none =
        let rest = length-drop at s in
        let on = none_stops n (drop at s) (omega arith) (rw part at none) in
        ap (λ (t : List ℕ). at + n + run (is_not stop) t) (sym (drop-drop n at s)) ∙ add_assoc at n _ ∙ ap (λ (k : ℕ). at + k) on

    pub block_ends : stops_in (take (at + n - at) (drop at s)) ≡ true → at + run (is_not stop) (drop at s) < length s
    block_ends one =
        let rest = length-drop at s in
        let ends = one_stops n (drop at s) (rw part at one) in
        omega arith
