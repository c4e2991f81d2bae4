-- Where the bytes of a source stand: in two parts, within a line, and after it. Assumes nothing.
use Prim.Native.Nat.{ℕ, zero, suc, ◌+◌, ◌-◌, ◌≤◌, ◌<◌}
use mathlib.Core.Path.{◌≡◌, refl, sym, ◌∙◌, ap}
use mathlib.Core.Bool.{Bool, true, false}
use mathlib.Core.List.{List, [], ◌∷◌, ◌++◌}
use native.Mathlib.Numerals.{add-one}
use native.Mathlib.Omega.{arith}
use native.Mathlib.Nat.{zero-add, add-zero, add-suc, suc-add}
use lib.ListN.{length, take, drop, get_or}
use lib.Seq.{length-take-le, drop-cons, take_all, take-add}
use Rattle.lexer.specs.Bytes.{is_in_line, run}
use Rattle.lexer.specs.Locations.{origin, next, after, location_of}
use Rattle.lexer.specs.declared.Location.{Location}
use Rattle.lexer.proofs.Laws.Runs.{run_nil, run_pass, run_stop, is_stop, is_other}

-- byte 10 ends a line, and no other byte does
pub ends_line : (b : ℕ) → b ≡ 10 → is_in_line b ≡ false
unfolding is_in_line
ends_line b h = is_stop 10 b h

pub in_a_line : (b : ℕ) → (b ≡ 10 → ⊥) → is_in_line b ≡ true
unfolding is_in_line
in_a_line b h = is_other 10 b h

-- some bytes and then others
pub after_append : (at : Location) (s t : List ℕ) → after at (s ++ t) ≡ after (after at s) t
unfolding after
after_append at [] t = refl
after_append at (b ∷ s) t = after_append (next at b) s t

next_in_line : (at : Location) (b : ℕ) → is_in_line b ≡ true → next at b ≡ record { line = at.line; column = suc at.column }
unfolding next
next_in_line at b h = rw h

next-line : (at : Location) (b : ℕ) → is_in_line b ≡ false → next at b ≡ record { line = suc at.line; column = 1 }
unfolding next
next-line at b h = rw h

-- so many columns further on in a line
abbrev along : Location → ℕ → Location
along at n = record { line = at.line; column = at.column + n }

-- bytes that stand in a line
in_line_by : (at : Location) (n b : ℕ) (s : List ℕ) (t : Bool) → is_in_line b ≡ t → suc n ≤ run is_in_line (b ∷ s)
    → (n ≤ run is_in_line s → after (along at 1) (take n s) ≡ along (along at 1) n) → after at (take (suc n) (b ∷ s)) ≡ along at (suc n)
unfolding after
in_line_by at n b s true h within more =
    let goes = run_pass is_in_line b s h in
    let step : next at b ≡ along at 1 = next_in_line at b h ∙ ap (λ (c : ℕ). record { line = at.line; column = c }) (omega arith) in
    ap (λ (x : Location). after x (take n s)) step
    ∙ more (omega arith)
    ∙ ap (λ (c : ℕ). record { line = at.line; column = c }) (omega arith)
in_line_by at n b s false h within more = absurd (let ends = run_stop is_in_line b s h in omega arith)

in_line : (at : Location) (n : ℕ) (s : List ℕ) → n ≤ run is_in_line s → after at (take n s) ≡ along at n
unfolding after
in_line at zero s within = ap (λ (c : ℕ). record { line = at.line; column = c }) (sym (add-zero at.column))
in_line at (suc n) [] within = absurd (let none = run_nil is_in_line in omega arith)
in_line at (suc n) (b ∷ s) within = in_line_by at n b s (is_in_line b) refl within (in_line (along at 1) n s)

location_more : (s : List ℕ) (m n : ℕ) → location_of s (m + n) ≡ after (location_of s m) (take n (drop m s))
location_more s m n = ap (after origin) (take-add m n s) ∙ after_append origin (take m s) (take n (drop m s))

-- a byte of a line stands as many columns after another as it stands bytes after it
pub location_in_line : (s : List ℕ) (first place : ℕ) → first ≤ place → place ≤ first + run is_in_line (drop first s)
    → location_of s place ≡ record { line = (location_of s first).line; column = (location_of s first).column + (place - first) }
location_in_line s first place on within =
    let split : first + (place - first) ≡ place = omega arith in
    rw split at (location_more s first (place - first) ∙ in_line (location_of s first) (place - first) (drop first s) (omega arith))

-- after the end of a line the next one begins
pub location_next_line : (s : List ℕ) (end : ℕ) → end < length s → is_in_line (get_or s end 0) ≡ false
    → location_of s (end + 1) ≡ record { line = suc (location_of s end).line; column = 1 }
unfolding after
location_next_line s end inside ends =
    location_more s end 1
    ∙ rw (drop-cons s end 0 inside) (next-line (location_of s end) (get_or s end 0) ends)

-- the numbers of a byte give those of the next
module _ (s : List ℕ) (i line column : ℕ) (inside : i < length s)
    (here : ◌≡◌ {A = Location} (record { line = line; column = column }) (location_of s i)) where
  pub column_on : is_in_line (get_or s i 0) ≡ true → ◌≡◌ {A = Location} (record { line = line; column = column + 1 }) (location_of s (i + 1))
  unfolding after
  column_on goes =
      rw (add-one column)
      (ap (λ (at : Location). record { line = at.line; column = suc at.column }) here
      ∙ sym (location_more s i 1 ∙ rw (drop-cons s i 0 inside) (next_in_line (location_of s i) (get_or s i 0) goes)))

  pub line_on : is_in_line (get_or s i 0) ≡ false → ◌≡◌ {A = Location} (record { line = line + 1; column = 1 }) (location_of s (i + 1))
  line_on ends =
      rw (add-one line) (ap (λ (at : Location). record { line = suc at.line; column = 1 }) here ∙ sym (location_next_line s i inside ends))

-- the first byte
pub origin-first : (s : List ℕ) → origin ≡ location_of s 0
unfolding after
origin-first s = refl

-- from the length on every offset is the end
pub location_past : (s : List ℕ) (i offset : ℕ) → length s ≤ i → length s ≤ offset → location_of s i ≡ location_of s offset
location_past s i offset past beyond = rw (take_all i s past, take_all offset s beyond)

-- neither number is larger than the bytes before, and one more
pub record Small (at : Location) (bytes : ℕ) : Type 0 where
  pub line : at.line ≤ suc bytes
  pub column : at.column ≤ suc bytes

small_by : (at : Location) (n b : ℕ) (t : Bool) → is_in_line b ≡ t → Small at n → Small (next at b) (suc n)
small_by at n b true h so_far =
    let line = so_far.line in
    let column = so_far.column in
    rw (next_in_line at b h) (record { line = omega arith; column = omega arith })
small_by at n b false h so_far =
    let line = so_far.line in
    rw (next-line at b h) (record { line = omega arith; column = omega arith })

small_after : (at : Location) (n : ℕ) (s : List ℕ) → Small at n → Small (after at s) (n + length s)
unfolding after
small_after at n [] so_far = rw (add-zero n) so_far
small_after at n (b ∷ s) so_far =
    rw (add-suc n (length s), ← suc-add n (length s)) (small_after (next at b) (suc n) s (small_by at n b (is_in_line b) refl so_far))

pub location_small : (s : List ℕ) (place : ℕ) → place ≤ length s → Small (location_of s place) place
location_small s place inside =
    let l = length-take-le place s inside in
    rw (l, zero-add place) at (small_after origin 0 (take place s) (record { line = omega arith; column = omega arith }))
