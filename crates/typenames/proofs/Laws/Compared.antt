-- Names compared by what they are read as, which has as many bytes; and what is left of a name, read byte by byte. Assumes nothing.
use Prim.Native.Char.{code}
use Prim.Native.Nat.{ℕ, suc}
use mathlib.Core.Path.{◌≡◌, refl, sym, ◌∙◌, ap}
use mathlib.Core.Bool.{Bool, true, false}
use mathlib.Core.List.{List, [], ◌∷◌}
use native.Mathlib.Omega.{arith}
use borrow.Author.Tests.{eqb-true, eq-eqb}
use lib.Dec.{eqb}
use lib.ListN.{length}
use Rattle.std.specs.Bool.{Decides, one_answer}
use Rattle.lexer.specs.Tests.{and, or, pick}
use Rattle.lexer.specs.Spellings.{same}
use Rattle.lexer.specs.Words.{two_colons, as_name, same_name}
use Rattle.lexer.proofs.Laws.Tests.{and_left, and_right}
use Rattle.typenames.specs.internal.Pairs.{read_from}

-- a name has as many bytes as what it is read as
pick-length : (t : Bool) (v w : List ℕ) (n : ℕ) → length v ≡ n → length w ≡ n → length (pick t v w) ≡ n
pick-length true v w n hv hw = hv
pick-length false v w n hv hw = hw

pub name_length : (v : List ℕ) → length (as_name v) ≡ length v
unfolding as_name
name_length [] = refl
name_length (a ∷ []) = refl
name_length (a ∷ b ∷ s) =
    pick-length (two_colons (a ∷ b ∷ [])) (code "_" ∷ code "_" ∷ as_name s) (a ∷ as_name (b ∷ s)) (suc (suc (length s)))
    (ap (λ (n : ℕ). suc (suc n)) (name_length s)) (ap suc (name_length (b ∷ s)))

-- the same bytes are one list
pub same-equal : (v w : List ℕ) → same v w ≡ true → v ≡ w
unfolding same
same-equal [] [] h = refl
same-equal [] (b ∷ t) h = let z : ◌≡◌ {A = ℕ} 0 1 = cc in absurd (omega arith)
same-equal (a ∷ s) [] h = let z : ◌≡◌ {A = ℕ} 0 1 = cc in absurd (omega arith)
same-equal (a ∷ s) (b ∷ t) h =
    let front = eqb-true b a (and_right (same s t) (eqb b a) h) in
    let rest = same-equal s t (and_left (same s t) (eqb b a) h) in
    cc

-- names of different lengths are not the same
pub lengths_differ : (v w : List ℕ) → (length v ≡ length w → ⊥) → same_name v w ≡ false
unfolding same_name
lengths_differ v w h = cases (same (as_name v) (as_name w)) refl
  where
    cases : (t : Bool) → same (as_name v) (as_name w) ≡ t → same (as_name v) (as_name w) ≡ false
    cases false e = e
    cases true e = absurd (h (sym (name_length v) ∙ ap length (same-equal (as_name v) (as_name w) e) ∙ name_length w))

-- what is left of a name is read byte by byte
pub read_none : (inside : Bool) (s : List ℕ) → length s ≡ 0 → read_from inside s ≡ []
unfolding as_name
read_none true [] h = refl
read_none false [] h = refl
read_none inside (b ∷ s) h = absurd (omega arith)

read_pair : (b d : ℕ) (s : List ℕ) (t : Bool)
    → pick t (code "_" ∷ code "_" ∷ as_name s) (b ∷ as_name (d ∷ s)) ≡ pick t (code "_") b ∷ read_from t (d ∷ s)
read_pair b d s true = refl
read_pair b d s false = refl

as_name_step : (b : ℕ) (s : List ℕ) → as_name (b ∷ s) ≡ pick (two_colons (b ∷ s)) (code "_") b ∷ read_from (two_colons (b ∷ s)) s
unfolding as_name two_colons
as_name_step b [] = refl
as_name_step b (d ∷ s) = read_pair b d s (two_colons (b ∷ d ∷ []))

-- .. outside of a `::`, by whether one begins
pub read_step : (name : List ℕ) (b : ℕ) (s : List ℕ) (inside after t : Bool) → name ≡ b ∷ s → inside ≡ false → after ≡ t
    → two_colons name ≡ t → read_from inside name ≡ pick t (code "_") b ∷ read_from after s
read_step name b s inside after t first out on e = rw (first, out, on, as_name_step b s, ← first, e)

-- .. and from any place
pub read_onward : (inside : Bool) (b : ℕ) (s : List ℕ)
    → read_from inside (b ∷ s) ≡ pick (or inside (two_colons (b ∷ s))) (code "_") b ∷ read_from (pick inside false (two_colons (b ∷ s))) s
unfolding or
read_onward true b s = refl
read_onward false b s = as_name_step b s

-- names are the same exactly where what they are read as is
same_refl : (v : List ℕ) → same v v ≡ true
unfolding same and
same_refl [] = refl
same_refl (b ∷ s) = rw (same_refl s, eq-eqb b b refl)

pub same_of : (r : Bool) (v w : List ℕ) → Decides r (as_name v ≡ as_name w) → r ≡ same_name v w
unfolding same_name
same_of r v w d = one_answer r (same (as_name v) (as_name w)) d (same-equal (as_name v) (as_name w), λ e. rw e (same_refl (as_name w)))
