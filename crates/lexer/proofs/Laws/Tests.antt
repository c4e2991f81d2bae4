-- Laws of the tests and choices that the lexical rules are written with. Assumes nothing.
use Prim.Native.Nat.{ℕ, ◌≤◌}
use mathlib.Core.Path.{◌≡◌, refl, ◌∙◌, sym}
use mathlib.Core.Bool.{Bool, true, false, not}
use native.Mathlib.Omega.{arith}
use lib.Dec.{eqb, leb}
use borrow.Author.Tests.{eqb-true, eqb-false, eq-eqb, ne_eqb, leb-true}
use Rattle.lexer.specs.Tests.{and, or, between, pick}

pub and-false : (t : Bool) → and t false ≡ false
unfolding and
and-false true = refl
and-false false = refl

pub and-true : (t : Bool) → and t true ≡ t
unfolding and
and-true true = refl
and-true false = refl

pub or-false : (t : Bool) → or t false ≡ t
unfolding or
or-false true = refl
or-false false = refl

pub and_left : (a b : Bool) → and a b ≡ true → a ≡ true
unfolding and
and_left true b h = refl
and_left false b h = h

pub and_right : (a b : Bool) → and a b ≡ true → b ≡ true
unfolding and
and_right true b h = h
and_right false b h = let z : ◌≡◌ {A = ℕ} 0 1 = cc in absurd (omega arith)

pub or_else_lem : {P : Type 0} (a b : Bool) → (a ≡ true → P) → (b ≡ true → P) → or a b ≡ true → P
unfolding or
or_else_lem true b f g h = f refl
or_else_lem false b f g h = g h

pub or_left : (a b : Bool) → a ≡ true → or a b ≡ true
unfolding or
or_left true b h = refl
or_left false b h = let z : ◌≡◌ {A = ℕ} 0 1 = cc in absurd (omega arith)

pub or_right : (a b : Bool) → b ≡ true → or a b ≡ true
unfolding or
or_right true b h = refl
or_right false b h = h

pub between_range : (low high n : ℕ) → between low high n ≡ true → (low ≤ n) × (n ≤ high)
unfolding between
between_range low high n h =
    let above = leb low n in
    let below = leb n high in
    (leb-true low n (and_left above below h), leb-true n high (and_right above below h))

-- the same, whatever a test says
pub pick_same {ℓ} : {A : Type ℓ} (t : Bool) (a : A) → pick t a a ≡ a
pick_same true a = refl
pick_same false a = refl

pub eqb_turn : (a b : ℕ) → eqb a b ≡ eqb b a
eqb_turn a b = cases (eqb a b) refl
  where
    cases : (t : Bool) → eqb a b ≡ t → eqb a b ≡ eqb b a
    cases true e = e ∙ sym (eq-eqb b a (sym (eqb-true a b e)))
    cases false e = e ∙ sym (ne_eqb b a (λ (h : b ≡ a). eqb-false a b e (sym h)))

-- two different numbers are not both k
pub apart : (k x y : ℕ) → (x ≡ y → ⊥) → and (eqb y k) (eqb x k) ≡ false
unfolding and
apart k x y h = cases (eqb y k) refl
  where
    cases : (t : Bool) → eqb y k ≡ t → and t (eqb x k) ≡ false
    cases true e = ne_eqb x k (λ (q : x ≡ k). h (q ∙ sym (eqb-true y k e)))
    cases false e = refl

-- the opposite of a test
pub not-true : (t : Bool) → not t ≡ true → t ≡ false
not-true false h = refl
not-true true h = sym h

pub not-false : (t : Bool) → not t ≡ false → t ≡ true
not-false true h = refl
not-false false h = sym h
