-- Fractions, signs and exponents at a place of a list, as the tokeniser finds them. Assumes nothing.
use Prim.Native.Char.{code}
use Prim.Native.Nat.{ℕ, zero, suc, ◌+◌, ◌-◌, ◌<◌}
use mathlib.Core.Path.{◌≡◌, refl, sym, ◌∙◌}
use mathlib.Core.Bool.{true, false}
use mathlib.Core.List.{List, [], ◌∷◌}
use native.Mathlib.Omega.{arith}
use native.Mathlib.Nat.{not-suc-le-zero, add_assoc}
use lib.ListN.{length, drop}
use lib.Seq.{drop-drop}
use Rattle.lexer.specs.Bytes.{begins_either}
use Rattle.lexer.specs.Numbers.{digits, with_digits, fraction, sign, exponent}
use Rattle.lexer.specs.internal.Kinds.{int, float}
use Rattle.lexer.specs.Lexemes.{Token, number_of, unsigned_number}
use Rattle.lexer.proofs.Laws.Tests.{pick_same}

with_some : (n d : ℕ) → 0 < d → with_digits n d ≡ n + d
unfolding with_digits
with_some n zero h = absurd (not-suc-le-zero h)
with_some n (suc d) h = refl

with_none : (n d : ℕ) → d ≡ 0 → with_digits n d ≡ 0
unfolding with_digits
with_none n zero h = refl
with_none n (suc d) h = absurd (omega arith)

int_of : (n : ℕ) (t : List ℕ) → 0 < n → number_of n 0 t ≡ Token int n
unfolding number_of
int_of zero t h = absurd (not-suc-le-zero h)
int_of (suc n) t h = refl

float_of : (n f : ℕ) (t : List ℕ) → 0 < n → 0 < f → number_of n f t ≡ Token float (n + f + exponent (drop (n + f) t))
unfolding number_of
float_of zero zero t h g = absurd (not-suc-le-zero h)
float_of zero (suc f) t h g = absurd (not-suc-le-zero h)
float_of (suc n) zero t h g = absurd (not-suc-le-zero g)
float_of (suc n) (suc f) t h g = refl

-- where a byte stands, the list goes on
begins_inside_by : (a b : ℕ) (t : List ℕ) → begins_either a b t ≡ true → 0 < length t
unfolding begins_either
begins_inside_by a b [] h = let z : ◌≡◌ {A = ℕ} 0 1 = cc in absurd (omega arith)
begins_inside_by a b (c ∷ t) h = omega arith

module _ (s : List ℕ) (at : ℕ) where
  pub begins_inside : (a b : ℕ) → begins_either a b (drop at s) ≡ true → at < length s
  begins_inside a b h =
      let l = begins_inside_by a b (drop at s) h in
      let e = lib.ListN.length-drop at s in
      omega arith

  pub fraction-none : begins_either (code ".") (code ".") (drop at s) ≡ false → fraction (drop at s) ≡ 0
  unfolding fraction
  fraction-none h = rw h

  pub fraction_lost : digits (drop (at + 1) s) ≡ 0 → fraction (drop at s) ≡ 0
  unfolding fraction
  fraction_lost d = rw (drop-drop, with_none 1 (digits (drop (at + 1) s)) d) (pick_same (begins_either (code ".") (code ".") (drop at s)) 0)

  pub fraction_found : begins_either (code ".") (code ".") (drop at s) ≡ true → 0 < digits (drop (at + 1) s)
      → at + fraction (drop at s) ≡ at + 1 + digits (drop (at + 1) s)
  unfolding fraction
  fraction_found h d = rw (h, drop-drop, with_some 1 (digits (drop (at + 1) s)) d) (sym (add_assoc at 1 _))

  pub sign_some : begins_either (code "+") (code "-") (drop at s) ≡ true → sign (drop at s) ≡ 1
  unfolding sign
  sign_some h = rw h

  pub sign-none : begins_either (code "+") (code "-") (drop at s) ≡ false → sign (drop at s) ≡ 0
  unfolding sign
  sign-none h = rw h

module _ (s : List ℕ) (at : ℕ) where
  pub exponent-none : begins_either (code "e") (code "E") (drop at s) ≡ false → exponent (drop at s) ≡ 0
  unfolding exponent
  exponent-none h = rw h

  -- where the digits of an exponent begin
  from : ℕ
  from = at + 1 + sign (drop (at + 1) s)

  place : at + (1 + sign (drop (at + 1) s)) ≡ from
  unfolding from
  place = sym (add_assoc at 1 _)

  pub exponent_lost : digits (drop (at + 1 + sign (drop (at + 1) s)) s) ≡ 0 → exponent (drop at s) ≡ 0
  unfolding exponent from
  exponent_lost d =
      rw (drop-drop 1 at s, drop-drop, place, with_none (1 + sign (drop (at + 1) s)) (digits (drop from s)) d)
      (pick_same (begins_either (code "e") (code "E") (drop at s)) 0)

  pub exponent_found : begins_either (code "e") (code "E") (drop at s) ≡ true
      → 0 < digits (drop (at + 1 + sign (drop (at + 1) s)) s)
      → at + exponent (drop at s) ≡ at + 1 + sign (drop (at + 1) s) + digits (drop (at + 1 + sign (drop (at + 1) s)) s)
  unfolding exponent from
  exponent_found h d = rw (h, drop-drop 1 at s, drop-drop, place, with_some (1 + sign (drop (at + 1) s)) (digits (drop from s)) d) (omega arith)

-- the number at a place whose digits, with a minus or without, end at `whole`
module _ (s : List ℕ) (at whole : ℕ) (after : at < whole) where
  pub int-from : fraction (drop whole s) ≡ 0 → number_of (whole - at) (fraction (drop whole s)) (drop at s) ≡ Token int (whole - at)
  int-from none = rw none (int_of (whole - at) (drop at s) (omega arith))

  pub float-from : (point end : ℕ) → point ≡ whole + fraction (drop whole s) → whole < point → end ≡ point + exponent (drop point s)
      → number_of (whole - at) (fraction (drop whole s)) (drop at s) ≡ Token float (end - at)
  float-from point end fractional some ends =
      let f = fraction (drop whole s) in
      let place : at + (whole - at + f) ≡ point = omega arith in
      let size : whole - at + f + exponent (drop point s) ≡ end - at = omega arith in
      float_of (whole - at) f (drop at s) (omega arith) (omega arith) ∙ rw (drop-drop (whole - at + f) at s, place, size)

  -- .. without one
  pub unsigned_from : whole ≡ at + digits (drop at s) → number_of (whole - at) (fraction (drop whole s)) (drop at s) ≡ unsigned_number (drop at s)
  unfolding unsigned_number
  unsigned_from place =
      let size : whole - at ≡ digits (drop at s) = omega arith in
      rw (size, drop-drop (digits (drop at s)) at s, ← place)
