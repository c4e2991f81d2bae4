-- The first bytes of a list from a place on. Assumes nothing.
use Prim.Native.Nat.{ℕ, ◌+◌, ◌≤◌, ◌<◌}
use mathlib.Core.Path.{◌≡◌, sym, ◌∙◌}
use mathlib.Core.Bool.{true}
use mathlib.Core.List.{List, [], ◌∷◌}
use lib.Dec.{eqb, ltb}
use lib.ListN.{length, drop, get_or, drop_of_length-le}
use lib.Seq.{drop-cons}
use native.Mathlib.Numerals.{add-one}
use native.Mathlib.Nat.{add_assoc}
use native.Mathlib.Omega.{arith}
use borrow.Author.Tests.{ltb-true, ltb-false, ne_eqb}
use Rattle.std.specs.Prelude.{Option, Some, None, is_some}
use Rattle.std.specs.Option.{IfSome, option_eq}
use Rattle.std.proofs.Common.{Bor}
use Rattle.std.proofs.lemmas.List.{get_or_past}
use Rattle.lexer.specs.Bytes.{begins_either, begins}
use Rattle.lexer.proofs.Laws.Tests.{or_else_lem}
use Rattle.std.proofs.lemmas.Grind.{get_or_default_zero}

module _ (s : List ℕ) (at : ℕ) where
  pub front_none : length s ≤ at → drop at s ≡ []
  front_none h = drop_of_length-le s h

  pub front_one : at < length s → drop at s ≡ get_or s at 0 ∷ drop (at + 1) s
  front_one h = rw add-one (drop-cons s at 0 h)

  pub front_last : at < length s → length s ≤ at + 1 → drop at s ≡ get_or s at 0 ∷ []
  front_last h e = rw (front_one h) (rw (drop_of_length-le s e))

module _ (s : List ℕ) (at : ℕ) where
  pub front_two : at + 1 < length s → drop at s ≡ get_or s at 0 ∷ get_or s (at + 1) 0 ∷ drop (at + 2) s
  front_two h =
      let below : at < length s = omega arith in
      rw (front_one s at below, front_one s (at + 1) h, add_assoc)

-- the byte that a test finds at the front is the first
pub begins_one : (a b : ℕ) (t : List ℕ) → begins a (b ∷ t) ≡ true → eqb b a ≡ true
unfolding begins_either
begins_one a b t = or_else_lem (eqb b a) (eqb b a) (λ h. h) (λ h. h)

-- the byte that `get` has found at a place
pub byte_there : (s : List ℕ) (at b : ℕ) → at < length s → b ≡ get_or s at b → get_or s at 0 ≡ b
byte_there s at b inside is = sym (is ∙ get_or_default_zero s at b inside)

-- what comparing the byte that `get` has found, if any, with one that is not 0 tells
pub byte_tested : (s : List ℕ) (at : ℕ) (found : Option (Bor ℕ)) (b : Bor ℕ) → 0 < b.now → is_some found ≡ ltb at (length s)
    → IfSome found (λ x. x.now ≡ get_or s at x.now)
    → option_eq (λ x y. eqb x.now y.now) found (Some b) ≡ eqb (get_or s at 0) b.now
byte_tested s at None b some past is =
    let ends = get_or_past s at 0 (ltb-false _ _ (sym past)) in
    sym (ne_eqb _ _ (λ e. absurd (omega arith)))
byte_tested s at (Some x) b some inside is = rw (byte_there s at x.now (ltb-true _ _ (sym inside)) is)
