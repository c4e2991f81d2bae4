-- What the laws of marks ask of an edition, and that every edition which the code names meets it. Assumes nothing.
use Prim.Native.Char.{code}
use Prim.Native.Nat.{ℕ, suc}
use mathlib.Core.Path.{◌≡◌, refl}
use mathlib.Core.Bool.{Bool, true, false}
use mathlib.Core.List.{List, [], ◌∷◌}
use native.Mathlib.Omega.{arith}
use Rattle.lexer.specs.Tests.{and, pick}
use Rattle.lexer.specs.Spellings.{same, kind_of, longest, spelled_marks}
use Rattle.lexer.specs.Editions.{Edition, edition11, edition17}
use Rattle.lexer.specs.internal.Editions.{edition_of}
use Rattle.lexer.specs.declared.Edition.{Edition as NamedEdition}
use Rattle.lexer.specs.declared.Edition.TheVariants.{V11, V17}
use Rattle.lexer.proofs.Laws.Sizes.{spelled}

-- the kind of some bytes among the marks of 1.7
abbrev pub kind17 : List ℕ → ℕ
kind17 = kind_of edition17.marks

-- an edition whose marks are those of 1.7, but that some of two bytes may be missing
pub record FitEdition (e : Edition) : Type 0 where
  pub spells : spelled e.marks ≡ true
  pub longest_three : longest e.marks ≡ 3
  pub one : (a : ℕ) → kind_of e.marks (a ∷ []) ≡ kind17 (a ∷ [])
  pub two : (a b : ℕ) → kind17 (a ∷ b ∷ []) ≡ 0 → kind_of e.marks (a ∷ b ∷ []) ≡ 0
  pub three : (a b c : ℕ) → kind_of e.marks (a ∷ b ∷ c ∷ []) ≡ kind17 (a ∷ b ∷ c ∷ [])

pub fits17 : FitEdition edition17
unfolding and spelled_marks longest
fits17 = record { spells = refl; longest_three = refl; one = λ a. refl; two = λ a b h. h; three = λ a b c. refl }

-- a kind that a test picks is 0 only where the test fails and the other kind is 0
not_picked : (t : Bool) (k n : ℕ) → pick t (suc k) n ≡ 0 → (t ≡ false) × (n ≡ 0)
not_picked true k n h = absurd (omega arith)
not_picked false k n h = (refl, h)

-- two bytes that are none of the marks of 1.7 are none where `<<` and `>>` are left out
two11 : (e n l g left right q : Bool)
    → pick {A = ℕ} e 35 (pick n 36 (pick l 37 (pick g 38 (pick left 39 (pick right 40 (pick q 41 0)))))) ≡ 0
    → pick {A = ℕ} e 35 (pick n 36 (pick l 37 (pick g 38 (pick q 41 0)))) ≡ 0
two11 e n l g left right q h =
    let not_equal = not_picked e 34 _ h in
    let not-unequal = not_picked n 35 _ not_equal.1 in
    let not-less = not_picked l 36 _ not-unequal.1 in
    let not-greater = not_picked g 37 _ not-less.1 in
    let not_left = not_picked left 38 _ not-greater.1 in
    let not_right = not_picked right 39 _ not_left.1 in
    rw (not_equal.0, not-unequal.0, not-less.0, not-greater.0, not_right.1)

pub fits11 : FitEdition edition11
unfolding and same kind_of spelled_marks longest
fits11 = record {
  spells = refl;
  longest_three = refl;
  one = λ a. refl;
  two =
      λ a b.
      let are : ℕ → ℕ → Bool = λ c d. same (c ∷ d ∷ []) (a ∷ b ∷ []) in
      two11
      (are (code "=") (code "="))
      (are (code "!") (code "="))
      (are (code "<") (code "="))
      (are (code ">") (code "="))
      (are (code "<") (code "<"))
      (are (code ">") (code ">"))
      (are (code "?") (code "?"));
  three = λ a b c. refl;
}

pub fits : (edition : NamedEdition) → FitEdition (edition_of edition)
fits V11 = fits11
fits V17 = fits17

-- the marks of 1.7 are spelled
pub spelled17 : spelled edition17.marks ≡ true
spelled17 = fits17.spells
