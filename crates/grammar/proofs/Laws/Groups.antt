-- The alternative that is taken, computed from the productions of each nonterminal apart: the same number in fewer steps.
-- Assumes nothing.
use Prim.Native.Nat.{ℕ, zero, suc, ◌+◌, ◌<◌}
use mathlib.Core.Path.{◌≡◌, refl, ◌∙◌, ap}
use mathlib.Core.Bool.{Bool, true, false}
use mathlib.Core.List.{List, [], ◌∷◌}
use native.Mathlib.Nat.{add-zero, zero-add, add-suc, suc-add, le_of_suc-le-suc, not-suc-le-zero}
use lib.Dec.{eqb}
use lib.ListN.{length, get_or}
use Rattle.lexer.specs.Tests.{and, or, pick}
use Rattle.grammar.specs.Grammars.{Symbol, Production, Names, View}
use Rattle.grammar.specs.executable.First.{skips, starts, any_of, empty_within, first_within, empty, first, can_begin, can_skip}
use Rattle.grammar.specs.executable.Reading.{ready}
use Rattle.grammar.specs.internal.Alternatives.{shown, alternative_number, number_else, alternative}

-- the productions of x
unfoldable pub of_part : ℕ → List Production → List Production
of_part x [] = []
of_part x (p ∷ ps) =
    let rest = of_part x ps in
    let more = p ∷ rest in
    pick (eqb p.left x) more rest

-- .. are all that matter to a test of x ..
any_by : (x : ℕ) (test : List Symbol → Bool) (p : Production) (ps : List Production) (t : Bool) → eqb p.left x ≡ t
    → any_of x test ps ≡ any_of x test (of_part x ps)
    → or (and t (test p.right)) (any_of x test ps) ≡ any_of x test (pick t (p ∷ of_part x ps) (of_part x ps))
unfolding any_of and or
any_by x test p ps true s more = rw (s, more)
any_by x test p ps false s more = more

any_part : (x : ℕ) (test : List Symbol → Bool) (g : List Production) → any_of x test g ≡ any_of x test (of_part x g)
unfolding any_of of_part
any_part x test [] = refl
any_part x test (p ∷ ps) = any_by x test p ps (eqb p.left x) refl (any_part x test ps)

-- .. and to its number
module _ (v : View) (e : Names) (i x : ℕ) (test : Production → Bool) where
  number_by_lem : (k : ℕ) (p : Production) (ps : List Production) (t : Bool) → eqb p.left x ≡ t
      → alternative_number v e i x test k ps ≡ alternative_number v e i x test k (of_part x ps)
      → alternative_number v e i x test (suc k) ps ≡ alternative_number v e i x test (suc k) (of_part x ps)
      → pick t (pick (and (test p) (ready v e i p.right)) k (alternative_number v e i x test (suc k) ps)) (alternative_number v e i x test k ps)
      ≡ alternative_number v e i x test k (pick t (p ∷ of_part x ps) (of_part x ps))
  unfolding alternative_number
  number_by_lem k p ps true s rest later = rw (s, later)
  number_by_lem k p ps false s rest later = rest

  number_part : (k : ℕ) (g : List Production) → alternative_number v e i x test k g ≡ alternative_number v e i x test k (of_part x g)
  unfolding alternative_number of_part
  number_part k [] = refl
  number_part k (p ∷ ps) = number_by_lem k p ps (eqb p.left x) refl (number_part k ps) (number_part (suc k) ps)

-- functions with the same values
pub same_values : {A B : Type 0} (f h : A → B) → ((a : A) → f a ≡ h a) → f ≡ h
same_values f h p = λ i. λ a. p a i

-- the number among some productions, given what can begin with the token and what can derive none before it
abbrev number_by : ℕ → Bool → ℕ → (ℕ → Bool) → (ℕ → Bool) → List Production → ℕ
number_by c b x begins skipped ps =
    let other = alternative_number (shown c b) [] 0 x (λ (p : Production). skips c skipped p.right) 1 ps in
    number_else (alternative_number (shown c b) [] 0 x (λ (p : Production). starts c begins skipped p.right) 1 ps) other

number_same : (c : ℕ) (b : Bool) (x : ℕ) (begins skipped : ℕ → Bool) (g : List Production)
    → number_by c b x begins skipped g ≡ number_by c b x begins skipped (of_part x g)
number_same c b x begins skipped g =
    rw (
      number_part (shown c b) [] 0 x (λ (p : Production). skips c skipped p.right) 1 g,
      number_part (shown c b) [] 0 x (λ (p : Production). starts c begins skipped p.right) 1 g,
    )

-- as in First and Alternatives, given the productions of each nonterminal
module _ (groups : ℕ → List Production) where
  unfoldable pub empty_by : ℕ → ℕ → ℕ → Bool
  empty_by zero c x = false
  empty_by (suc d) c x = any_of x (skips c (empty_by d c)) (groups x)

  unfoldable pub first_by : ℕ → ℕ → ℕ → Bool
  first_by zero c x = false
  first_by (suc d) c x = any_of x (starts c (first_by d c) (empty_by d c)) (groups x)

  unfoldable pub alternative_by : ℕ → ℕ → Bool → ℕ → ℕ
  alternative_by d c b x = number_by c b x (first_by d c) (empty_by d c) (groups x)

  module _ (g : List Production) (grouped : (x : ℕ) → of_part x g ≡ groups x) where
    empty_same : (d c : ℕ) → empty_within g d c ≡ empty_by d c
    unfolding empty_within empty_by
    empty_same zero c = refl
    empty_same (suc d) c =
        same_values (empty_within g (suc d) c) (empty_by (suc d) c)
        (λ (x : ℕ). any_part x (skips c (empty_within g d c)) g ∙ rw (grouped x, empty_same d c))

    first_same : (d c : ℕ) → first_within g d c ≡ first_by d c
    unfolding first_within first_by
    first_same zero c = refl
    first_same (suc d) c =
        same_values (first_within g (suc d) c) (first_by (suc d) c)
        (λ (x : ℕ). any_part x (starts c (first_within g d c) (empty_within g d c)) g ∙ rw (grouped x, first_same d c, empty_same d c))

    pub alternative_same : (c : ℕ) (b : Bool) (x : ℕ) → alternative g c b x ≡ alternative_by (length g) c b x
    unfolding alternative alternative_by can_begin can_skip first empty
    alternative_same c b x =
        number_same c b x (first_within g (length g) c) (empty_within g (length g) c) g
        ∙ ap (number_by c b x (first_within g (length g) c) (empty_within g (length g) c)) (grouped x)
        ∙ ap (λ (begins : ℕ → Bool). number_by c b x begins (empty_within g (length g) c) (groups x)) (first_same (length g) c)
        ∙ ap (λ (skipped : ℕ → Bool). number_by c b x (first_by (length g) c) skipped (groups x)) (empty_same (length g) c)

-- the values of a function at n numbers, from i on
abbrev pub listed : (ℕ → List Production) → ℕ → ℕ → List (List Production)
listed f i zero = []
listed f i (suc n) = f i ∷ listed f (suc i) n

listed_from : (f : ℕ → List Production) (i n k : ℕ) → k < n → get_or (listed f i n) k [] ≡ f (i + k)
listed_from f i zero k h = absurd (not-suc-le-zero h)
listed_from f i (suc n) zero h = rw add-zero refl
listed_from f i (suc n) (suc k) h = rw (add-suc, ← suc-add) (listed_from f (suc i) n k (le_of_suc-le-suc h))

pub listed_at : (f : ℕ → List Production) (n k : ℕ) → k < n → get_or (listed f 0 n) k [] ≡ f k
listed_at f n k h = rw zero-add at (listed_from f 0 n k h)
