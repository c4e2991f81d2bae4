-- More fuel never changes an outcome but one whose fuel is spent, and more levels never change one but a too deep one.
-- Assumes nothing, and asks nothing of the table.
use Prim.Native.Nat.{ℕ, zero, suc, ◌-◌, ◌≤◌}
use mathlib.Core.Path.{◌≡◌, refl}
use mathlib.Core.Bool.{Bool, true, false}
use mathlib.Core.List.{List, [], ◌∷◌}
use native.Mathlib.Omega.{arith}
use Rattle.lexer.specs.Tests.{pick, among}
use Rattle.tree.specs.TreeTable.{Row}
use Rattle.grammar.specs.Grammars.{Symbol, token, derived, condition, Production, Names, View, met}
use Rattle.grammar.specs.Rows.{levels}
use Rattle.grammar.specs.Derivations.{Derives, end, taken, held, entered}
use Rattle.grammar.specs.executable.Reading.{Outcome, ok, stuck, deep, spent, Choice, none, selected, choice, onward, descend, enter}
use Rattle.grammar.specs.executable.Reading.{joined, read_within}

pub data Way : Type 0 where
  by_fuel : Way
  by_levels : Way

-- what an outcome may become with more fuel, or with more levels
pub data Grows : Way → Outcome → Outcome → Type 0 where
  same : {w : Way} {o : Outcome} → Grows w o o
  from_spent : {o : Outcome} → Grows by_fuel spent o
  from_deep : {i : ℕ} {o : Outcome} → Grows by_levels (deep i) o

pub grows_ok : {w : Way} {j said : ℕ} {rows : List Row} {p : Outcome} → Grows w (ok j rows said) p → p ≡ ok j rows said
grows_ok same = refl

pub grows_stuck : {w : Way} {i : ℕ} {p : Outcome} → Grows w (stuck i) p → p ≡ stuck i
grows_stuck same = refl

pub grows_unspent : {o p : Outcome} → Grows by_fuel o p → (o ≡ spent → ⊥) → p ≡ o
grows_unspent same n = refl
grows_unspent from_spent n = absurd (n refl)

pub grows_onward : {w : Way} {o p : Outcome} (rest more : ℕ → List Row → ℕ → Outcome) → Grows w o p
    → ((j : ℕ) (rows : List Row) (said : ℕ) → Grows w (rest j rows said) (more j rows said)) → Grows w (onward o rest) (onward p more)
unfolding onward
grows_onward rest more (same {o = ok j rows said}) f = f j rows said
grows_onward rest more (same {o = stuck i}) f = same
grows_onward rest more (same {o = deep i}) f = same
grows_onward rest more (same {o = spent}) f = same
grows_onward rest more from_spent f = from_spent
grows_onward rest more from_deep f = from_deep

pub grows_pick : {w : Way} (t : Bool) (o p : Outcome) (i : ℕ) → Grows w o p → Grows w (pick t o (stuck i)) (pick t p (stuck i))
grows_pick true o p i f = f
grows_pick false o p i f = same

-- the same levels
pub grows_descend : {w : Way} (l left i : ℕ) (below more : ℕ → Outcome) → ((n : ℕ) → Grows w (below n) (more n))
    → Grows w (descend l left i below) (descend l left i more)
unfolding descend
grows_descend zero left i below more f = f left
grows_descend (suc l) zero i below more f = same
grows_descend (suc l) (suc left) i below more f = grows_descend l left i below more f

-- more levels
grows_deeper : (l left room i : ℕ) (below more : ℕ → Outcome) → left ≤ room → ((n m : ℕ) → n ≤ m → Grows by_levels (below n) (more m))
    → Grows by_levels (descend l left i below) (descend l room i more)
unfolding descend
grows_deeper zero left room i below more h f = f left room h
grows_deeper (suc l) zero room i below more h f = from_deep
grows_deeper (suc l) (suc left) zero i below more h f = absurd (omega arith)
grows_deeper (suc l) (suc left) (suc room) i below more h f = grows_deeper l left room i below more (omega arith) f

pub grows_enter : {w : Way} (c : Choice) (left room i : ℕ) (within more : Production → ℕ → Outcome)
    → ((p : Production) → Grows w (descend (levels p.makes) left i (within p)) (descend (levels p.makes) room i (more p)))
    → Grows w (enter c left i within) (enter c room i more)
unfolding enter
grows_enter none left room i within more f = same
grows_enter (selected p) left room i within more f = f p

module _ (g : List Production) (v : View) where
  -- the reading of a nonterminal and of what comes after it, given how both grow
  grows_part : {w : Way} (x i n m left room : ℕ) (e : Names) (ss : List Symbol) (p : Production) (fuel more : ℕ)
      → Grows w (read_within g v fuel (v.inside x i e) left p.right i) (read_within g v more (v.inside x i e) room p.right i)
      → ((j : ℕ) → Grows w (read_within g v fuel e n ss j) (read_within g v more e m ss j))
      → Grows w
      (onward (read_within g v fuel (v.inside x i e) left p.right i) (λ (j : ℕ) (inner : List Row) (said : ℕ).
      onward (read_within g v fuel e n ss j) (joined p.makes i j inner said)))
      (onward (read_within g v more (v.inside x i e) room p.right i) (λ (j : ℕ) (inner : List Row) (said : ℕ).
      onward (read_within g v more e m ss j) (joined p.makes i j inner said)))
  grows_part x i n m left room e ss p fuel more inner rest =
      grows_onward _ _ inner (λ (j : ℕ) (rows : List Row) (said : ℕ).
      grows_onward _ _ (rest j) (λ (k : ℕ) (others : List Row) (later : ℕ). same))

  pub more_fuel : (fuel more : ℕ) → fuel ≤ more → (e : Names) (n : ℕ) (ss : List Symbol) (i : ℕ)
      → Grows by_fuel (read_within g v fuel e n ss i) (read_within g v more e n ss i)
  unfolding read_within
  more_fuel zero more h e n ss i = from_spent
  more_fuel (suc fuel) zero h e n ss i = absurd (omega arith)
  more_fuel (suc fuel) (suc more) h e n [] i = same
  more_fuel (suc fuel) (suc more) h e n (token cs ∷ ss) i =
      grows_pick (among cs (v.class e i)) _ _ i (more_fuel fuel more (omega arith) e n ss (suc i))
  more_fuel (suc fuel) (suc more) h e n (condition b q ∷ ss) i =
      grows_pick (met v e i b q) _ _ i (more_fuel fuel more (omega arith) e n ss i)
  more_fuel (suc fuel) (suc more) h e n (derived x ∷ ss) i =
      grows_enter (choice g v (v.inside x i e) x i) n n i _ _ (λ (p : Production).
      grows_descend (levels p.makes) n i _ _ (λ (left : ℕ).
      grows_part x i n n left left e ss p fuel more
      (more_fuel fuel more (omega arith) (v.inside x i e) left p.right i)
      (λ (j : ℕ). more_fuel fuel more (omega arith) e n ss j)))

  pub more-levels : (fuel n m : ℕ) → n ≤ m → (e : Names) (ss : List Symbol) (i : ℕ)
      → Grows by_levels (read_within g v fuel e n ss i) (read_within g v fuel e m ss i)
  unfolding read_within
  more-levels zero n m h e ss i = same
  more-levels (suc fuel) n m h e [] i = same
  more-levels (suc fuel) n m h e (token cs ∷ ss) i =
      grows_pick (among cs (v.class e i)) _ _ i (more-levels fuel n m h e ss (suc i))
  more-levels (suc fuel) n m h e (condition b q ∷ ss) i =
      grows_pick (met v e i b q) _ _ i (more-levels fuel n m h e ss i)
  more-levels (suc fuel) n m h e (derived x ∷ ss) i =
      grows_enter (choice g v (v.inside x i e) x i) n m i _ _ (λ (p : Production).
      grows_deeper (levels p.makes) n m i _ _ h (λ (left room : ℕ) (k : left ≤ room).
      grows_part x i n m left room e ss p fuel fuel
      (more-levels fuel left room k (v.inside x i e) p.right i)
      (λ (j : ℕ). more-levels fuel n m h e ss j)))

  -- a derivation within some levels is one within more
  pub derives_wider : {e : Names} {n i j said : ℕ} {ss : List Symbol} {rows : List Row} (m : ℕ) → n ≤ m
      → Derives g v e n ss i j rows said → Derives g v e m ss i j rows said
  derives_wider m h end = end
  derives_wider m h (taken t d) = taken t (derives_wider m h d)
  derives_wider m h (held t d) = held t (derives_wider m h d)
  derives_wider m h (entered {n = n} {below = left} {p = p} has of fits inner rest) =
      let room = m - levels p.makes in
      entered {n = m} {below = room} has of (omega arith) (derives_wider room (omega arith) inner) (derives_wider m h rest)
