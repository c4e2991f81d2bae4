-- Sound: what the reading accepts is a derivation with those rows, and where it stops a partial derivation has come, both within the
-- levels that were left. Assumes nothing, and asks nothing of the table.
use Prim.Native.Nat.{ℕ, zero, suc, ◌+◌}
use mathlib.Core.Path.{◌≡◌, subst}
use mathlib.Core.Bool.{true}
use mathlib.Core.List.{List, [], ◌∷◌}
use Rattle.lexer.specs.Tests.{among}
use Rattle.tree.specs.TreeTable.{Row}
use Rattle.grammar.specs.Grammars.{Symbol, token, derived, condition, Production, Names, View, met}
use Rattle.grammar.specs.Rows.{levels}
use Rattle.grammar.specs.Derivations.{Derives, end, taken, held, entered}
use Rattle.grammar.specs.Reaches.{Reaches, stops, takes, meets, enters, leaves}
use Rattle.grammar.specs.executable.Reading.{ok, selected, choice, joined, read_within}
use Rattle.grammar.proofs.Laws.Choices.{chosen}
use Rattle.grammar.proofs.Laws.Outcomes.{Ends, up_to, out, ends_ok, ends_each, ends_pick, ends_onward, ends_enter}

module _ (g : List Production) (v : View) where
  pub comes : (fuel : ℕ) (e : Names) (n : ℕ) (ss : List Symbol) (i : ℕ)
      → Ends (Derives g v e n ss i) (Reaches g v e n ss i) (Reaches g v e n ss i) Unit (read_within g v fuel e n ss i)
  unfolding read_within joined
  comes zero e n ss i = out tt
  comes (suc fuel) e n [] i = up_to end
  comes (suc fuel) e n (token cs ∷ ss) i =
      ends_pick (among cs (v.class e i)) (read_within g v fuel e n ss (suc i)) _ stops (λ (t : among cs (v.class e i) ≡ true).
      ends_each (comes fuel e n ss (suc i)) (λ (j : ℕ) (rows : List Row) (said : ℕ). taken t) (λ (p : ℕ). takes t) (λ (p : ℕ). takes t))
  comes (suc fuel) e n (condition b q ∷ ss) i =
      ends_pick (met v e i b q) (read_within g v fuel e n ss i) _ stops (λ (t : met v e i b q ≡ true).
      ends_each (comes fuel e n ss i) (λ (j : ℕ) (rows : List Row) (said : ℕ). held t) (λ (p : ℕ). meets t) (λ (p : ℕ). meets t))
  comes (suc fuel) e n (derived x ∷ ss) i =
      ends_enter (choice g v (v.inside x i e) x i) n i _ stops (λ p c l. stops) (λ (q : Production) (left : ℕ)
      (c : choice g v (v.inside x i e) x i ≡ selected q) (fits : n ≡ levels q.makes + left).
      let (has, of) = chosen g v (v.inside x i e) x i q c in
      ends_onward _ (ends_each (comes fuel (v.inside x i e) left q.right i) (λ (j : ℕ) (rows : List Row) (said : ℕ) d. d)
      (λ (p : ℕ). enters has of fits) (λ (p : ℕ). enters has of fits))
      (λ (j : ℕ) (inner : List Row) (said : ℕ) (d : Derives g v (v.inside x i e) left q.right i j inner said).
      ends_onward (joined q.makes i j inner said) (ends_each (comes fuel e n ss j) (λ (k : ℕ) (rows : List Row) (later : ℕ) r. r)
      (λ (p : ℕ). leaves has of fits d) (λ (p : ℕ). leaves has of fits d))
      (λ (k : ℕ) (rest : List Row) (later : ℕ) (r : Derives g v e n ss j k rest later). up_to (entered has of fits d r))))

  pub sound : (fuel : ℕ) (e : Names) (n : ℕ) (ss : List Symbol) (i j : ℕ) (rows : List Row) (said : ℕ)
      → read_within g v fuel e n ss i ≡ ok j rows said → Derives g v e n ss i j rows said
  sound fuel e n ss i j rows said r =
      ends_ok (subst (Ends (Derives g v e n ss i) (Reaches g v e n ss i) (Reaches g v e n ss i) Unit) r (comes fuel e n ss i))
