-- What holds of an outcome of a reading, step by step: of what is read, P; of the token where it is stuck, K, or too deep, D; where the
-- fuel is spent, S. Assumes nothing.
use Prim.Native.Nat.{ℕ, zero, suc, ◌+◌, ◌<◌}
use mathlib.Core.Path.{◌≡◌, refl}
use mathlib.Core.Bool.{Bool, true, false}
use mathlib.Core.List.{List}
use native.Mathlib.Omega.{arith}
use Rattle.lexer.specs.Tests.{pick}
use Rattle.tree.specs.TreeTable.{Row}
use Rattle.grammar.specs.Grammars.{Production}
use Rattle.grammar.specs.Rows.{levels}
use Rattle.grammar.specs.executable.Reading.{Outcome, ok, stuck, deep, spent, Choice, none, selected, onward, descend, enter}

pub data Ends (P : ℕ → List Row → ℕ → Type 0) (K D : ℕ → Type 0) (S : Type 0) : Outcome → Type 0 where
  up_to : {j said : ℕ} {rows : List Row} → P j rows said → Ends P K D S (ok j rows said)
  at_stuck : {i : ℕ} → K i → Ends P K D S (stuck i)
  at_deep : {i : ℕ} → D i → Ends P K D S (deep i)
  out : S → Ends P K D S spent

module _ {P : ℕ → List Row → ℕ → Type 0} {K D : ℕ → Type 0} {S : Type 0} where
  pub ends_ok : {j said : ℕ} {rows : List Row} → Ends P K D S (ok j rows said) → P j rows said
  ends_ok (up_to a) = a

  pub ends_stuck : {i : ℕ} → Ends P K D S (stuck i) → K i
  ends_stuck (at_stuck k) = k

  pub ends_deep : {i : ℕ} → Ends P K D S (deep i) → D i
  ends_deep (at_deep d) = d

  pub ends_spent : Ends P K D S spent → S
  ends_spent (out s) = s

  pub ends_each : {Q : ℕ → List Row → ℕ → Type 0} {L E : ℕ → Type 0} {o : Outcome} → Ends P K D S o
      → ((j : ℕ) (rows : List Row) (said : ℕ) → P j rows said → Q j rows said) → ((i : ℕ) → K i → L i) → ((i : ℕ) → D i → E i)
      → Ends Q L E S o
  ends_each (up_to {j = j} {said = said} {rows = rows} a) f s t = up_to (f j rows said a)
  ends_each (at_stuck {i = i} k) f s t = at_stuck (s i k)
  ends_each (at_deep {i = i} d) f s t = at_deep (t i d)
  ends_each (out u) f s t = out u

  pub ends_both : {Q : ℕ → List Row → ℕ → Type 0} {L E : ℕ → Type 0} {T : Type 0} {o : Outcome} → Ends P K D S o → Ends Q L E T o
      → Ends P K D T o
  ends_both (up_to a) r = up_to a
  ends_both (at_stuck k) r = at_stuck k
  ends_both (at_deep d) r = at_deep d
  ends_both (out s) (out t) = out t

  pub ends_pick : (t : Bool) (o : Outcome) (i : ℕ) → K i → (t ≡ true → Ends P K D S o) → Ends P K D S (pick t o (stuck i))
  ends_pick true o i k f = f refl
  ends_pick false o i k f = at_stuck k

  pub ends_onward : {Q : ℕ → List Row → ℕ → Type 0} {o : Outcome} (rest : ℕ → List Row → ℕ → Outcome) → Ends P K D S o
      → ((j : ℕ) (rows : List Row) (said : ℕ) → P j rows said → Ends Q K D S (rest j rows said)) → Ends Q K D S (onward o rest)
  unfolding onward
  ends_onward rest (up_to {j = j} {said = said} {rows = rows} a) f = f j rows said a
  ends_onward rest (at_stuck k) f = at_stuck k
  ends_onward rest (at_deep d) f = at_deep d
  ends_onward rest (out s) f = out s

  ends_descend : (l left i : ℕ) (below : ℕ → Outcome) → (left < l → D i) → ((n : ℕ) → left ≡ l + n → Ends P K D S (below n))
      → Ends P K D S (descend l left i below)
  unfolding descend
  ends_descend zero left i below d f = f left (omega arith)
  ends_descend (suc l) zero i below d f = at_deep (d (omega arith))
  ends_descend (suc l) (suc left) i below d f =
      ends_descend l left i below (λ (h : left < l). d (omega arith)) (λ (n : ℕ) (h : left ≡ l + n). f n (omega arith))

  pub ends_enter : (c : Choice) (left i : ℕ) (within : Production → ℕ → Outcome) → K i
      → ((p : Production) → c ≡ selected p → left < levels p.makes → D i)
      → ((p : Production) (below : ℕ) → c ≡ selected p → left ≡ levels p.makes + below → Ends P K D S (within p below))
      → Ends P K D S (enter c left i within)
  unfolding enter
  ends_enter none left i within k d f = at_stuck k
  ends_enter (selected p) left i within k d f =
      ends_descend (levels p.makes) left i (within p) (d p refl) (λ (below : ℕ). f p below refl)

-- of the tokens where it stops, nothing
abbrev pub Anywhere : ℕ → Type 0
Anywhere i = Unit
