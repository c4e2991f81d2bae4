-- Every derivation takes each of its tokens once and in order. Assumes nothing.
use Prim.Native.Nat.{ℕ, zero, suc, ◌+◌, ◌-◌, ◌≤◌}
use mathlib.Core.Path.{◌≡◌, ◌∙◌, ap}
use mathlib.Core.List.{List, [], ◌∷◌, ◌++◌}
use native.Mathlib.Nat.{sub_self, sub-zero}
use native.Mathlib.Omega.{arith}
use Rattle.tree.specs.TreeTable.{Row}
use Rattle.grammar.specs.Grammars.{Names, Production, Symbol, View}
use Rattle.grammar.specs.Derivations.{Derives, end, taken, held, entered, Derivation, derivation}

-- so many numbers from i on
unfoldable pub from : ℕ → ℕ → List ℕ
from i zero = []
from i (suc n) = i ∷ from (suc i) n

-- one number and those after it
from_next : (i j : ℕ) → suc i ≤ j → i ∷ from (suc i) (j - suc i) ≡ from i (j - i)
unfolding from
from_next i j h = let e : j - i ≡ suc (j - suc i) = omega arith in rw e

-- n numbers and those after them
from_append : (n i j k : ℕ) → j ≡ i + n → j ≤ k → from i n ++ from j (k - j) ≡ from i (k - i)
unfolding from
from_append zero i j k e h = let same : j ≡ i = omega arith in rw same
from_append (suc n) i j k e h =
    ap (λ (ns : List ℕ). i ∷ ns) (from_append n (suc i) j k (omega arith) h) ∙ from_next i k (omega arith)

module _ {g : List Production} {v : View} where
  -- the tokens that a derivation takes, in order
  unfoldable pub tokens_taken : {e : Names} {n i j said : ℕ} {ss : List Symbol} {rows : List Row}
      → Derives g v e n ss i j rows said → List ℕ
  tokens_taken end = []
  tokens_taken (taken {i = i} h rest) = i ∷ tokens_taken rest
  tokens_taken (held h rest) = tokens_taken rest
  tokens_taken (entered has left fits inner rest) = tokens_taken inner ++ tokens_taken rest

  -- a derivation never goes back
  pub derives_forward : {e : Names} {n i j said : ℕ} {ss : List Symbol} {rows : List Row}
      → Derives g v e n ss i j rows said → i ≤ j
  derives_forward end = omega arith
  derives_forward (taken h rest) = let after = derives_forward rest in omega arith
  derives_forward (held h rest) = derives_forward rest
  derives_forward (entered has left fits inner rest) =
      let within = derives_forward inner in
      let after = derives_forward rest in
      omega arith

  -- the tokens from i up to but not with j
  pub takes_each : {e : Names} {n i j said : ℕ} {ss : List Symbol} {rows : List Row}
      → (d : Derives g v e n ss i j rows said) → tokens_taken d ≡ from i (j - i)
  unfolding tokens_taken from
  takes_each (end {i = i}) = rw (sub_self i)
  takes_each (taken {i = i} {j = j} h rest) =
      ap (λ (ns : List ℕ). i ∷ ns) (takes_each rest) ∙ from_next i j (derives_forward rest)
  takes_each (held h rest) = takes_each rest
  takes_each (entered {i = i} {j = j} {k = k} has left fits inner rest) =
      let within = derives_forward inner in
      ap (λ (ns : List ℕ). ns ++ tokens_taken rest) (takes_each inner)
      ∙ ap (λ (ns : List ℕ). from i (j - i) ++ ns) (takes_each rest)
      ∙ from_append (j - i) i j k (omega arith) (derives_forward rest)

  -- so of a whole list all tokens
  pub takes_all : {e : Names} {n count said : ℕ} {ss : List Symbol} {rows : List Row}
      → (d : Derives g v e n ss 0 count rows said) → tokens_taken d ≡ from 0 count
  takes_all d = rw sub-zero at (takes_each d)

  -- the tokens that a derivation of a token list takes, and that these are all of them, each once and in order
  unfoldable pub all_taken : {e : Names} {n x count : ℕ} {rows : List Row} → Derivation g v count e n x rows → List ℕ
  unfolding tokens_taken
  all_taken (derivation d) = tokens_taken d

  pub takes_once : {e : Names} {n x count : ℕ} {rows : List Row} → (d : Derivation g v count e n x rows) → all_taken d ≡ from 0 count
  unfolding all_taken
  takes_once (derivation d) = takes_all d
