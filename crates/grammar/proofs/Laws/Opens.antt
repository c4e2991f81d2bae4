-- What a partial derivation has taken: symbols in progress just after the last token taken. Nothing that was decided at the token
-- where it stops is kept. Order 14 of document 02 is about these. Assumes nothing, and asks nothing of the table.
use Prim.Native.Nat.{ℕ, suc, ◌+◌}
use mathlib.Core.Path.{◌≡◌, refl, ◌∙◌, subst}
use mathlib.Core.Bool.{Bool, true}
use mathlib.Core.List.{List, ◌∷◌}
use mathlib.Core.Logic.{◌⊎◌, inl, inr}
use Rattle.lexer.specs.Tests.{among}
use Rattle.tree.specs.TreeTable.{Row}
use Rattle.grammar.specs.Grammars.{Condition, Symbol, token, derived, condition, Production, Names, View, met}
use Rattle.grammar.specs.Rows.{levels}
use Rattle.grammar.specs.Derivations.{Has, Derives, end, taken, held, entered}
use Rattle.grammar.specs.Reaches.{Reaches, stops, takes, meets, enters, leaves}

-- `Open g v e n ss i p`: the symbols ss, begun at token i, are in progress at p; token p - 1 was the last one taken
pub data Open (g : List Production) (v : View) : Names → ℕ → List Symbol → ℕ → ℕ → Type 0 where
  last : {e : Names} {n i : ℕ} {cs : List ℕ} {ss : List Symbol}
      → among cs (v.class e i) ≡ true → Open g v e n (token cs ∷ ss) i (suc i)
  more : {e : Names} {n i p : ℕ} {cs : List ℕ} {ss : List Symbol}
      → among cs (v.class e i) ≡ true → Open g v e n ss (suc i) p → Open g v e n (token cs ∷ ss) i p
  asked : {e : Names} {n i p : ℕ} {b : Bool} {q : Condition} {ss : List Symbol}
      → met v e i b q ≡ true → Open g v e n ss i p → Open g v e n (condition b q ∷ ss) i p
  into : {e : Names} {n below i p x : ℕ} {q : Production} {ss : List Symbol}
      → Has g q → q.left ≡ x → n ≡ levels q.makes + below
      → Open g v (v.inside x i e) below q.right i p → Open g v e n (derived x ∷ ss) i p
  over : {e : Names} {n below i j p x said : ℕ} {q : Production} {ss : List Symbol} {inner : List Row}
      → Has g q → q.left ≡ x → n ≡ levels q.makes + below → Derives g v (v.inside x i e) below q.right i j inner said
      → Open g v e n ss j p → Open g v e n (derived x ∷ ss) i p

-- where symbols begun at i stop: at once, or in progress
abbrev pub Stops : (g : List Production) → View → Names → ℕ → List Symbol → ℕ → ℕ → Type 0
Stops g v e n ss i p = (i ≡ p) ⊎ (Open g v e n ss i p)

module _ {g : List Production} {v : View} where
  taken_stop : {e : Names} {n i p : ℕ} {cs : List ℕ} {ss : List Symbol} → among cs (v.class e i) ≡ true
      → Stops g v e n ss (suc i) p → Stops g v e n (token cs ∷ ss) i p
  taken_stop {e = e} {n = n} {i = i} {cs = cs} {ss = ss} t (inl z) = inr (subst (Open g v e n (token cs ∷ ss) i) z (last t))
  taken_stop t (inr o) = inr (more t o)

  held_stop : {e : Names} {n i p : ℕ} {b : Bool} {q : Condition} {ss : List Symbol} → met v e i b q ≡ true
      → Stops g v e n ss i p → Stops g v e n (condition b q ∷ ss) i p
  held_stop t (inl z) = inl z
  held_stop t (inr o) = inr (asked t o)

  into_stop : {e : Names} {n below i p x : ℕ} {q : Production} {ss : List Symbol}
      → Has g q → q.left ≡ x → n ≡ levels q.makes + below
      → Stops g v (v.inside x i e) below q.right i p → Stops g v e n (derived x ∷ ss) i p
  into_stop has of fits (inl z) = inl z
  into_stop has of fits (inr o) = inr (into has of fits o)

  -- what comes after a part that was derived up to j, given where its right side stops
  after_part : {e : Names} {n below i j p x said : ℕ} {q : Production} {ss : List Symbol} {inner : List Row}
      → Has g q → q.left ≡ x → n ≡ levels q.makes + below
      → Derives g v (v.inside x i e) below q.right i j inner said → Stops g v (v.inside x i e) below q.right i j
      → Stops g v e n ss j p → Stops g v e n (derived x ∷ ss) i p
  after_part has of fits d right (inr o) = inr (over has of fits d o)
  after_part has of fits d (inl s) (inl z) = inl (s ∙ z)
  after_part {e = e} {n = n} {i = i} {x = x} {ss = ss} has of fits d (inr o) (inl z) =
      inr (subst (Open g v e n (derived x ∷ ss) i) z (into has of fits o))

  derives_stop : {e : Names} {n i j said : ℕ} {ss : List Symbol} {rows : List Row} → Derives g v e n ss i j rows said → Stops g v e n ss i j
  derives_stop end = inl refl
  derives_stop (taken t d) = taken_stop t (derives_stop d)
  derives_stop (held t d) = held_stop t (derives_stop d)
  derives_stop (entered has of fits inner rest) = after_part has of fits inner (derives_stop inner) (derives_stop rest)

  -- A partial derivation stops at once, or its symbols are in progress; ..
  pub reaches_stop : {e : Names} {n i p : ℕ} {ss : List Symbol} → Reaches g v e n ss i p → Stops g v e n ss i p
  reaches_stop stops = inl refl
  reaches_stop (takes t r) = taken_stop t (reaches_stop r)
  reaches_stop (meets t r) = held_stop t (reaches_stop r)
  reaches_stop (enters has of fits r) = into_stop has of fits (reaches_stop r)
  reaches_stop (leaves has of fits d r) = after_part has of fits d (derives_stop d) (reaches_stop r)

  -- .. and symbols in progress are a partial derivation.
  pub open_reaches : {e : Names} {n i p : ℕ} {ss : List Symbol} → Open g v e n ss i p → Reaches g v e n ss i p
  open_reaches (last t) = takes t stops
  open_reaches (more t o) = takes t (open_reaches o)
  open_reaches (asked t o) = meets t (open_reaches o)
  open_reaches (into has of fits o) = enters has of fits (open_reaches o)
  open_reaches (over has of fits d o) = leaves has of fits d (open_reaches o)
