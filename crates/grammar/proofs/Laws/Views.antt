-- What the grammar asks of the tokens of a source: their classes are below the number of classes, and 0 past the last token and
-- only there. Assumes nothing.
use Prim.Native.Nat.{ℕ, zero, suc, ◌<◌, ◌≤◌}
use mathlib.Core.Path.{◌≡◌, refl}
use mathlib.Core.Bool.{Bool, true, false}
use mathlib.Core.List.{List, [], ◌∷◌}
use native.Mathlib.Omega.{arith}
use lib.Dec.{eqb}
use lib.ListN.{length, get_or}
use Rattle.lexer.specs.Tests.{and, pick}
use Rattle.lexer.specs.internal.Kinds.{ident, first_kind, last_kind}
use Rattle.lexer.specs.Editions.{Edition}
use Rattle.lexer.specs.Tokens.{Token}
use Rattle.lexer.specs.Items.{Item, item_of, items}
use Rattle.lexer.proofs.Laws.Places.{Placed, placed_none, placed_more}
use Rattle.typenames.specs.TypeNames.{is_named}
use Rattle.grammar.specs.Grammars.{Names}
use Rattle.grammar.specs.Classes.{type_name}
use Rattle.grammar.specs.Languages.{Language, no_item, class_of, view}
use Rattle.grammar.proofs.Laws.Readings.{Counted}

-- the number of classes
abbrev pub classes : ℕ
classes = 44

-- tokens whose kinds are kinds
pub data Kinds : List Item → Type 0 where
  kinds_none : Kinds []
  kinds_more : {t : Item} {ts : List Item} → first_kind ≤ t.kind → t.kind ≤ last_kind → Kinds ts → Kinds (t ∷ ts)

pub items-length : (source : List ℕ) (ts : List Token) → length (items source ts) ≡ length ts
unfolding items
items-length source [] = refl
items-length source (t ∷ ts) = rw (items-length source ts)

-- the tokens of a source are such
pub items_kinds : {e : Edition} {s : List ℕ} {lo : ℕ} {ts : List Token} → Placed e s lo ts → Kinds (items s ts)
unfolding items item_of
items_kinds (placed_none w) = kinds_none
items_kinds (placed_more l x f r) = kinds_more f.low f.high (items_kinds r)

module _ (e : Names) where
  class_some : (t : Item) → first_kind ≤ t.kind → class_of e t ≡ 0 → ⊥
  unfolding class_of
  class_some t low = cases (and (eqb t.kind ident) (is_named e t.text))
    where
      cases : (b : Bool) → pick b type_name t.kind ≡ 0 → ⊥
      cases true h = omega arith
      cases false h = omega arith

  class_less : (t : Item) → t.kind ≤ last_kind → class_of e t < classes
  unfolding class_of
  class_less t high = cases (and (eqb t.kind ident) (is_named e t.text))
    where
      cases : (b : Bool) → pick b type_name t.kind < classes
      cases true = omega arith
      cases false = omega arith

  no_class : class_of e no_item ≡ 0
  unfolding class_of and
  no_class = refl

  pub class_below : {ts : List Item} → Kinds ts → (i : ℕ) → class_of e (get_or ts i no_item) < classes
  class_below kinds_none i = rw no_class (omega arith)
  class_below (kinds_more {t = t} low high k) zero = class_less t high
  class_below (kinds_more low high k) (suc i) = class_below k i

  class_past : (ts : List Item) (i : ℕ) → length ts ≤ i → class_of e (get_or ts i no_item) ≡ 0
  class_past [] i h = no_class
  class_past (t ∷ ts) zero h = absurd (omega arith)
  class_past (t ∷ ts) (suc i) h = class_past ts i (omega arith)

  class_inside : {ts : List Item} → Kinds ts → (i : ℕ) → i < length ts → class_of e (get_or ts i no_item) ≡ 0 → ⊥
  class_inside kinds_none i h = absurd (omega arith)
  class_inside (kinds_more {t = t} low high k) zero h = class_some t low
  class_inside (kinds_more low high k) (suc i) h = class_inside k i (omega arith)

pub view_counted : (l : Language) (ts : List Item) → Kinds ts → Counted (view l ts) (length ts)
unfolding view
view_counted l ts k = record {
  past = λ (e : Names) (i : ℕ). class_past e ts i;
  inside = λ (e : Names) (i : ℕ). class_inside e k i;
}
