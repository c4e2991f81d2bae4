-- The names that a token table declares, from a row and a depth on: what three tokens add, and where the next name stands. Assumes
-- nothing.
use Prim.Native.Nat.{ℕ, zero, suc, ◌+◌, ◌-◌, ◌<◌, ◌≤◌}
use mathlib.Core.Path.{◌≡◌, refl, sym, ◌∙◌, ap}
use mathlib.Core.Bool.{Bool, true, false}
use mathlib.Core.List.{List, [], ◌∷◌}
use native.Mathlib.Omega.{arith}
use native.Mathlib.Numerals.{add-one}
use native.Mathlib.Nat.{add_assoc}
use lib.Dec.{eqb, eqb-suc-zero}
use borrow.Author.Tests.{eqb-true, eq-eqb, ne_eqb, lt-ltb, le-ltb}
use lib.ListN.{length, drop, length-drop}
use lib.Seq.{drop-cons}
use Rattle.lexer.specs.Tests.{and, or, pick, among}
use Rattle.lexer.specs.internal.Kinds.{ident, colon, bar, left_brace, right_brace, left_bracket}
use Rattle.lexer.specs.Tokens.{Token}
use Rattle.lexer.specs.Table.{token_room}
use Rattle.lexer.specs.internal.TokenRows.{rows_of, no_token, row_at, kind_at, item_at}
use Rattle.lexer.specs.Items.{Item, item_of, items}
use Rattle.lexer.proofs.Laws.Tests.{or-false, eqb_turn}
use Rattle.lexer.proofs.Laws.Rows.{rows_of-length}
use Rattle.typenames.specs.TypeNames.{enum_name, struct_name, deeper, names_at, declared, opening17}
use Rattle.typenames.specs.internal.Declarations.{offset_after, name_offset, items_from, declared_from, names_at_row, NextName}

-- the kinds that can follow a struct's name
pub opens_brace : (k : ℕ) → k ≡ left_brace → among opening17 k ≡ true
unfolding among or
opens_brace k h = rw (eq-eqb left_brace k (sym h))

pub opens_other : (k : ℕ) → (k ≡ left_brace → ⊥) → among opening17 k ≡ eqb k left_bracket
unfolding among or
opens_other k h =
    rw (ne_eqb left_brace k (λ (e : left_brace ≡ k). h (sym e))) (or-false (eqb left_bracket k) ∙ eqb_turn left_bracket k)

-- fewer than three tokens declare nothing
items-length : (source : List ℕ) (ts : List Token) → length (items source ts) ≡ length ts
unfolding items
items-length source [] = refl
items-length source (t ∷ ts) = ap suc (items-length source ts)

few_declare : (opening : List ℕ) (depth : ℕ) (ts : List Item) → length ts < 3 → declared opening depth ts ≡ []
unfolding declared
few_declare opening depth [] h = refl
few_declare opening depth (a ∷ []) h = refl
few_declare opening depth (a ∷ b ∷ []) h = refl
few_declare opening depth (a ∷ b ∷ c ∷ ts) h = absurd (omega (arith, h))

-- a token goes one brace deeper at most
pub deeper_le : (depth kind : ℕ) → deeper depth kind ≤ suc depth
unfolding deeper
deeper_le depth kind = cases (eqb kind left_brace) (eqb kind right_brace)
  where
    cases : (t u : Bool) → pick t (suc depth) (pick u (depth - 1) depth) ≤ suc depth
    cases true u = omega arith
    cases false true = omega arith
    cases false false = omega arith

-- what is declared from three tokens on, by how far after the first the name stands that they declare
module _ (opening : List ℕ) (a b c : Item) (ts : List Item) where
  by_offset : ℕ → ℕ → List (List ℕ)
  by_offset depth zero = declared opening (deeper depth a.kind) (b ∷ c ∷ ts)
  by_offset depth (suc zero) = b.text ∷ declared opening zero (b ∷ c ∷ ts)
  by_offset depth (suc (suc n)) = c.text ∷ declared opening zero (c ∷ ts)

  -- a `|` begins no declaration
  bar_passed : (us : List Item) → b.kind ≡ bar → declared opening zero (b ∷ c ∷ us) ≡ declared opening zero (c ∷ us)
  unfolding declared names_at struct_name enum_name deeper and
  bar_passed [] e = refl
  bar_passed (u ∷ us) e = rw e

  not_bar : (k : ℕ) → k ≡ ident → eqb k bar ≡ false
  not_bar k e = rw e

  offset_colon : (t u v x : Bool) → a.kind ≡ colon → eqb b.kind ident ≡ t → among opening c.kind ≡ u → eqb b.kind bar ≡ v
      → eqb c.kind ident ≡ x → declared opening zero (a ∷ b ∷ c ∷ ts) ≡ by_offset zero (offset_after opening b.kind c.kind)
  unfolding by_offset offset_after declared names_at struct_name enum_name deeper and
  offset_colon true true v x ea et eu ev ex = rw (ea, et, eu, not_bar b.kind (eqb-true b.kind ident et))
  offset_colon true false v x ea et eu ev ex = rw (ea, et, eu, not_bar b.kind (eqb-true b.kind ident et))
  offset_colon false u true true ea et eu ev ex =
      let eb = eqb-true b.kind bar ev in rw (ea, et, ev, ex) (ap (λ (rest : List (List ℕ)). c.text ∷ rest) (bar_passed ts eb))
  offset_colon false u true false ea et eu ev ex = rw (ea, et, ev, ex)
  offset_colon false u false x ea et eu ev ex = rw (ea, et, ev)

  offset_by : (depth : ℕ) (t : Bool) → eqb a.kind colon ≡ t
      → declared opening depth (a ∷ b ∷ c ∷ ts) ≡ by_offset depth (name_offset opening depth a.kind b.kind c.kind)
  unfolding by_offset name_offset declared names_at struct_name enum_name and
  offset_by zero false e = rw e
  offset_by (suc depth) false e = rw e
  offset_by zero true e = offset_colon _ _ _ _ (eqb-true a.kind colon e) refl refl refl refl ∙ rw e
  offset_by (suc depth) true e = rw (e, eqb-suc-zero depth)

  declared_offset : (depth : ℕ)
      → declared opening depth (a ∷ b ∷ c ∷ ts) ≡ by_offset depth (name_offset opening depth a.kind b.kind c.kind)
  declared_offset depth = offset_by depth (eqb a.kind colon) refl

-- only a `:` declares a name
pub offset_other : (opening : List ℕ) (depth a b c : ℕ) → (a ≡ colon → ⊥) → name_offset opening depth a b c ≡ 0
unfolding name_offset and
offset_other opening depth a b c other = rw (ne_eqb a colon other)

-- the name stands in one of the three tokens
after_le : (opening : List ℕ) (b c : ℕ) → offset_after opening b c ≤ 2
unfolding offset_after
after_le opening b c = cases (eqb b ident) (among opening c) (and (eqb b bar) (eqb c ident))
  where
    cases : (t u v : Bool) → pick t (pick u 1 0) (pick v 2 0) ≤ 2
    cases true true v = omega arith
    cases true false v = omega arith
    cases false u true = omega arith
    cases false u false = omega arith

pub offset_le : (opening : List ℕ) (depth a b c : ℕ) → name_offset opening depth a b c ≤ 2
unfolding name_offset
offset_le opening depth a b c = cases (and (eqb a colon) (eqb depth 0)) (after_le opening b c)
  where
    cases : (t : Bool) → offset_after opening b c ≤ 2 → pick t (offset_after opening b c) 0 ≤ 2
    cases true le = le
    cases false le = omega arith

-- the tokens of a table from a row on, and those from one or two rows later
module _ (source table : List ℕ) where
  items_front : (row : ℕ) → row < token_room table → items_from source table row ≡ item_at source table row ∷ items_from source table (row + 1)
  unfolding items row_at
  items_front row h =
      let l = rows_of-length table in
      let below : row < length (rows_of table) = omega arith in
      rw (add-one, drop-cons (rows_of table) row no_token below)

  items_left : (row : ℕ) → length (items_from source table row) ≡ token_room table - row
  items_left row =
      let l = rows_of-length table in
      let i = items-length source (drop row (rows_of table)) in
      let d = length-drop row (rows_of table) in
      omega arith

  module _ (row : ℕ) (h : row + 2 < token_room table) where
    third_on : items_from source table (row + 2) ≡ item_at source table (row + 2) ∷ items_from source table (row + 3)
    third_on = rw (items_front (row + 2) h, add_assoc row 2 1)

    second_on : items_from source table (row + 1)
        ≡ item_at source table (row + 1) ∷ item_at source table (row + 2) ∷ items_from source table (row + 3)
    second_on =
        let below : row + 1 < token_room table = omega arith in
        rw (items_front (row + 1) below, add_assoc row 1 1, third_on)

    first_on : items_from source table row
        ≡ item_at source table row ∷ item_at source table (row + 1) ∷ item_at source table (row + 2) ∷ items_from source table (row + 3)
    first_on =
        let below : row < token_room table = omega arith in
        rw (items_front row below, second_on)

-- how far after a row the name stands that the three tokens there declare
abbrev pub offset_at : List ℕ → List ℕ → ℕ → ℕ → ℕ
offset_at opening table row depth = name_offset opening depth (kind_at table row) (kind_at table (row + 1)) (kind_at table (row + 2))

-- what a table declares from a row on, by the three tokens there
module _ (opening source table : List ℕ) (row depth : ℕ) where
  from_few : token_room table ≤ row + 2 → declared_from opening source table row depth ≡ []
  unfolding declared_from
  from_few h = few_declare opening depth (items_from source table row) (let l = items_left source table row in omega arith)

  module _ (h : row + 2 < token_room table) where
    from_offset : declared_from opening source table row depth
        ≡ by_offset opening (item_at source table row) (item_at source table (row + 1)) (item_at source table (row + 2))
        (items_from source table (row + 3)) depth (offset_at opening table row depth)
    unfolding declared_from item_of
    from_offset = rw (first_on source table row h) (declared_offset opening _ _ _ _ depth)

    from_on : offset_at opening table row depth ≡ 0
        → declared_from opening source table row depth ≡ declared_from opening source table (row + 1) (deeper depth (kind_at table row))
    unfolding declared_from by_offset item_of
    from_on e = from_offset ∙ rw (e, second_on source table row h)

    found_by : (n : ℕ) → offset_at opening table row depth ≡ n → 0 < n → n ≤ 2
        → declared_from opening source table row depth
        ≡ (item_at source table (row + n)).text ∷ declared_from opening source table (row + n) zero
    unfolding declared_from by_offset
    found_by zero e some le = absurd (omega arith)
    found_by (suc zero) e some le = from_offset ∙ rw (e, second_on source table row h)
    found_by (suc (suc zero)) e some le = from_offset ∙ rw (e, third_on source table row h)
    found_by (suc (suc (suc n))) e some le = absurd (omega arith)

    from_found : 0 < offset_at opening table row depth → declared_from opening source table row depth
        ≡ (item_at source table (row + offset_at opening table row depth)).text
        ∷ declared_from opening source table (row + offset_at opening table row depth) zero
    from_found some = found_by (offset_at opening table row depth) refl some (offset_le opening depth _ _ _)

-- the name in a row and those after it
module _ (opening source table : List ℕ) (row : ℕ) where
  pub row_here : row < token_room table
      → names_at_row opening source table row ≡ (item_at source table row).text ∷ declared_from opening source table row zero
  unfolding names_at_row
  row_here h = rw (lt-ltb row (token_room table) h)

  pub row_none : token_room table ≤ row → names_at_row opening source table row ≡ []
  unfolding names_at_row
  row_none h = rw (le-ltb row (token_room table) h)

-- a scan from a row at depth zero has come to another row and a depth, and has passed no name
pub record Reached (opening table : List ℕ) (from row depth : ℕ) : Type 0 where
  pub rest : (source : List ℕ) → declared_from opening source table from zero ≡ declared_from opening source table row depth

pub reached_start : (opening table : List ℕ) (from : ℕ) → Reached opening table from from zero
reached_start opening table from = record { rest = λ source. refl }

module _ {opening table : List ℕ} {from row depth : ℕ} (reached : Reached opening table from row depth) where
  pub next_none : token_room table ≤ row + 2 → NextName opening table from (token_room table)
  next_none h =
      let all : token_room table ≤ token_room table = omega arith in
      record {
        later = λ below. below;
        names = λ source. reached.rest source
            ∙ from_few opening source table row depth h
            ∙ sym (row_none opening source table (token_room table) all);
      }

  module _ (h : row + 2 < token_room table) where
    pub reached_on : offset_at opening table row depth ≡ 0 → Reached opening table from (row + 1) (deeper depth (kind_at table row))
    reached_on e = record { rest = λ source. reached.rest source ∙ from_on opening source table row depth h e }

    pub next_found : from ≤ row → 0 < offset_at opening table row depth
        → NextName opening table from (row + offset_at opening table row depth)
    next_found after some =
        let le = offset_le opening depth (kind_at table row) (kind_at table (row + 1)) (kind_at table (row + 2)) in
        let found = row + offset_at opening table row depth in
        let below : found < token_room table = omega arith in
        let on : from < found = omega arith in
        record {
          later = λ inside. on;
          names = λ source. reached.rest source
              ∙ from_found opening source table row depth h some
              ∙ sym (row_here opening source table found below);
        }

-- a scan begins at the first row
pub from_first : (opening source table : List ℕ)
    → declared opening zero (items source (rows_of table)) ≡ declared_from opening source table 0 zero
unfolding declared_from
from_first opening source table = refl
