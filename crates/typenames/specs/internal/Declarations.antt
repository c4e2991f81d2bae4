-- The names that a token table declares, found one after the other: what the code's scan of the declarations is stated by.
use Rattle.std.specs.Prelude.{ℕ, zero, ◌<◌, ◌≡◌, List, [], ◌∷◌, eqb, ltb, drop}
use Rattle.lexer.specs.Tests.{and, pick, among}
use Rattle.lexer.specs.internal.Kinds.{ident, colon, bar}
use Rattle.lexer.specs.Table.{token_room}
use Rattle.lexer.specs.internal.TokenRows.{rows_of, item_at}
use Rattle.lexer.specs.Items.{Item, items}
use Rattle.typenames.specs.TypeNames.{declared}

-- how far after a `:` the name stands that it declares, by the kinds of the two tokens after it: 1 for a struct's, 2 for an enum's,
-- 0 where there is none
unfoldable pub offset_after : List ℕ → ℕ → ℕ → ℕ
offset_after opening b c = pick (eqb b ident) (pick (among opening c) 1 0) (pick (and (eqb b bar) (eqb c ident)) 2 0)

-- how far after the first of three tokens the name stands that they declare, by their kinds and the depth of the first
unfoldable pub name_offset : List ℕ → ℕ → ℕ → ℕ → ℕ → ℕ
name_offset opening depth a b c = pick (and (eqb a colon) (eqb depth 0)) (offset_after opening b c) 0

-- the tokens of a table from a row on, with their texts
abbrev pub items_from : List ℕ → List ℕ → ℕ → List Item
items_from source table row = items source (drop row (rows_of table))

-- .. and what they declare, the first of them at a depth
unfoldable pub declared_from : List ℕ → List ℕ → List ℕ → ℕ → ℕ → List (List ℕ)
declared_from opening source table row depth = declared opening depth (items_from source table row)

-- the name in a row and what the tokens declare after it; nothing where the table has no such row
unfoldable pub names_at_row : List ℕ → List ℕ → List ℕ → ℕ → List (List ℕ)
names_at_row opening source table row =
    pick (ltb row (token_room table)) ((item_at source table row).text ∷ declared_from opening source table row zero) []

-- a row after another, which is at depth zero: the first from there on that holds a declared name, or none of the table
pub record NextName (opening table : List ℕ) (from row : ℕ) : Type 0 where
  pub later : from < token_room table → from < row
  pub names : (source : List ℕ) → declared_from opening source table from zero ≡ names_at_row opening source table row
