-- The tree table: its rows, and what it holds when rows are put into it or when it is cleared.
use Rattle.std.specs.Prelude.{ℕ, ◌+◌, ◌*◌, ◌/◌, List, [], ◌∷◌, ◌++◌, ltb, length, drop, get_or, replicate}
use Rattle.lexer.specs.Tests.{pick}

-- "kind, first token, tokens covered, rows in the subtree with itself"
pub record Row : Type 0 where
  pub kind : ℕ
  pub first : ℕ
  pub cover : ℕ
  pub count : ℕ

-- the numbers in a row of the tree table
abbrev pub tree_width : ℕ
tree_width = 4

-- the whole rows of a table
abbrev pub tree_room : List ℕ → ℕ
tree_room table = length table / tree_width

-- "four u32 per row (kind, first token, tokens covered, rows in the subtree with itself)"
abbrev pub tree_row : Row → List ℕ
tree_row r = r.kind ∷ r.first ∷ r.cover ∷ r.count ∷ []

unfoldable pub tree_rows : List Row → List ℕ
tree_rows [] = []
tree_rows (r ∷ rs) = tree_row r ++ tree_rows rs

-- the first rows hold these, all other numbers are as they were
unfoldable pub placed : List Row → List ℕ → List ℕ
placed rs table = tree_rows rs ++ drop (length rs * tree_width) table

-- "whole rows all zero"; "numbers past the last whole row are never touched"
unfoldable pub cleared : List ℕ → List ℕ
cleared table = replicate (tree_room table * tree_width) 0 ++ drop (tree_room table * tree_width) table

-- the number in a column of a row, 0 past the whole rows
unfoldable pub column_at : List ℕ → ℕ → ℕ → ℕ
column_at table r column = pick (ltb r (tree_room table)) (get_or table (r * tree_width + column) 0) 0

-- what a row of a table says
abbrev pub tree_row_at : List ℕ → ℕ → Row
tree_row_at table r =
    record { kind = column_at table r 0; first = column_at table r 1; cover = column_at table r 2; count = column_at table r 3 }
