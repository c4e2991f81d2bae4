-- Rows put into a tree table from some row on. Rows past the table's room are not written.
use Rattle.std.specs.Prelude.{ℕ, suc, ◌*◌, List, [], ◌∷◌, ltb}
use Rattle.std.proofs.lemmas.List.Edits.{sets}
use Rattle.lexer.specs.Tests.{pick}
use Rattle.tree.specs.TreeTable.{Row, tree_width, tree_room, tree_row}
use Rattle.tree.specs.declared.table.TreeRow.{TreeRow}

-- a row by its numbers in the code
abbrev pub row_of : TreeRow → Row
row_of r = record { kind = r.kind; first = r.first; cover = r.cover; count = r.count }

unfoldable pub put_row : ℕ → Row → List ℕ → List ℕ
put_row r x table = pick (ltb r (tree_room table)) (sets table (r * tree_width) (tree_row x)) table

-- these rows, one after the other
unfoldable pub put : ℕ → List Row → List ℕ → List ℕ
put r [] table = table
put r (x ∷ xs) table = put (suc r) xs (put_row r x table)
