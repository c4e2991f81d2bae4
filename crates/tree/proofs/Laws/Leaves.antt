-- What the leaves find in a table that rows were put into: those rows. Assumes nothing.
use Prim.Native.Nat.{ℕ, zero, suc, ◌+◌, ◌*◌, ◌<◌}
use mathlib.Core.Path.{◌≡◌, refl}
use mathlib.Core.List.{List, [], ◌∷◌, ◌++◌}
use native.Mathlib.Omega.{arith}
use borrow.Author.Tests.{lt-ltb}
use lib.ListN.{length, drop, get_or, length-append}
use Rattle.tree.specs.TreeTable.{Row, tree_width, tree_room, tree_row, tree_rows, placed, column_at, tree_row_at}
use Rattle.tree.proofs.Laws.Trees.{length-tree_rows}

abbrev empty_row : Row
empty_row = record { kind = 0; first = 0; cover = 0; count = 0 }

-- a number of a row stands in its column
column_of : (rs : List Row) (rest : List ℕ) (r k : ℕ) → r < length rs → k < tree_width
    → get_or (tree_rows rs ++ rest) (r * tree_width + k) 0 ≡ get_or (tree_row (get_or rs r empty_row)) k 0
unfolding tree_rows
column_of [] rest r k inside column = absurd (omega arith)
column_of (x ∷ rs) rest zero zero inside column = refl
column_of (x ∷ rs) rest zero (suc zero) inside column = refl
column_of (x ∷ rs) rest zero (suc (suc zero)) inside column = refl
column_of (x ∷ rs) rest zero (suc (suc (suc zero))) inside column = refl
column_of (x ∷ rs) rest zero (suc (suc (suc (suc k)))) inside column = absurd (omega arith)
column_of (x ∷ rs) rest (suc r) k inside column =
    let past : suc r * tree_width + k ≡ suc (suc (suc (suc (r * tree_width + k)))) = omega arith in
    rw past (column_of rs rest r k (omega arith) column)

-- .. in the table that the rows are placed in
column_placed : (rs : List Row) (table : List ℕ) (r k : ℕ) → r < length rs → k < tree_width
    → column_at (placed rs table) r k ≡ get_or (tree_row (get_or rs r empty_row)) k 0
unfolding column_at placed
column_placed rs table r k inside column =
    let rest = drop (length rs * tree_width) table in
    let both = length-append (tree_rows rs) rest in
    let rows = length-tree_rows rs in
    let room : r < tree_room (tree_rows rs ++ rest) = omega arith in
    rw (lt-ltb r (tree_room (tree_rows rs ++ rest)) room) (column_of rs rest r k inside column)

-- the row at a place is the row that was put there
pub row_placed : (rs : List Row) (table : List ℕ) (r : ℕ) → r < length rs → tree_row_at (placed rs table) r ≡ get_or rs r empty_row
row_placed rs table r inside =
    let kind = column_placed rs table r 0 inside (omega arith) in
    let first = column_placed rs table r 1 inside (omega arith) in
    let cover = column_placed rs table r 2 inside (omega arith) in
    let count = column_placed rs table r 3 inside (omega arith) in
    rw (kind, first, cover, count)
