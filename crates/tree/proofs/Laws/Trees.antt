-- Rows put into a tree table: its length stays, more rows go on where the first end, and a parent's row may be put after its
-- children's; rows that have room, put from the first row on, are the table's first rows. Assumes nothing.
use Prim.Native.Nat.{ℕ, suc, ◌+◌, ◌*◌, ◌/◌, ◌<◌, ◌≤◌}
use mathlib.Core.Path.{◌≡◌, refl, ◌∙◌, ap}
use mathlib.Core.Bool.{Bool, true, false}
use mathlib.Core.List.{List, [], ◌∷◌, ◌++◌}
use native.Mathlib.Omega.{arith}
use lib.Dec.{ltb}
use borrow.Author.Tests.{lt-ltb}
use lib.ListN.{length, drop, set}
use lib.Seq.{sets, length-sets, sets-eq, set_comm}
use Rattle.lexer.specs.Tests.{pick}
use Rattle.tree.specs.TreeTable.{Row, tree_width, tree_room, tree_row, tree_rows, placed}
use Rattle.tree.specs.internal.Trees.{put_row, put}

-- numbers written at different places may be written in any order
set-sets : (table : List ℕ) (i j a : ℕ) (vs : List ℕ) → i < j → sets (set table i a) j vs ≡ set (sets table j vs) i a
set-sets table i j a [] h = refl
set-sets table i j a (v ∷ vs) h =
    ap (λ (t : List ℕ). sets t (suc j) vs) (set_comm table i j a v (λ (e : i ≡ j). omega arith))
    ∙ set-sets (set table j v) i (suc j) a vs (omega arith)

sets-sets : (table : List ℕ) (i j : ℕ) (vs ws : List ℕ) → i + length vs ≤ j → sets (sets table i vs) j ws ≡ sets (sets table j ws) i vs
sets-sets table i j [] ws h = refl
sets-sets table i j (v ∷ vs) ws h =
    sets-sets (set table i v) (suc i) j vs ws (omega arith)
    ∙ ap (λ (t : List ℕ). sets t (suc i) vs) (set-sets table i j v ws (omega arith))

-- a row written where a test says that there is room
abbrev writes : Bool → ℕ → Row → List ℕ → List ℕ
writes t r x table = pick t (sets table (r * tree_width) (tree_row x)) table

pub length-put_row : (r : ℕ) (x : Row) (table : List ℕ) → length (put_row r x table) ≡ length table
unfolding put_row
length-put_row r x table = by_room (ltb r (tree_room table))
  where
    by_room : (t : Bool) → length (writes t r x table) ≡ length table
    by_room true = length-sets table (r * tree_width) (tree_row x)
    by_room false = refl

pub length-put : (r : ℕ) (xs : List Row) (table : List ℕ) → length (put r xs table) ≡ length table
unfolding put
length-put r [] table = refl
length-put r (x ∷ xs) table = length-put (suc r) xs (put_row r x table) ∙ length-put_row r x table

pub put_append : (r : ℕ) (xs ys : List Row) (table : List ℕ) → put r (xs ++ ys) table ≡ put (r + length xs) ys (put r xs table)
unfolding put
put_append r [] ys table = let e : r + 0 ≡ r = omega arith in rw e
put_append r (x ∷ xs) ys table =
    let e : r + suc (length xs) ≡ suc r + length xs = omega arith in
    rw e (put_append (suc r) xs ys (put_row r x table))

-- two rows may be put in any order, in and out of room
put_row-put_row : (r q : ℕ) (x y : Row) (table : List ℕ) → r < q → put_row q y (put_row r x table) ≡ put_row r x (put_row q y table)
unfolding put_row
put_row-put_row r q x y table h =
    let first = ap (λ (n : ℕ). ltb q (n / tree_width)) (length-put_row r x table) in
    let second = ap (λ (n : ℕ). ltb r (n / tree_width)) (length-put_row q y table) in
    rw (first, second) (by_room (ltb r (tree_room table)) (ltb q (tree_room table)))
  where
    by_room : (s t : Bool) → writes t q y (writes s r x table) ≡ writes s r x (writes t q y table)
    by_room true true = sets-sets table (r * tree_width) (q * tree_width) (tree_row x) (tree_row y) (omega arith)
    by_room true false = refl
    by_room false true = refl
    by_room false false = refl

put-put_row : (r q : ℕ) (x : Row) (xs : List Row) (table : List ℕ) → r < q → put q xs (put_row r x table) ≡ put_row r x (put q xs table)
unfolding put
put-put_row r q x [] table h = refl
put-put_row r q x (y ∷ ys) table h =
    ap (put (suc q) ys) (put_row-put_row r q x y table h) ∙ put-put_row r (suc q) x ys (put_row q y table) (omega arith)

-- a parent's row, put after those of its children
pub put_parent : (r : ℕ) (x : Row) (xs : List Row) (table : List ℕ) → put r (x ∷ xs) table ≡ put_row r x (put (suc r) xs table)
unfolding put
put_parent r x xs table = put-put_row r (suc r) x xs table (omega arith)

-- numbers written one after the other are written at once
sets_append : (table : List ℕ) (i : ℕ) (vs ws : List ℕ) → sets (sets table i vs) (i + length vs) ws ≡ sets table i (vs ++ ws)
sets_append table i [] ws = let e : i + 0 ≡ i = omega arith in rw e
sets_append table i (v ∷ vs) ws =
    let e : i + suc (length vs) ≡ suc i + length vs = omega arith in
    rw e (sets_append (set table i v) (suc i) vs ws)

pub length-tree_rows : (rs : List Row) → length (tree_rows rs) ≡ length rs * tree_width
unfolding tree_rows
length-tree_rows [] = refl
length-tree_rows (r ∷ rs) = let e = length-tree_rows rs in omega arith

put-sets : (r : ℕ) (xs : List Row) (table : List ℕ) → r + length xs ≤ tree_room table
    → put r xs table ≡ sets table (r * tree_width) (tree_rows xs)
unfolding put tree_rows put_row
put-sets r [] table room = refl
put-sets r (x ∷ xs) table room =
    let kept : tree_room (sets table (r * tree_width) (tree_row x)) ≡ tree_room table
    = ap (λ (n : ℕ). n / tree_width) (length-sets table (r * tree_width) (tree_row x)) in
    let next : suc r * tree_width ≡ r * tree_width + length (tree_row x) = omega arith in
    rw (lt-ltb r (tree_room table) (omega arith), put-sets (suc r) xs (sets table (r * tree_width) (tree_row x)) (omega arith), next)
    (sets_append table (r * tree_width) (tree_row x) (tree_rows xs))

pub put-placed : (rs : List Row) (table : List ℕ) → length rs ≤ tree_room table → put 0 rs table ≡ placed rs table
unfolding placed
put-placed rs table room =
    let l = length-tree_rows rs in
    put-sets 0 rs table (omega arith) ∙ sets-eq (tree_rows rs) table 0 (omega arith)
    ∙ ap (λ (n : ℕ). tree_rows rs ++ drop n table) (let sum : 0 + length (tree_rows rs) ≡ length rs * tree_width = omega arith in sum)
