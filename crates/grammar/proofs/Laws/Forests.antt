-- The rows of a derivation are trees, nested at most as many levels as are left; where the table passes the test of few rows,
-- there are at most two for each token and one more. Assumes nothing.
use Prim.Native.Nat.{ℕ, suc, ◌+◌, ◌*◌, ◌-◌, ◌≤◌}
use mathlib.Core.Path.{◌≡◌, refl}
use mathlib.Core.Bool.{true}
use mathlib.Core.List.{List, [], ◌∷◌, ◌++◌, append-nil, append_assoc}
use native.Mathlib.Nat.{suc-add, zero-add}
use native.Mathlib.Omega.{arith}
use lib.ListN.{length, length-append}
use borrow.Author.Tests.{leb-true}
use Rattle.tree.specs.TreeTable.{Row}
use Rattle.grammar.specs.Grammars.{Symbol, derived, Makes, gives_row, row_of, gives_kind, no_row, Production, Names, View}
use Rattle.grammar.specs.Rows.{above, made, levels}
use Rattle.grammar.specs.Derivations.{Derives, end, taken, held, entered}
use Rattle.grammar.specs.Forests.{Forest, nothing, tree}
use Rattle.grammar.proofs.Laws.CheckLaws.{every_has}
use Rattle.grammar.proofs.Laws.Checks.{Hints, every, fewer_of, more_of, few_rows}
use Rattle.grammar.proofs.Laws.Takes.{derives_forward}

-- trees over some tokens are trees over more tokens before them, or after them
pub forest_before : {n i j k : ℕ} {rows : List Row} → i ≤ j → Forest n j k rows → Forest n i k rows
forest_before {i = i} {k = k} h (nothing l) = nothing {i = i} {j = k} (omega arith)
forest_before {i = i} h (tree {r = r} l c children rest) = tree {i = i} {r = r} (omega arith) c children rest

pub forest_append : {n i j k : ℕ} {rows more : List Row} → Forest n i j rows → Forest n j k more → Forest n i k (rows ++ more)
forest_append (nothing l) after = forest_before l after
forest_append {more = more} (tree {r = r} {children = children} {rest = rest} l c below next) after =
    rw (append_assoc children rest more) (tree {r = r} l c below (forest_append next after))

-- a row above all trees over some tokens
forest_above : {n i j : ℕ} {rows : List Row} → (kind : ℕ) → i ≤ j → Forest n i j rows → Forest (suc n) i j (above kind i j rows)
forest_above {n = n} {i = i} {j = j} {rows = rows} kind h children =
    let r : Row = record { kind = kind; first = i; cover = j - i; count = suc (length rows) } in
    let ends : i + (j - i) ≡ j = omega arith in
    let covered : Forest n i (i + (j - i)) rows = rw ends children in
    rw append-nil at (tree {i = i} {j = j} {r = r} (omega arith) refl covered (nothing {i = i + (j - i)} {j = j} (omega arith)))

forest_made : {below i j : ℕ} {rows : List Row} → (makes : Makes) → (said : ℕ) → i ≤ j → Forest below i j rows
    → Forest (levels makes + below) i j (made makes i j said rows)
unfolding levels made
forest_made (gives_row kind) said h f = rw (suc-add, zero-add) (forest_above kind h f)
forest_made row_of said h f = rw (suc-add, zero-add) (forest_above said h f)
forest_made (gives_kind kind) said h f = rw zero-add f
forest_made no_row said h f = rw zero-add f

-- the counts of the top rows
unfoldable pub sum_of_counts : {n i j : ℕ} {rows : List Row} → Forest n i j rows → ℕ
sum_of_counts (nothing l) = 0
sum_of_counts (tree {r = r} l c children rest) = r.count + sum_of_counts rest

pub counts_add : {n i j : ℕ} {rows : List Row} → (f : Forest n i j rows) → sum_of_counts f ≡ length rows
unfolding sum_of_counts
counts_add (nothing l) = refl
counts_add (tree {children = children} {rest = rest} l c below next) =
    let after = counts_add next in
    let both = length-append children rest in
    omega arith

-- so the count of a row is one and the counts of its children
pub count_children : {n i j : ℕ} {rows : List Row} → (r : Row) → r.count ≡ suc (length rows) → (f : Forest n i j rows)
    → r.count ≡ suc (sum_of_counts f)
count_children r c f = let children = counts_add f in omega arith

made-length : (makes : Makes) → (i j said : ℕ) → (rows : List Row) → length (made makes i j said rows) ≡ levels makes + length rows
unfolding levels made
made-length (gives_row kind) i j said rows = omega arith
made-length row_of i j said rows = omega arith
made-length (gives_kind kind) i j said rows = omega arith
made-length no_row i j said rows = omega arith

few_made : (h : Hints) → (p : Production) → (x : ℕ) → p.left ≡ x → few_rows h p ≡ true
    → levels p.makes + h.fewer x + more_of h p.right ≤ fewer_of h p.right + h.more x
unfolding few_rows
few_made h p x left few = rw (← left) (leb-true _ _ few)

module _ {g : List Production} {v : View} where
  -- the rows of a derivation are trees over its tokens
  pub forest : {e : Names} {n i j said : ℕ} {ss : List Symbol} {rows : List Row}
      → Derives g v e n ss i j rows said → Forest n i j rows
  forest (end {i = i}) = nothing {i = i} {j = i} (omega arith)
  forest (taken {i = i} h rest) = forest_before {i = i} {j = suc i} (omega arith) (forest rest)
  forest (held h rest) = forest rest
  forest (entered {said = said} {p = p} has left fits inner rest) =
      forest_append (rw (← fits) at (forest_made p.makes said (derives_forward inner) (forest inner))) (forest rest)

  module _ (h : Hints) (few : every (few_rows h) g ≡ true) where
    pub few_rows_lem : {e : Names} {n i j said : ℕ} {ss : List Symbol} {rows : List Row}
        → Derives g v e n ss i j rows said → length rows + fewer_of h ss + 2 * i ≤ 2 * j + more_of h ss
    unfolding fewer_of more_of
    few_rows_lem end = omega arith
    few_rows_lem (taken c rest) = let after = few_rows_lem rest in omega arith
    few_rows_lem (held c rest) = few_rows_lem rest
    few_rows_lem (entered {i = i} {j = j} {x = x} {said = said} {p = p} {inner = inner} {rest = rest} has left fits within next) =
        let made-few = few_made h p x left (every_has (few_rows h) g _ few has) in
        let own = made-length p.makes i j said inner in
        let both = length-append (made p.makes i j said inner) rest in
        let inside = few_rows_lem within in
        let after = few_rows_lem next in
        omega arith

    -- over all tokens
    pub rows_few : {e : Names} {n x count said : ℕ} {rows : List Row} → h.more x ≤ 1
        → Derives g v e n (derived x ∷ []) 0 count rows said → length rows ≤ 2 * count + 1
    unfolding fewer_of more_of
    rows_few one d = let all = few_rows_lem d in omega arith
