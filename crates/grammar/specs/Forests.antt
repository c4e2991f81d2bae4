-- Rows that make trees: "parent first, children left to right".
use Rattle.std.specs.Prelude.{ℕ, suc, ◌+◌, ◌≤◌, ◌≡◌, List, [], ◌∷◌, ◌++◌, length}
use Rattle.tree.specs.TreeTable.{Row}

-- `Forest n i j rows`: the rows are whole trees, one after the other, "parent first", over tokens from i up to but not with j.
-- No two trees share a token, and they stand in the order of their tokens. None of the rows has a higher level than n, where the
-- top rows have level 1: the trees are "nested at most" so many levels.
pub data Forest : ℕ → ℕ → ℕ → List Row → Type 0 where
  -- no tree, over any tokens
  nothing : {n i j : ℕ} → i ≤ j → Forest n i j []
  -- A tree and the trees after it. The top row r of the tree begins at token i or later. Its children follow it, "left to
  -- right": trees over the "tokens covered" by r, with a level less left for them. The count of r is the "rows in the subtree
  -- with itself". The trees after it are over the tokens after those that r covers.
  tree : {n i j : ℕ} {r : Row} {children rest : List Row}
      → i ≤ r.first
      → r.count ≡ suc (length children)
      → Forest n r.first (r.first + r.cover) children
      → Forest (suc n) (r.first + r.cover) j rest
      → Forest (suc n) i j (r ∷ (children ++ rest))
