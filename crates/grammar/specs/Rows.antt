-- The rows of a tree: "parent first, children left to right".
use Rattle.std.specs.Prelude.{ℕ, zero, suc, ◌-◌, List, ◌∷◌, length}
use Rattle.tree.specs.TreeTable.{Row}
use Rattle.grammar.specs.Grammars.{Makes, gives_row, row_of, gives_kind, no_row}

-- a row of a kind from token i to token j above its children's rows
abbrev pub above : ℕ → ℕ → ℕ → List Row → List Row
above kind i j children = record { kind = kind; first = i; cover = j - i; count = suc (length children) } ∷ children

-- the rows of a production from token i to token j, given the kind that its parts say and their rows
unfoldable pub made : Makes → ℕ → ℕ → ℕ → List Row → List Row
made (gives_row kind) i j said rows = above kind i j rows
made row_of i j said rows = above said i j rows
made (gives_kind kind) i j said rows = rows
made no_row i j said rows = rows

-- the kind that a production says for the row that it is a part of, 0 if none
unfoldable pub passed : Makes → ℕ → ℕ
passed (gives_row kind) said = 0
passed row_of said = 0
passed (gives_kind kind) said = kind
passed no_row said = said

-- the kind that one of two parts says, of both the first
unfoldable pub first_said : ℕ → ℕ → ℕ
first_said zero later = later
first_said (suc said) later = suc said

-- the levels that a production takes: "a child is its parent's level plus one"
unfoldable pub levels : Makes → ℕ
levels (gives_row kind) = 1
levels row_of = 1
levels (gives_kind kind) = 0
levels no_row = 0
