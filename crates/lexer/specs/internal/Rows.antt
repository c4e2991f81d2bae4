-- Tables of numbers in rows of one width. The token table and the tree table are such tables.
use Rattle.std.specs.Prelude.{ℕ, ◌+◌, ◌*◌, ◌/◌, List, ltb, length, get_or}
use Rattle.std.proofs.lemmas.List.Edits.{sets}
use Rattle.lexer.specs.Tests.{pick}

-- the whole rows of a table
abbrev pub rows_in : ℕ → List ℕ → ℕ
rows_in width table = length table / width

-- the number in a column of a row, 0 past the whole rows
abbrev pub number_at : ℕ → List ℕ → ℕ → ℕ → ℕ
number_at width table row column = pick (ltb row (rows_in width table)) (get_or table (row * width + column) 0) 0

-- a table after a row's numbers were written where it has the row
abbrev pub with_row : ℕ → List ℕ → ℕ → List ℕ → List ℕ
with_row width table row numbers = pick (ltb row (rows_in width table)) (sets table (row * width) numbers) table
