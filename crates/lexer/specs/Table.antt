-- The token table: its rows, and what it holds when tokens are put into it.
use Rattle.std.specs.Prelude.{ℕ, ◌*◌, ◌/◌, List, [], ◌∷◌, ◌++◌, length, take, drop}
use Rattle.lexer.specs.Tokens.{Token}

-- "source over 1,048,576 bytes": refusal 1, place 0
abbrev pub source_limit : ℕ
source_limit = 1048576

-- the numbers in a row of the token table
abbrev pub token_width : ℕ
token_width = 3

-- the whole rows of a table
abbrev pub token_room : List ℕ → ℕ
token_room table = length table / token_width

-- "three u32 per row (kind, start byte, length)", for a token of a source
unfoldable pub token_row : List ℕ → Token → List ℕ
token_row source t = t.kind ∷ t.start ∷ t.size ∷ []

unfoldable pub token_rows : List ℕ → List Token → List ℕ
token_rows source [] = []
token_rows source (t ∷ ts) = token_row source t ++ token_rows source ts

-- the first rows hold the tokens of a source, all other numbers are as they were
unfoldable pub filled : List ℕ → List Token → List ℕ → List ℕ
filled source ts table = token_rows source ts ++ drop (length ts * token_width) table

-- the first rows hold as many of the tokens as there are whole rows for
unfoldable pub kept : List ℕ → List Token → List ℕ → List ℕ
kept source ts table = filled source (take (token_room table) ts) table
