-- What the rows of a token table say.
use Rattle.std.specs.Prelude.{ℕ, List, [], ◌∷◌, get_or}
use Rattle.lexer.specs.Tokens.{Token}
use Rattle.lexer.specs.Items.{Item, item_of}

-- the whole rows of a table, each as the token that it says
unfoldable pub rows_of : List ℕ → List Token
rows_of [] = []
rows_of (k ∷ []) = []
rows_of (k ∷ s ∷ []) = []
rows_of (k ∷ s ∷ n ∷ table) = record { kind = k; start = s; size = n } ∷ rows_of table

abbrev pub no_token : Token
no_token = record { kind = 0; start = 0; size = 0 }

-- what a row says, all 0 past the whole rows
unfoldable pub row_at : List ℕ → ℕ → Token
row_at table row = get_or (rows_of table) row no_token

abbrev pub kind_at : List ℕ → ℕ → ℕ
kind_at table row = (row_at table row).kind

abbrev pub start_at : List ℕ → ℕ → ℕ
start_at table row = (row_at table row).start

abbrev pub size_at : List ℕ → ℕ → ℕ
size_at table row = (row_at table row).size

-- the token in a row of a table, with its text
abbrev pub item_at : List ℕ → List ℕ → ℕ → Item
item_at source table row = item_of source (row_at table row)
