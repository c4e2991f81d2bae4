-- The rows of the token table: how long they are, how one more is written, and what the leaves find in them.
-- Assumes nothing.
use Prim.Native.Nat.{ℕ, zero, suc, ◌+◌, ◌*◌, ◌<◌, ◌≤◌}
use mathlib.Core.Path.{◌≡◌, refl, ◌∙◌, ap, sym}
use mathlib.Core.Bool.{Bool, true, false}
use mathlib.Core.List.{List, [], ◌∷◌, ◌++◌, append-nil, append_assoc}
use native.Mathlib.Omega.{arith}
use native.Mathlib.Nat.{add-zero}
use lib.ListN.{length, take, drop, set, get_or, length-append, length-take, length-drop, get_or-append, get_or-eq_default}
use lib.Seq.{sets, sets-eq, take_at, take_all, take-append-le, drop-drop, drop-append-add}
use lib.Dec.{ltb}
use borrow.Author.Tests.{ltb-true, ltb-false}
use Rattle.lexer.specs.Tests.{pick}
use Rattle.lexer.specs.Tokens.{Token}
use Rattle.lexer.specs.Table.{token_width, token_room, token_row, token_rows, filled, kept}
use Rattle.lexer.specs.internal.TokenRows.{rows_of, no_token, row_at}
use Rattle.lexer.specs.internal.Leaves.{row_numbers, own_numbers}
use Rattle.lexer.specs.internal.Rows.{number_at}

-- one number more, written one after the other
pub sets_more : (vs table : List ℕ) (i k : ℕ) → k < length vs
    → set (sets table i (take k vs)) (i + k) (get_or vs k 0) ≡ sets table i (take (suc k) vs)
sets_more [] table i k inside = absurd (omega arith)
sets_more (v ∷ vs) table i zero inside = rw add-zero
sets_more (v ∷ vs) table i (suc k) inside =
    let next : i + suc k ≡ suc i + k = omega arith in
    rw next (sets_more vs (set table i v) (suc i) k (omega arith))

row-length : (source : List ℕ) (t : Token) → length (token_row source t) ≡ token_width
unfolding token_row
row-length source t = refl

-- the row that is written for a token is the token's row
pub row_written : (source : List ℕ) (kind start size : ℕ)
    → row_numbers (record { kind = kind; start = start; size = size }) ≡ token_row source (record { kind = kind; start = start; size = size })
unfolding token_row
row_written source kind start size = refl

pub rows-length : (source : List ℕ) (ts : List Token) → length (token_rows source ts) ≡ length ts * token_width
unfolding token_rows
rows-length source [] = refl
rows-length source (t ∷ ts) =
    let e = rows-length source ts in
    let r = row-length source t in
    let a = length-append (token_row source t) (token_rows source ts) in
    omega arith

pub rows_append : (source : List ℕ) (ts us : List Token) → token_rows source (ts ++ us) ≡ token_rows source ts ++ token_rows source us
unfolding token_rows
rows_append source [] us = refl
rows_append source (t ∷ ts) us = rw (rows_append source ts us, append_assoc)

-- nothing is filled yet
pub filled_none : (source table : List ℕ) → filled source [] table ≡ table
unfolding filled token_rows
filled_none source table = refl

pub filled-length : (source : List ℕ) (ts : List Token) (table : List ℕ) → length ts * token_width ≤ length table
    → length (filled source ts table) ≡ length table
unfolding filled
filled-length source ts table h =
    let r = rows-length source ts in
    let d = length-drop (length ts * token_width) table in
    let a = length-append (token_rows source ts) (drop (length ts * token_width) table) in
    omega arith

-- where all tokens fit, all are kept
pub kept_all : (source : List ℕ) (ts : List Token) (table : List ℕ) → length ts ≤ token_room table
    → kept source ts table ≡ filled source ts table
unfolding kept
kept_all source ts table fits = rw (take_all (token_room table) ts fits)

-- .. and before there are any, nothing is
pub kept-none : (source table : List ℕ) → kept source [] table ≡ table
unfolding kept
kept-none source table = kept_all source [] table (omega arith) ∙ filled_none source table

module _ (source : List ℕ) (ts : List Token) (table : List ℕ) where
  -- what is kept takes no more rows than there are
  kept-fits : length (take (token_room table) ts) * token_width ≤ length table
  kept-fits = let l = length-take (token_room table) ts in omega arith

  pub kept-length : length (kept source ts table) ≡ length table
  unfolding kept
  kept-length = filled-length source (take (token_room table) ts) table kept-fits

  pub kept_room : token_room (kept source ts table) ≡ token_room table
  kept_room = rw kept-length

-- one row more
module _ (source : List ℕ) (ts : List Token) (t : Token) (table : List ℕ) where
  last_row : drop (length ts * token_width + token_width) (filled source ts table) ≡ drop (length ts * token_width + token_width) table
  unfolding filled
  last_row =
      let rows = token_rows source ts in
      rw (← rows-length source ts) (drop-append-add rows (drop (length rows) table) token_width ∙ drop-drop token_width (length rows) table)

  more_rows : length (ts ++ (t ∷ [])) * token_width ≡ length ts * token_width + token_width
  more_rows = let l = length-append ts (t ∷ []) in omega arith

  pub filled_more : (length ts + 1) * token_width ≤ length table
      → sets (filled source ts table) (length ts * token_width) (token_row source t) ≡ filled source (ts ++ (t ∷ [])) table
  unfolding filled token_rows
  filled_more room =
      let n = length ts * token_width in
      let l = filled-length source ts table (omega arith) in
      let r = row-length source t in
      sets-eq (token_row source t) (filled source ts table) n (omega arith)
      ∙ rw (r, last_row, take_at (token_rows source ts) (drop n table) n (rows-length source ts), more_rows, rows_append, append-nil, append_assoc)

-- one token more, where there is room for it and where there is none
module _ (source : List ℕ) (ts : List Token) (t : Token) (table : List ℕ) where
  pub kept_more : length ts < token_room table
      → sets (kept source ts table) (length ts * token_width) (token_row source t) ≡ kept source (ts ++ (t ∷ [])) table
  kept_more room =
      let l = length-append ts (t ∷ []) in
      rw (kept_all source ts table (omega arith), kept_all source (ts ++ (t ∷ [])) table (omega arith)) (filled_more source ts t table (omega arith))

  pub kept_full : token_room table ≤ length ts → kept source (ts ++ (t ∷ [])) table ≡ kept source ts table
  unfolding kept
  kept_full full = rw (take-append-le (token_room table) ts (t ∷ []) full)

-- as many rows as there is room for
pub rows_of-length : (table : List ℕ) → length (rows_of table) ≡ token_room table
unfolding rows_of
rows_of-length [] = refl
rows_of-length (k ∷ []) = refl
rows_of-length (k ∷ s ∷ []) = refl
rows_of-length (k ∷ s ∷ n ∷ table) = let below = rows_of-length table in omega arith

-- the number at a place of the table, in the row that stands there
row_number_by : (table : List ℕ) (row column : ℕ) → row < token_room table → column < token_width
    → get_or table (row * token_width + column) 0 ≡ get_or (own_numbers (get_or (rows_of table) row no_token)) column 0
unfolding rows_of
row_number_by [] row column h w = absurd (omega arith)
row_number_by (k ∷ []) row column h w = absurd (omega arith)
row_number_by (k ∷ s ∷ []) row column h w = absurd (omega arith)
row_number_by (k ∷ s ∷ n ∷ table) zero zero h w = refl
row_number_by (k ∷ s ∷ n ∷ table) zero (suc zero) h w = refl
row_number_by (k ∷ s ∷ n ∷ table) zero (suc (suc zero)) h w = refl
row_number_by (k ∷ s ∷ n ∷ table) zero (suc (suc (suc c))) h w = absurd (omega arith)
row_number_by (k ∷ s ∷ n ∷ table) (suc row) column h w =
    let next : suc row * token_width + column ≡ suc (suc (suc (row * token_width + column))) = omega arith in
    rw next (row_number_by table row column (omega arith) w)

module _ (table : List ℕ) (row column : ℕ) (w : column < token_width) where
  pub row_number : row < token_room table
      → get_or table (row * token_width + column) 0 ≡ get_or (own_numbers (row_at table row)) column 0
  unfolding row_at
  row_number h = row_number_by table row column h w

  pub no_row : token_room table ≤ row → get_or (own_numbers (row_at table row)) column 0 ≡ 0
  unfolding row_at
  no_row h =
      let l = rows_of-length table in
      let none : row_at table row ≡ no_token = get_or-eq_default (rows_of table) no_token {n = row} (omega arith) in
      ap (λ (t : Token). get_or (own_numbers t) column 0) none ∙ zeros column
    where
      zeros : (k : ℕ) → get_or (own_numbers no_token) k 0 ≡ 0
      zeros zero = refl
      zeros (suc zero) = refl
      zeros (suc (suc zero)) = refl
      zeros (suc (suc (suc k))) = refl

  -- .. and so the number that a table of rows has there is what the row says
  by_room : (t : Bool) → ltb row (token_room table) ≡ t
      → pick t (get_or table (row * token_width + column) 0) 0 ≡ get_or (own_numbers (row_at table row)) column 0
  by_room true h = row_number (ltb-true _ _ h)
  by_room false h = sym (no_row (ltb-false _ _ h))

  pub own_number : number_at token_width table row column ≡ get_or (own_numbers (row_at table row)) column 0
  own_number = by_room (ltb row (token_room table)) refl

-- the rows of a filled table begin with the tokens, so that a leaf finds the token of its row
rows_of-rows : (source : List ℕ) (ts : List Token) (rest : List ℕ) → rows_of (token_rows source ts ++ rest) ≡ ts ++ rows_of rest
unfolding rows_of token_row token_rows
rows_of-rows source [] rest = refl
rows_of-rows source (t ∷ ts) rest = ap (λ (us : List Token). t ∷ us) (rows_of-rows source ts rest)

pub filled_row : (source : List ℕ) (ts : List Token) (table : List ℕ) (row : ℕ) → row < length ts
    → row_at (filled source ts table) row ≡ get_or ts row no_token
unfolding row_at filled
filled_row source ts table row h =
    rw (rows_of-rows source ts (drop (length ts * token_width) table)) (get_or-append ts _ no_token row h)

own_rows : (source : List ℕ) (ts : List Token) → rows_of (token_rows source ts) ≡ ts
unfolding rows_of token_row token_rows
own_rows source [] = refl
own_rows source (t ∷ ts) = ap (λ (us : List Token). t ∷ us) (own_rows source ts)

-- as many rows as there are tokens are the tokens' own, and nothing else
pub filled-rows : (source : List ℕ) (ts : List Token) (table : List ℕ) → rows_of (take (length ts * token_width) (filled source ts table)) ≡ ts
unfolding filled
filled-rows source ts table =
    let n = length ts * token_width in
    rw (take_at (token_rows source ts) (drop n table) n (rows-length source ts)) (own_rows source ts)
