-- The tokeniser's answer and table from the count of tokens, case by case, for any edition. Assumes nothing.
use Prim.Native.Nat.{ℕ, ◌<◌, ◌≤◌}
use mathlib.Core.Path.{◌≡◌, refl, ap}
use mathlib.Core.Bool.{Bool, true, false}
use mathlib.Core.List.{List}
use native.Mathlib.Omega.{arith}
use lib.Dec.{ltb}
use lib.ListN.{length}
use borrow.Author.Tests.{le-leb, lt-leb, ltb-false}
use Rattle.lexer.specs.Tests.{pick}
use Rattle.lexer.specs.Editions.{Edition}
use Rattle.lexer.specs.Tokens.{Ending, clean, fault}
use Rattle.lexer.specs.executable.Scans.{scan}
use Rattle.lexer.specs.Table.{source_limit, token_room, filled}
use Rattle.lexer.specs.internal.Tokenized.{Scanned, Tokens, Refused, ended_with, scanned, counted, with_room, tokenized, after_answer, table_after}

-- an answer of any kind that is the one expected has its numbers
pub valued : {A : Type 0} (values : A → List ℕ) (r expected : A) → r ≡ expected → (r ≡ expected) × (values r ≡ values expected)
valued values r expected h = (h, ap values h)

-- what an answer and the table after it are
pub record Answered (e : Edition) (s table : List ℕ) (answer : Scanned) (after : List ℕ) : Type 0 where
  pub says : tokenized e s table ≡ answer
  pub leaves : table_after e s table ≡ after

-- what a count tells of the source
pub record Clean (e : Edition) (s : List ℕ) (n : ℕ) : Type 0 where
  pub short : length s ≤ source_limit
  pub ends : (scan e s).ending ≡ clean
  pub count : length (scan e s).found ≡ n

clean_ending : (m n : ℕ) (x : Ending) → ended_with m x ≡ Tokens n → (x ≡ clean) × (m ≡ n)
unfolding ended_with
clean_ending m n clean h = (refl, cc)
clean_ending m n (fault number place) h = let z : ◌≡◌ {A = ℕ} 0 1 = cc in absurd (omega arith)

module _ (e : Edition) (s : List ℕ) where
  counted_by : (n : ℕ) (t : Bool) → ltb source_limit (length s) ≡ t
      → pick t (Refused 1 0) (scanned (scan e s)) ≡ Tokens n → Clean e s n
  unfolding scanned
  counted_by n true q h = let z : ◌≡◌ {A = ℕ} 0 1 = cc in absurd (omega arith)
  counted_by n false q h =
      let c = clean_ending (length (scan e s).found) n (scan e s).ending h in
      record { short = ltb-false _ _ q; ends = c.0; count = c.1 }

  pub clean_count : (n : ℕ) → counted e s ≡ Tokens n → Clean e s n
  unfolding counted
  clean_count n h = counted_by n (ltb source_limit (length s)) refl h

  pub clean-scanned : (n : ℕ) → Clean e s n → scanned (scan e s) ≡ Tokens n
  unfolding scanned ended_with
  clean-scanned n k = rw (k.ends, k.count)

  module _ (table : List ℕ) where
    pub answer_refused : (number place : ℕ) → counted e s ≡ Refused number place
        → Answered e s table (Refused number place) table
    unfolding tokenized with_room table_after after_answer
    answer_refused number place h = record { says = rw h; leaves = rw h }

    pub answer_full : (n : ℕ) → counted e s ≡ Tokens n → token_room table < n → Answered e s table (Refused 5 n) table
    unfolding tokenized with_room table_after after_answer
    answer_full n h full = record { says = rw (h, lt-leb _ _ full); leaves = rw (h, lt-leb _ _ full) }

    pub answer_tokens : (n : ℕ) → counted e s ≡ Tokens n → n ≤ token_room table
        → Answered e s table (Tokens n) (filled s (scan e s).found table)
    unfolding tokenized with_room table_after after_answer
    answer_tokens n h fits = record { says = rw (h, le-leb _ _ fits); leaves = rw (h, le-leb _ _ fits) }
