-- Every number of an answer has 32 bits. Assumes nothing.
use Prim.Native.Nat.{ℕ, ◌^◌, ◌<◌, ◌≤◌}
use mathlib.Core.Path.{◌≡◌}
use mathlib.Core.List.{List}
use native.Mathlib.Omega.{arith}
use lib.ListN.{length}
use Rattle.lexer.specs.Editions.{edition17}
use Rattle.lexer.specs.Tokens.{Token}
use Rattle.lexer.specs.executable.Scans.{cleanly, scan}
use Rattle.lexer.specs.Table.{source_limit}
use Rattle.lexer.proofs.Laws.Editions.{spelled17}
use Rattle.lexer.proofs.Laws.Places.{tokens_few, fault-placed}
use Rattle.typenames.proofs.Laws.Entries.{checked_place}
use Rattle.grammar.specs.Languages.{language17}
use Rattle.grammar.proofs.Laws.Nurl17.{theorems17}
use Rattle.answer.specs.Results.{level_limit, Result}
use Rattle.answer.specs.Demands.{Readable, Refusal, too_long, bad_names, bad_byte, open_string, few_token_rows, no_program, too_deep}
use Rattle.answer.specs.Demands.{few_tree_rows, Acceptance, Demands}
use Rattle.answer.specs.declared.Answer.TheVariants.{Accepted, Refused}
use Rattle.answer.proofs.Laws.Readable.{readable_scan, tiles_fault}

module _ (source names tokens rows : List ℕ) where
  -- what the scan gives
  scans : {ts : List Token} → Readable language17 source names ts → scan edition17 source ≡ cleanly ts
  scans = readable_scan language17 spelled17 source names

  -- there are no more tokens than a source can have
  few : (ts : List Token) → Readable language17 source names ts → length ts ≤ source_limit
  few ts r = let l = tokens_few edition17 spelled17 source ts (scans r) in let w = r.admitted.within in omega arith

  place_small : (number place : ℕ) (ta ra : List ℕ) → Refusal language17 source names level_limit tokens rows number place ta ra
      → place < 2 ^ 32
  place_small number place ta ra (too_long long) = omega arith
  place_small number place ta ra (bad_names within h) = let l = checked_place edition17 names 2 place h in omega arith
  place_small number place ta ra (bad_byte a h) =
      let inside = (fault-placed edition17 spelled17 source 3 place (tiles_fault language17 spelled17 source names h)).inside in
      omega (arith, a.within)
  place_small number place ta ra (open_string a h) =
      let inside = (fault-placed edition17 spelled17 source 4 place (tiles_fault language17 spelled17 source names h)).inside in
      omega (arith, a.within)
  place_small number place ta ra (few_token_rows {ts = ts} r over) = omega (arith, few ts r)
  place_small number place ta ra (no_program {ts = ts} r room h) =
      let at = (theorems17 source names ts (scans r)).no_program_at level_limit place h in
      omega (arith, few ts r)
  place_small number place ta ra (too_deep {ts = ts} r room h) =
      let at = (theorems17 source names ts (scans r)).too_deep_at level_limit place h in
      omega (arith, few ts r)
  place_small number place ta ra (few_tree_rows {ts = ts} {rs = rs} r room d over) =
      let rows_few = (theorems17 source names ts (scans r)).few level_limit rs d in
      omega (arith, few ts r)

  counts_small : (t n : ℕ) (ta ra : List ℕ) → Acceptance language17 source names level_limit tokens rows t n ta ra → (t < 2 ^ 32) × (n < 2 ^ 32)
  counts_small t n ta ra a =
      let ts = a.token_table.token_list in
      let readable = a.token_table.readable in
      let rows_few = (theorems17 source names ts (scans readable)).few level_limit a.row_list a.derived in
      let tokens_few = few ts readable in
      let token_count = a.token_count in
      let row_count = a.row_count in
      (omega arith, omega arith)

  module _ (r : Result) (demands : Demands language17 source names level_limit tokens rows r) where
    pub refused_small : (number place : ℕ) → r.answer ≡ Refused number place → place < 2 ^ 32
    refused_small number place h = place_small number place r.tokens r.rows (demands.demand1.refused number place h)

    pub accepted_small : (t n : ℕ) → r.answer ≡ Accepted t n → (t < 2 ^ 32) × (n < 2 ^ 32)
    accepted_small t n h = counts_small t n r.tokens r.rows (demands.demand2.accepted t n h)
