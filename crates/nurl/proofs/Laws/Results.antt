-- The answer from what is found in order: the source's length, its names, its tokens and their reading. Assumes nothing.
use Prim.Native.Nat.{ℕ, ◌*◌, ◌<◌, ◌≤◌}
use mathlib.Core.Path.{◌≡◌, refl, sym, ◌∙◌, ap}
use mathlib.Core.Bool.{Bool, true, false}
use mathlib.Core.List.{List}
use mathlib.Core.Logic.{◌⊎◌, inl, inr}
use native.Mathlib.Omega.{arith}
use lib.Dec.{leb, ltb}
use lib.ListN.{length, take}
use borrow.Author.Tests.{leb-true, leb-false, ltb-false, le-ltb}
use Rattle.std.specs.Prelude.{Result as Either, IsErrAnd}
use Rattle.std.proofs.lemmas.Result.{err_from_is_err_and}
use Rattle.lexer.specs.Tests.{pick}
use Rattle.lexer.specs.Editions.{edition17}
use Rattle.lexer.specs.Tokens.{Token, Ending, clean, fault}
use Rattle.lexer.specs.executable.Scans.{cleanly, scan}
use Rattle.lexer.specs.Table.{source_limit, token_width, token_room, filled}
use Rattle.lexer.specs.internal.TokenRows.{rows_of}
use Rattle.lexer.specs.internal.RefusalNumbers.{reason_number}
use Rattle.lexer.specs.declared.refusals.Refusal.{Refusal}
use Rattle.lexer.specs.internal.Tokenized.{Scanned, Tokens, ended_with, scanned, counted, with_room, after_answer, tokenized, table_after}
use Rattle.lexer.proofs.Laws.Rows.{filled-length, filled-rows}
use Rattle.lexer.proofs.Laws.Editions.{spelled17}
use Rattle.lexer.proofs.Laws.Places.{fault-placed}
use Rattle.typenames.specs.NameList.{Checked, Good, name_limit, entries, first_bad, checked}
use Rattle.typenames.proofs.Laws.Entries.{checked_two}
use Rattle.tree.specs.TreeTable.{tree_room}
use Rattle.grammar.specs.executable.Reading.{Outcome, ok, stuck, deep, spent}
use Rattle.grammar.specs.Languages.{language17}
use Rattle.grammar.specs.executable.ReadTokens.{read_tokens}
use Rattle.grammar.proofs.Laws.Nurl17.{fit17}
use Rattle.answer.specs.executable.Answers.{late, accept, judged, result, answer17, answer_values}
use Rattle.answer.specs.Results.{level_limit, values, Result}
use Rattle.answer.specs.Demands.{Admitted, Readable, too_long, bad_names, bad_byte, open_string, few_token_rows, Demands}
use Rattle.answer.specs.declared.Answer.{Answer}
use Rattle.answer.specs.declared.Answer.TheVariants.{Refused}
use Rattle.answer.proofs.Laws.Readable.{readable_scan, scan_readable, fault_tiles}
use Rattle.answer.proofs.Laws.Answers.{read_result}
use Rattle.answer.proofs.Theorem.{answer_meets}
use Rattle.parser.specs.declared.Place.{Place}
use Rattle.nurl.specs.internal.Results.{tree_result, answered}

-- what a `?` answers where it leaves
pub left_by : (r : Either Place Refusal) (d : Refusal) → IsErrAnd r (λ (y : Refusal). y ≡ d) → answered r ≡ Refused (reason_number d.reason) d.place
left_by r d h = let p = err_from_is_err_and r h in rw (p.1, p.2)

-- a result is the answer, and so has the demands and the answer's numbers
pub meets : (source names tokens rows : List ℕ) (r : Result) → r ≡ answer17 source names tokens rows
    → (r ≡ answer17 source names tokens rows)
    × ((Demands language17 source names level_limit tokens rows r) × (values r.answer ≡ answer_values source names tokens rows))
meets source names tokens rows r h =
    (h, (rw h (answer_meets source names tokens rows), ap (λ (x : Result). values x.answer) h))

-- what a reading of the tokens says does not depend on what else the token table holds
rest_same : (source : List ℕ) (ts : List Token) (lent tokens rows : List ℕ) (o : Outcome)
    → ◌≡◌ {A = Result} (record {
      answer = (result source (judged (tree_room rows) ts o) lent rows).answer;
      tokens = filled source ts tokens;
      rows = (result source (judged (tree_room rows) ts o) lent rows).rows;
    })
    (result source (judged (tree_room rows) ts o) tokens rows)
unfolding result judged
rest_same source ts lent tokens rows (stuck i) = refl
rest_same source ts lent tokens rows (deep i) = refl
rest_same source ts lent tokens rows spent = refl
rest_same source ts lent tokens rows (ok j rs said) = cases (leb (length rs) (tree_room rows))
  where
    cases : (t : Bool) → ◌≡◌ {A = Result} (record {
      answer = (result source (pick t (accept ts rs) (late 8 (length rs) ts)) lent rows).answer;
      tokens = filled source ts tokens;
      rows = (result source (pick t (accept ts rs) (late 8 (length rs) ts)) lent rows).rows;
    })
        (result source (pick t (accept ts rs) (late 8 (length rs) ts)) tokens rows)
    cases true = refl
    cases false = refl

-- as many rows of a filled table as there are tokens are the tokens
own_rows : (source : List ℕ) (ts : List Token) (count : ℕ) (after tokens : List ℕ) → after ≡ filled source ts tokens → count ≡ length ts
    → rows_of (take (count * token_width) after) ≡ ts
own_rows source ts count after tokens table n = rw (table, n) (filled-rows source ts tokens)

-- a good list is not too long
pub good_short : (list : List ℕ) → checked edition17 list ≡ Good → length list ≤ name_limit
unfolding checked
good_short list h = cases (ltb name_limit (length list)) refl h
  where
    cases : (t : Bool) → ltb name_limit (length list) ≡ t
        → pick t (Checked.Refused 2 0) (first_bad edition17 0 (entries list)) ≡ Good → length list ≤ name_limit
    cases true q h = let z : ◌≡◌ {A = ℕ} 0 1 = cc in absurd (omega arith)
    cases false q h = ltb-false name_limit (length list) q

module _ (source names tokens rows : List ℕ) where
  -- both tables as they were, and a refusal
  abbrev unchanged : ℕ → ℕ → Result
  unchanged number place = record { answer = Refused number place; tokens = tokens; rows = rows }

  -- No. 1 and 2
  pub refused_long : source_limit < length source → unchanged 1 0 ≡ answer17 source names tokens rows
  refused_long long = sym ((answer_meets source names tokens rows).demand1.refusal 1 0 tokens rows (too_long long))

  pub refused_names : (number place : ℕ) → length source ≤ source_limit → checked edition17 names ≡ Checked.Refused number place
      → unchanged number place ≡ answer17 source names tokens rows
  refused_names number place within h =
      let two = checked_two edition17 names number place h in
      rw two (sym ((answer_meets source names tokens rows).demand1.refusal 2 place tokens rows (bad_names within (rw two at h))))

  -- No. 3 to 5
  module _ (within : length source ≤ source_limit) (good : checked edition17 names ≡ Good) where
    admitted : Admitted language17 source names
    admitted = record { within = within; good = good }

    refused_fault : {A B : Type 0} (number place : ℕ) → (scan edition17 source).ending ≡ fault number place
        → ((number ≡ 3) × A) ⊎ ((number ≡ 4) × B) → unchanged number place ≡ answer17 source names tokens rows
    refused_fault number place h (inl (three, b)) =
        rw three
        (sym ((answer_meets source names tokens rows).demand1.refusal 3 place tokens rows
        (bad_byte admitted (fault_tiles language17 spelled17 source names (rw three at h)))))
    refused_fault number place h (inr (four, b)) =
        rw four
        (sym ((answer_meets source names tokens rows).demand1.refusal 4 place tokens rows
        (open_string admitted (fault_tiles language17 spelled17 source names (rw four at h)))))

    -- the tokens found, and that they are readable where the source ends clean
    abbrev all : List Token
    all = (scan edition17 source).found

    all_readable : (scan edition17 source).ending ≡ clean → Readable language17 source names all
    all_readable h = scan_readable language17 spelled17 source names admitted h

    refused_ending : (x : Ending) → (scan edition17 source).ending ≡ x → (number place : ℕ)
        → with_room (token_room tokens) (ended_with (length all) x) ≡ Scanned.Refused number place
        → unchanged number place ≡ answer17 source names tokens rows
    unfolding with_room ended_with
    refused_ending (fault n p) h number place t =
        let same : n ≡ number = cc in
        let at : p ≡ place = cc in
        rw (← same, ← at) (refused_fault n p h (fault-placed edition17 spelled17 source n p h).reason)
    refused_ending clean h number place t = cases (leb (length all) (token_room tokens)) refl t
      where
        cases : (b : Bool) → leb (length all) (token_room tokens) ≡ b
            → pick b (Tokens (length all)) (Scanned.Refused 5 (length all)) ≡ Scanned.Refused number place
            → unchanged number place ≡ answer17 source names tokens rows
        cases true q t = let z : ◌≡◌ {A = ℕ} 0 1 = cc in absurd (omega arith)
        cases false q t =
            let five : 5 ≡ number = cc in
            let at : length all ≡ place = cc in
            rw (← five, ← at)
            (sym ((answer_meets source names tokens rows).demand1.refusal 5 (length all) tokens rows
            (few_token_rows (all_readable h) (leb-false _ _ q))))

    tokens_by : (t : Scanned) → tokenized edition17 source tokens ≡ t
        → with_room (token_room tokens) (ended_with (length all) (scan edition17 source).ending) ≡ t
    unfolding tokenized counted scanned
    tokens_by t h = rw (le-ltb source_limit (length source) within) at h

    kept_tokens : (number place : ℕ) → tokenized edition17 source tokens ≡ Scanned.Refused number place
        → table_after edition17 source tokens ≡ tokens
    unfolding table_after after_answer
    kept_tokens number place h = rw h

    pub refused_tokens : (number place : ℕ) (after : List ℕ) → tokenized edition17 source tokens ≡ Scanned.Refused number place
        → after ≡ table_after edition17 source tokens
        → ◌≡◌ {A = Result} (record { answer = Refused number place; tokens = after; rows = rows }) (answer17 source names tokens rows)
    refused_tokens number place after h left =
        let kept = left ∙ kept_tokens number place h in
        ap (λ (numbers : List ℕ). record { answer = Refused number place; tokens = numbers; rows = rows }) kept
        ∙ refused_ending (scan edition17 source).ending refl number place (tokens_by (Scanned.Refused number place) h)

    -- the tokens that the tokeniser has put into the table
    record Found (count : ℕ) : Type 0 where
      tokens_found : List Token
      readable : Readable language17 source names tokens_found
      counted_found : count ≡ length tokens_found
      room : length tokens_found ≤ token_room tokens
      table : table_after edition17 source tokens ≡ filled source tokens_found tokens

    found_ending : (x : Ending) → (scan edition17 source).ending ≡ x → (count : ℕ)
        → with_room (token_room tokens) (ended_with (length all) x) ≡ Tokens count
        → table_after edition17 source tokens ≡ filled source all tokens → Found count
    unfolding with_room ended_with
    found_ending (fault n p) h count t after = let z : ◌≡◌ {A = ℕ} 0 1 = cc in absurd (omega arith)
    found_ending clean h count t after = cases (leb (length all) (token_room tokens)) refl t
      where
        cases : (b : Bool) → leb (length all) (token_room tokens) ≡ b
            → pick b (Tokens (length all)) (Scanned.Refused 5 (length all)) ≡ Tokens count → Found count
        cases false q t = let z : ◌≡◌ {A = ℕ} 0 1 = cc in absurd (omega arith)
        cases true q t = record {
          tokens_found = all;
          readable = all_readable h;
          counted_found = cc;
          room = leb-true _ _ q;
          table = after;
        }

    found_tokens : (count : ℕ) → tokenized edition17 source tokens ≡ Tokens count → Found count
    unfolding table_after after_answer
    found_tokens count h = found_ending (scan edition17 source).ending refl count (tokens_by (Tokens count) h) (rw h)

    rest_by : (ts us : List Token) (lent after : List ℕ) (answer : Answer) (rowsAfter : List ℕ) → us ≡ ts → after ≡ filled source ts tokens
        → Readable language17 source names ts → length ts ≤ token_room tokens
        → answer ≡ (result source (judged (tree_room rows) us (read_tokens language17 level_limit source names us)) lent rows).answer
        → rowsAfter ≡ (result source (judged (tree_room rows) us (read_tokens language17 level_limit source names us)) lent rows).rows
        → ◌≡◌ {A = Result} (record { answer = answer; tokens = after; rows = rowsAfter }) (answer17 source names tokens rows)
    rest_by ts us lent after answer rowsAfter same table readable room a t =
        rw (a, t, same, table)
        (rest_same source ts lent tokens rows (read_tokens language17 level_limit source names ts)
        ∙ sym (read_result language17 source names level_limit tokens rows fit17 (omega arith) ts readable room))

    -- the rows of the tokens are lent to the reading, and nothing else
    module _ (count : ℕ) (after : List ℕ) (said : tokenized edition17 source tokens ≡ Tokens count)
        (left : after ≡ table_after edition17 source tokens)
      where
        found : Found count
        found = found_tokens count said

        table_filled : after ≡ filled source found.tokens_found tokens
        table_filled = left ∙ found.table

        pub lent_inside : count * token_width ≤ length tokens
        lent_inside = omega (arith, found.room, found.counted_found)

        pub lent_after : count * token_width ≤ length after
        lent_after =
            let room = found.room in
            let l = filled-length source found.tokens_found tokens (omega arith) in
            rw (table_filled, l) lent_inside

        lent_rows : rows_of (take (count * token_width) after) ≡ found.tokens_found
        lent_rows = own_rows source found.tokens_found count after tokens table_filled found.counted_found

        pub lent_scan : scan edition17 source ≡ cleanly (rows_of (take (count * token_width) after))
        lent_scan = readable_scan language17 spelled17 source names found.readable ∙ rw lent_rows

        -- No. 6 to 8, or acceptance
        pub read_rest : (answer : Answer) (rowsAfter : List ℕ)
            → answer ≡ (tree_result source names (take (count * token_width) after) rows).answer
            → rowsAfter ≡ (tree_result source names (take (count * token_width) after) rows).rows
            → ◌≡◌ {A = Result} (record { answer = answer; tokens = after; rows = rowsAfter }) (answer17 source names tokens rows)
        read_rest answer rowsAfter a t =
            rest_by found.tokens_found (rows_of (take (count * token_width) after)) (take (count * token_width) after) after answer rowsAfter
            lent_rows table_filled found.readable found.room a t
