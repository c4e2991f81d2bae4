-- The computed answer has demands 1, 2 and 3, and whatever has them is that answer, for any language that is fit and any limit of a
-- level at least. Assumes nothing.
use Prim.Native.Nat.{ℕ, ◌<◌, ◌≤◌}
use mathlib.Core.Path.{◌≡◌, refl, ◌∙◌, subst}
use mathlib.Core.Bool.{Bool, true, false}
use mathlib.Core.List.{List}
use mathlib.Core.Logic.{◌⊎◌, inl, inr}
use native.Mathlib.Omega.{arith}
use lib.Dec.{leb, ltb}
use lib.ListN.{length}
use borrow.Author.Tests.{ltb-true, ltb-false, leb-true, leb-false, lt-ltb, le-ltb, le-leb, lt-leb}
use Rattle.lexer.specs.Tests.{pick}
use Rattle.lexer.specs.Tokens.{Token, Ending, clean, fault}
use Rattle.lexer.specs.executable.Scans.{scan}
use Rattle.lexer.specs.Table.{source_limit, token_room, filled}
use Rattle.lexer.proofs.Laws.Places.{fault-placed}
use Rattle.typenames.specs.NameList.{Checked, Good, checked}
use Rattle.typenames.proofs.Laws.Entries.{checked_two}
use Rattle.tree.specs.TreeTable.{Row, tree_room, placed, cleared}
use Rattle.grammar.specs.executable.Reading.{Outcome, ok, stuck, deep, spent}
use Rattle.grammar.specs.Languages.{Language}
use Rattle.grammar.specs.Sources.{DerivationOf, NoProgramOf, TooDeepOf}
use Rattle.grammar.specs.executable.ReadTokens.{read_tokens}
use Rattle.grammar.proofs.Laws.Sources.{Fit, ReadAs, read_as, Theorems, theorems}
use Rattle.answer.specs.Results.{Result}
use Rattle.answer.specs.executable.Answers.{Verdict, early, late, accept, judged, scanned_tokens, checked_names, verdict, result}
use Rattle.answer.specs.executable.Answers.{answered}
use Rattle.answer.specs.Demands.{Admitted, Readable, Room, Refusal, too_long, bad_names, bad_byte, open_string, few_token_rows}
use Rattle.answer.specs.Demands.{no_program, too_deep, few_tree_rows, TokenTable, Acceptance, Demands}
use Rattle.answer.specs.declared.Answer.TheVariants.{Accepted, Refused}
use Rattle.answer.proofs.Laws.Readable.{readable_scan, scan_readable, tiles_fault, fault_tiles, readable_same}

-- what a verdict says, in the words of the demands
module _ (l : Language) (source names : List ℕ) (limit : ℕ) (tokens rows : List ℕ) where
  data Found : Verdict → Type 0 where
    found_early : {number place : ℕ} → Refusal l source names limit tokens rows number place tokens rows → Found (early number place)
    found_late : {number place : ℕ} {ts : List Token}
        → Refusal l source names limit tokens rows number place (filled source ts tokens) (cleared rows) → Found (late number place ts)
    found_accept : {ts : List Token} {rs : List Row} → Readable l source names ts → length ts ≤ token_room tokens
        → length rs ≤ tree_room rows → DerivationOf l source names ts limit rs → Found (accept ts rs)

  -- the other way: a source that is too long is refused 1, whatever else it is
  verdict_long : source_limit < length source → verdict l limit source names (token_room tokens) (tree_room rows) ≡ early 1 0
  unfolding verdict
  verdict_long long = rw (lt-ltb source_limit (length source) long)

  verdict-within : length source ≤ source_limit → verdict l limit source names (token_room tokens) (tree_room rows)
      ≡ checked_names (checked l.lexical names)
      (scanned_tokens l limit source names (token_room tokens) (tree_room rows) (scan l.lexical source).found (scan l.lexical source).ending)
  unfolding verdict
  verdict-within within = rw (le-ltb source_limit (length source) within)

  verdict-fault : Admitted l source names → (number place : ℕ) → (scan l.lexical source).ending ≡ fault number place
      → verdict l limit source names (token_room tokens) (tree_room rows) ≡ early number place
  unfolding checked_names scanned_tokens
  verdict-fault a number place h = verdict-within a.within ∙ rw (a.good, h)

  -- what a refusal says of its place and of the token table
  record Says (number place : ℕ) (tokensAfter : List ℕ) : Type 0 where
    six : number ≡ 6 → (ts : List Token) → Readable l source names ts → NoProgramOf l source names ts limit place
    seven : number ≡ 7 → (ts : List Token) → Readable l source names ts → TooDeepOf l source names ts limit place
    table : 6 ≤ number → TokenTable l source names limit tokens rows tokensAfter

  says_early : (number place : ℕ) (ta : List ℕ) → number < 6 → Says number place ta
  says_early number place ta low = record {
    six = λ (h : number ≡ 6). absurd (omega arith);
    seven = λ (h : number ≡ 7). absurd (omega arith);
    table = λ (h : 6 ≤ number). absurd (omega arith);
  }

  abbrev table_of : (ts : List Token) → Readable l source names ts → TokenTable l source names limit tokens rows (filled source ts tokens)
  table_of ts r = record { token_list = ts; readable = r; numbers = refl }

  module _ (fit : Fit l) (some : 1 ≤ limit) where
    -- where the tokens are readable, the verdict is that of the reading
    verdict-clean : (ts : List Token) → Readable l source names ts → verdict l limit source names (token_room tokens) (tree_room rows)
        ≡ scanned_tokens l limit source names (token_room tokens) (tree_room rows) ts clean
    unfolding checked_names
    verdict-clean ts r = verdict-within r.admitted.within ∙ rw (r.admitted.good, readable_scan l fit.marks source names r)

    verdict_read : (ts : List Token) → Readable l source names ts → length ts ≤ token_room tokens → (o : Outcome)
        → read_tokens l limit source names ts ≡ o
        → verdict l limit source names (token_room tokens) (tree_room rows) ≡ judged (tree_room rows) ts o
    unfolding scanned_tokens
    verdict_read ts r room o h =
        verdict-clean ts r ∙ rw (le-leb (length ts) (token_room tokens) room, h)

    -- where the tokens are readable and have room, the reading says the rest
    pub read_result : (ts : List Token) → Readable l source names ts → length ts ≤ token_room tokens
        → answered l limit source names tokens rows
        ≡ result source (judged (tree_room rows) ts (read_tokens l limit source names ts)) tokens rows
    unfolding answered
    read_result ts r room = rw (verdict_read ts r room (read_tokens l limit source names ts) refl)

    -- the theorems of readable tokens
    theorems_of : {ts : List Token} → Readable l source names ts → Theorems l source names ts fit.hints.last_kind fit.hints.top_kind
    theorems_of {ts = ts} r = theorems l fit source names ts (readable_scan l fit.marks source names r)

    refusal_says : (number place : ℕ) (ta ra : List ℕ) → Refusal l source names limit tokens rows number place ta ra → Says number place ta
    refusal_says number place ta ra (too_long long) = says_early 1 0 ta (omega arith)
    refusal_says number place ta ra (bad_names within h) = says_early 2 place ta (omega arith)
    refusal_says number place ta ra (bad_byte a h) = says_early 3 place ta (omega arith)
    refusal_says number place ta ra (open_string a h) = says_early 4 place ta (omega arith)
    refusal_says number place ta ra (few_token_rows r few) = says_early 5 place ta (omega arith)
    refusal_says number place ta ra (no_program {ts = us} r room h) = record {
      six = λ e ts k. subst (λ (vs : List Token). NoProgramOf l source names vs limit place)
          (readable_same l fit.marks source names us ts r k) h;
      seven = λ (e : ◌≡◌ {A = ℕ} 6 7). absurd (omega arith);
      table = λ e. table_of us r;
    }
    refusal_says number place ta ra (too_deep {ts = us} r room h) = record {
      six = λ (e : ◌≡◌ {A = ℕ} 7 6). absurd (omega arith);
      seven = λ e ts k. subst (λ (vs : List Token). TooDeepOf l source names vs limit place)
          (readable_same l fit.marks source names us ts r k) h;
      table = λ e. table_of us r;
    }
    refusal_says number place ta ra (few_tree_rows {ts = us} r room d few) = record {
      six = λ (e : ◌≡◌ {A = ℕ} 8 6). absurd (omega arith);
      seven = λ (e : ◌≡◌ {A = ℕ} 8 7). absurd (omega arith);
      table = λ e. table_of us r;
    }

    -- No. 6 to 8
    found_rows : (ts : List Token) (rs : List Row) → Readable l source names ts → length ts ≤ token_room tokens
        → DerivationOf l source names ts limit rs → (t : Bool) → leb (length rs) (tree_room rows) ≡ t
        → Found (pick t (accept ts rs) (late 8 (length rs) ts))
    found_rows ts rs r room d true t = found_accept r room (leb-true (length rs) (tree_room rows) t) d
    found_rows ts rs r room d false t = found_late (few_tree_rows r room d (leb-false (length rs) (tree_room rows) t))

    found_judged : (ts : List Token) → Readable l source names ts → length ts ≤ token_room tokens
        → (o : Outcome) → read_tokens l limit source names ts ≡ o → Found (judged (tree_room rows) ts o)
    unfolding judged
    found_judged ts r room (ok j rs said) h =
        found_rows ts rs r room ((theorems_of r).sound limit j said rs h).1 (leb (length rs) (tree_room rows)) refl
    found_judged ts r room (stuck i) h = found_late (no_program r room ((theorems_of r).no_program limit i h))
    found_judged ts r room (deep i) h = found_late (too_deep r room ((theorems_of r).too_deep limit i some h))
    found_judged ts r room spent h = absurd ((theorems_of r).unspent limit h)

    -- No. 3 to 5
    found_tokens : (ts : List Token) → Readable l source names ts → (t : Bool) → leb (length ts) (token_room tokens) ≡ t
        → Found (pick t (judged (tree_room rows) ts (read_tokens l limit source names ts)) (early 5 (length ts)))
    found_tokens ts r true t = found_judged ts r (leb-true (length ts) (token_room tokens) t) (read_tokens l limit source names ts) refl
    found_tokens ts r false t = found_early (few_token_rows r (leb-false (length ts) (token_room tokens) t))

    fault_by : {A B : Type 0} (number place : ℕ) → Admitted l source names
        → (scan l.lexical source).ending ≡ fault number place → ((number ≡ 3) × A) ⊎ ((number ≡ 4) × B) → Found (early number place)
    fault_by number place a h (inl (three, b)) =
        rw three (found_early (bad_byte a (fault_tiles l fit.marks source names (rw three at h))))
    fault_by number place a h (inr (four, b)) =
        rw four (found_early (open_string a (fault_tiles l fit.marks source names (rw four at h))))

    found_ending : Admitted l source names → (x : Ending) → (scan l.lexical source).ending ≡ x
        → Found (scanned_tokens l limit source names (token_room tokens) (tree_room rows) (scan l.lexical source).found x)
    unfolding scanned_tokens
    found_ending a (fault number place) h =
        fault_by number place a h (fault-placed l.lexical fit.marks source number place h).reason
    found_ending a clean h =
        let ts = (scan l.lexical source).found in
        found_tokens ts (scan_readable l fit.marks source names a h) (leb (length ts) (token_room tokens)) refl

    -- No. 2
    found_names : length source ≤ source_limit → (c : Checked) → checked l.lexical names ≡ c
        → Found (checked_names c (scanned_tokens l limit source names (token_room tokens) (tree_room rows) (scan l.lexical source).found
        (scan l.lexical source).ending))
    unfolding checked_names
    found_names within Good h = found_ending (record { within = within; good = h }) (scan l.lexical source).ending refl
    found_names within (Checked.Refused number place) h =
        let two = checked_two l.lexical names number place h in
        rw two (found_early (bad_names within (rw two at h)))

    -- No. 1
    found_by : (t : Bool) → ltb source_limit (length source) ≡ t → Found (verdict l limit source names (token_room tokens) (tree_room rows))
    found_by true t =
        let long = ltb-true source_limit (length source) t in
        rw (verdict_long long) (found_early (too_long long))
    found_by false t =
        let within = ltb-false source_limit (length source) t in
        rw (verdict-within within) (found_names within (checked l.lexical names) refl)

    found : Found (verdict l limit source names (token_room tokens) (tree_room rows))
    found = found_by (ltb source_limit (length source)) refl

    verdict-derived : (ts : List Token) (rs : List Row) → Readable l source names ts → length ts ≤ token_room tokens
        → DerivationOf l source names ts limit rs
        → verdict l limit source names (token_room tokens) (tree_room rows)
        ≡ pick (leb (length rs) (tree_room rows)) (accept ts rs) (late 8 (length rs) ts)
    unfolding judged
    verdict-derived ts rs r room d = cases ((theorems_of r).complete limit rs d)
      where
        cases : ReadAs (read_tokens l limit source names ts) (length ts) rs → verdict l limit source names (token_room tokens) (tree_room rows)
            ≡ pick (leb (length rs) (tree_room rows)) (accept ts rs) (late 8 (length rs) ts)
        cases (read_as {said = said} h) = verdict_read ts r room (ok (length ts) rs said) h

    -- a refusal of document 01's table is the verdict, and gives the tables that it says
    refusal_result : (number place : ℕ) (tokensAfter rowsAfter : List ℕ)
        → Refusal l source names limit tokens rows number place tokensAfter rowsAfter
        → answered l limit source names tokens rows ≡ record { answer = Refused number place; tokens = tokensAfter; rows = rowsAfter }
    unfolding answered result scanned_tokens judged checked_names
    refusal_result number place ta ra (too_long long) = rw (verdict_long long)
    refusal_result number place ta ra (bad_names within h) = rw (verdict-within within, h)
    refusal_result number place ta ra (bad_byte a h) = rw (verdict-fault a 3 place (tiles_fault l fit.marks source names h))
    refusal_result number place ta ra (open_string a h) = rw (verdict-fault a 4 place (tiles_fault l fit.marks source names h))
    refusal_result number place ta ra (few_token_rows {ts = ts} r few) =
        rw (verdict-clean ts r, lt-leb (length ts) (token_room tokens) few)
    refusal_result number place ta ra (no_program {ts = ts} r room h) =
        rw (verdict_read ts r room (stuck place) ((theorems_of r).no_program_read limit place some h))
    refusal_result number place ta ra (too_deep {ts = ts} r room h) =
        rw (verdict_read ts r room (deep place) ((theorems_of r).too_deep_read limit place h))
    refusal_result number place ta ra (few_tree_rows {ts = ts} {rs = rs} r room d few) =
        rw (verdict-derived ts rs r room d, lt-leb (length rs) (tree_room rows) few)

    accept-result : (ts : List Token) (rs : List Row) → Readable l source names ts → length ts ≤ token_room tokens
        → length rs ≤ tree_room rows → DerivationOf l source names ts limit rs
        → answered l limit source names tokens rows
        ≡ record { answer = Accepted (length ts) (length rs); tokens = filled source ts tokens; rows = placed rs rows }
    unfolding answered result
    accept-result ts rs r room space d = rw (verdict-derived ts rs r room d, le-leb (length rs) (tree_room rows) space)

    -- what a verdict's result says
    refused_by : (w : Verdict) → Found w → (number place : ℕ) → (result source w tokens rows).answer ≡ Refused number place
        → Refusal l source names limit tokens rows number place (result source w tokens rows).tokens (result source w tokens rows).rows
    unfolding result
    refused_by w (found_early {number = n} {place = p} r) number place h =
        let same : n ≡ number = cc in
        let at : p ≡ place = cc in
        rw (← same, ← at) r
    refused_by w (found_late {number = n} {place = p} r) number place h =
        let same : n ≡ number = cc in
        let at : p ≡ place = cc in
        rw (← same, ← at) r
    refused_by w (found_accept r room space d) number place h = let z : ◌≡◌ {A = ℕ} 0 1 = cc in absurd (omega arith)

    room_by : (ts : List Token) (rs : List Row) → Readable l source names ts → length ts ≤ token_room tokens → length rs ≤ tree_room rows
        → DerivationOf l source names ts limit rs → Room l source names limit tokens rows ts
    room_by ts rs r room space d = record {
      for_tokens = room;
      for_rows = λ (others : List Row) (e : DerivationOf l source names ts limit others).
          let same = (theorems_of r).unique limit limit others rs e d in
          rw same space;
    }

    accepted_by : (w : Verdict) → Found w → (t n : ℕ) → (result source w tokens rows).answer ≡ Accepted t n
        → Acceptance l source names limit tokens rows t n (result source w tokens rows).tokens (result source w tokens rows).rows
    unfolding result
    accepted_by w (found_early r) t n h = let z : ◌≡◌ {A = ℕ} 0 1 = cc in absurd (omega arith)
    accepted_by w (found_late r) t n h = let z : ◌≡◌ {A = ℕ} 0 1 = cc in absurd (omega arith)
    accepted_by w (found_accept {ts = ts} {rs = rs} r room space d) t n h = record {
      token_table = table_of ts r;
      room = room_by ts rs r room space d;
      token_count = cc;
      row_list = rs;
      row_count = cc;
      row_table = refl;
      derived = d;
    }

    -- whatever derivation there is, where a source was accepted, is the one that was accepted
    only_by : (t n : ℕ) (ta ra : List ℕ) (a : Acceptance l source names limit tokens rows t n ta ra) (m : ℕ) (rs : List Row)
        → DerivationOf l source names a.token_table.token_list m rs → rs ≡ a.row_list
    only_by t n ta ra a m rs d = (theorems_of a.token_table.readable).unique m limit rs a.row_list d a.derived

    pub answered_demands : Demands l source names limit tokens rows (answered l limit source names tokens rows)
    unfolding answered
    answered_demands = record {
      demand1 = record {
        refused = refused_by (verdict l limit source names (token_room tokens) (tree_room rows)) found;
        refusal = refusal_result;
      };
      demand2 = record {
        accepted = accepted_by (verdict l limit source names (token_room tokens) (tree_room rows)) found;
        every_byte = λ number place h. (said number place h).table;
      };
      demand3 = record {
        accepts = λ (ts : List Token) (rs : List Row) (k : Readable l source names ts) (room : Room l source names limit tokens rows ts)
            (d : DerivationOf l source names ts limit rs).
            accept-result ts rs k room.for_tokens (room.for_rows rs d) d;
        only = λ t n. only_by t n _ _;
        no_derivation = λ place h ts k n rs. ((said 6 place h).six refl ts k).none n rs;
        none_within = λ place h ts k rs. (theorems_of k).too_deep_none limit place rs ((said 7 place h).seven refl ts k);
      };
    }
      where
        said : (number place : ℕ)
            → (result source (verdict l limit source names (token_room tokens) (tree_room rows)) tokens rows).answer ≡ Refused number place
            → Says number place (result source (verdict l limit source names (token_room tokens) (tree_room rows)) tokens rows).tokens
        said number place h =
            refusal_says number place _ _ (refused_by (verdict l limit source names (token_room tokens) (tree_room rows)) found number place h)

    -- what has the demands is the answer
    pub demands_answered : (r : Result) → Demands l source names limit tokens rows r → r ≡ answered l limit source names tokens rows
    unfolding answered result
    demands_answered r d = cases (verdict l limit source names (token_room tokens) (tree_room rows)) found
      where
        cases : (w : Verdict) → Found w → r ≡ result source w tokens rows
        cases w (found_early {number = number} {place = place} f) = d.demand1.refusal number place tokens rows f
        cases w (found_late {number = number} {place = place} {ts = ts} f) = d.demand1.refusal number place (filled source ts tokens) (cleared rows) f
        cases w (found_accept {ts = ts} {rs = rs} k room space e) =
            d.demand3.accepts ts rs k (room_by ts rs k room space e) e
