-- A pass over a source, lexeme by lexeme, for any edition whose marks are spelled: what holds on the way. Assumes nothing.
use Prim.Native.Nat.{ℕ, ◌+◌, ◌*◌, ◌<◌, ◌≤◌}
use mathlib.Core.Path.{◌≡◌, refl, sym, ◌∙◌, ap}
use mathlib.Core.Bool.{Bool, true, false}
use mathlib.Core.List.{List, [], ◌∷◌, ◌++◌, append-nil, append_assoc}
use native.Mathlib.Omega.{arith}
use native.Mathlib.Nat.{add-zero}
use native.Mathlib.Numerals.{add-one}
use lib.Dec.{eqb, ltb}
use lib.ListN.{length, drop, get_or, length-append, length-drop}
use lib.Seq.{sets}
use borrow.Author.Tests.{eqb-true, ltb-true, ltb-false}
use Rattle.lexer.specs.Tests.{and, or, pick}
use Rattle.lexer.specs.Bytes.{is_space}
use Rattle.lexer.specs.Editions.{Edition}
use Rattle.lexer.specs.Lexemes.{Lexeme, End, Skipped, BadByte, OpenString, lexeme, Token as AToken}
use Rattle.lexer.specs.Tokens.{Token}
use Rattle.lexer.specs.Table.{token_width, token_room, token_row, kept}
use Rattle.lexer.specs.executable.Scans.{Scan, with_token, scan}
use Rattle.lexer.specs.internal.Leaves.{blank, written}
use Rattle.lexer.specs.internal.Tokenized.{ended_with, scanned, ended_by}
use Rattle.lexer.proofs.Laws.Fronts.{front_one}
use Rattle.lexer.proofs.Laws.Sizes.{spelled, of_token, of_skip, proper}
use Rattle.lexer.proofs.Laws.Scans.{scan_from, scan_from_start, scan_end, scan_skip, scan_token, scan_bad, scan_open}
use Rattle.lexer.proofs.Laws.Gaps.{space_passed}
use Rattle.lexer.proofs.Laws.Packed.{Ends, ends_clean, ends_bad, ends_open}
use Rattle.lexer.proofs.Laws.Rows.{kept-none, kept_room, kept_more, kept_full}

-- some tokens before those of a scan
abbrev pub with_tokens : List Token → Scan → Scan
with_tokens ts x = record { found = ts ++ x.found; ending = x.ending }

-- What a pass has done when it has come to a place: it has met some tokens, those of the bytes before; it has counted them; and the
-- table, which was lent as `before`, holds as many of them as it has rows for.
pub record Passed (e : Edition) (s before after : List ℕ) (at count : ℕ) : Type 0 where
  pub met : List Token
  pub counts : length met ≡ count
  pub inside : at ≤ length s
  pub few : count ≤ at
  pub rest : scan e s ≡ with_tokens met (scan_from e s at)
  pub rows : after ≡ kept s met before

module _ (s before : List ℕ) (met : List Token) (t : Token) where
  -- one token more
  written-kept_by : (room : Bool) → ltb (length met) (token_room before) ≡ room
      → pick room (sets (kept s met before) (length met * token_width) (token_row s t)) (kept s met before) ≡ kept s (met ++ (t ∷ [])) before
  written-kept_by true h = kept_more s met t before (ltb-true _ _ h)
  written-kept_by false h = sym (kept_full s met t before (ltb-false _ _ h))

  written-kept : written (kept s met before) (length met) (token_row s t) ≡ kept s (met ++ (t ∷ [])) before
  written-kept = rw (kept_room s met before) (written-kept_by (ltb (length met) (token_room before)) refl)

-- so many bytes at a place are some, and inside
pub record Reaches (s : List ℕ) (at n : ℕ) : Type 0 where
  pub some : 0 < n
  pub inside : at + n ≤ length s

module _ (e : Edition) (good : spelled e.marks ≡ true) (s : List ℕ) (at n : ℕ) (inside : at ≤ length s) where
  pub token_reaches : (k : ℕ) → AToken k n ≡ lexeme e (drop at s) → Reaches s at n
  token_reaches k is =
      let facts = of_token (rw (← is) at (proper e good (drop at s))) in
      let within = facts.within in
      let left = length-drop at s in
      record { some = facts.some; inside = omega arith }

  pub skip_reaches : Skipped n ≡ lexeme e (drop at s) → Reaches s at n
  skip_reaches is =
      let facts = of_skip (rw (← is) at (proper e good (drop at s))) in
      let within = facts.1 in
      let left = length-drop at s in
      record { some = facts.0; inside = omega arith }

module _ (e : Edition) (good : spelled e.marks ≡ true) (s before : List ℕ) where
  pub pass_start : Passed e s before before 0 0
  pass_start = record {
    met = [];
    counts = refl;
    inside = omega arith;
    few = omega arith;
    rest = sym (scan_from_start e s);
    rows = sym (kept-none s before);
  }

  module _ (after : List ℕ) (at count : ℕ) (so_far : Passed e s before after at count) where
    -- a space
    pass_space : at < length s → is_space (get_or s at 0) ≡ true → Passed e s before after (at + 1) count
    unfolding scan_from
    pass_space below space =
        let few = so_far.few in
        record {
          met = so_far.met;
          counts = so_far.counts;
          inside = omega arith;
          few = omega arith;
          rest = so_far.rest ∙ ap (with_tokens so_far.met) (rw (front_one s at below, add-one at) (space_passed e good at _ _ space));
          rows = so_far.rows;
        }

    -- a blank, where a test looks for it
    pass_blank_by : (t : Bool) → at < length s → eqb (get_or s at 0) blank ≡ t → Passed e s before after (at + pick t 1 0) count
    unfolding is_space or
    pass_blank_by true below here = pass_space below (rw (eqb-true (get_or s at 0) blank here))
    pass_blank_by false below here = rw (add-zero at) so_far

    pub pass_blank : (bounded : Bool) → (bounded ≡ true → at < length s)
        → Passed e s before after (at + pick (and bounded (eqb (get_or s at 0) blank)) 1 0) count
    unfolding and
    pass_blank true below = pass_blank_by _ (below refl) refl
    pass_blank false below = rw (add-zero at) so_far

    -- what is skipped
    pub pass_skip : (n : ℕ) → at + n ≤ length s → lexeme e (drop at s) ≡ Skipped n → Passed e s before after (at + n) count
    pass_skip n inside h =
        let few = so_far.few in
        record {
          met = so_far.met;
          counts = so_far.counts;
          inside = inside;
          few = omega arith;
          rest = so_far.rest ∙ ap (with_tokens so_far.met) (scan_skip e good s at n h);
          rows = so_far.rows;
        }

    -- a token
    pub pass_token : (k n : ℕ) → 0 < n → at + n ≤ length s → lexeme e (drop at s) ≡ AToken k n
        → (numbers : List ℕ) → numbers ≡ token_row s (record { kind = k; start = at; size = n })
        → Passed e s before (written after count numbers) (at + n) (count + 1)
    unfolding with_token
    pass_token k n some inside h numbers is_row =
        let few = so_far.few in
        let counts = so_far.counts in
        let t : Token = record { kind = k; start = at; size = n } in
        let l = length-append so_far.met (t ∷ []) in
        record {
          met = so_far.met ++ (t ∷ []);
          counts = omega arith;
          inside = inside;
          few = omega arith;
          rest =
              so_far.rest
              ∙ ap (with_tokens so_far.met) (scan_token e good s at k n h)
              ∙ ap (λ (ts : List Token). record { found = ts; ending = (scan_from e s (at + n)).ending }) (sym (append_assoc so_far.met (t ∷ []) _));
          rows = rw (so_far.rows, is_row, ← counts) (written-kept s before so_far.met t);
        }

    -- the end, or a fault
    pub record Ended (l : Lexeme) : Type 0 where
      pub says : scanned (scan e s) ≡ ended_by l at count
      pub leaves : after ≡ kept s (scan e s).found before

    ended_by_lem : (x : Scan) (l : Lexeme) → scan_from e s at ≡ x → x.found ≡ [] → ended_with count x.ending ≡ ended_by l at count → Ended l
    unfolding scanned
    ended_by_lem x l from none says =
        let whole : scan e s ≡ with_tokens so_far.met x = so_far.rest ∙ ap (with_tokens so_far.met) from in
        let all : (scan e s).found ≡ so_far.met = ap (λ (y : Scan). y.found) whole ∙ rw none (append-nil so_far.met) in
        record {
          says = rw (all, so_far.counts) (ap (λ (y : Scan). ended_with count y.ending) whole ∙ says);
          leaves = so_far.rows ∙ ap (λ (ts : List Token). kept s ts before) (sym all);
        }

    pub pass_ended : (l : Lexeme) → Ends l → lexeme e (drop at s) ≡ l → Ended l
    unfolding ended_with ended_by
    pass_ended End ends_clean h = ended_by_lem _ End (scan_end e good s at h) refl refl
    pass_ended BadByte ends_bad h = ended_by_lem _ BadByte (scan_bad e good s at h) refl refl
    pass_ended OpenString ends_open h = ended_by_lem _ OpenString (scan_open e good s at h) refl refl
    pass_ended (Skipped _) n h = elim n [ ]
    pass_ended (AToken _ _) n h = elim n [ ]
