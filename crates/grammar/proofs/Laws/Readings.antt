-- The theorems about readings and derivations of token lists, for any table that passes the tests. Assumes nothing.
use Prim.Native.Nat.{ℕ, zero, suc, ◌+◌, ◌*◌, ◌≤◌, ◌<◌, max}
use mathlib.Core.Path.{◌≡◌, refl, sym, ◌∙◌, subst}
use mathlib.Core.Bool.{true, false}
use mathlib.Core.List.{List, [], ◌∷◌}
use native.Mathlib.Omega.{arith}
use lib.Dec.{eqb, eqb-zero-suc}
use lib.ListN.{length}
use borrow.Author.Tests.{eqb-true}
use Rattle.lexer.specs.Tests.{and, or, among}
use Rattle.lexer.proofs.Laws.Tests.{and_left, and_right, or_else_lem}
use Rattle.tree.specs.TreeTable.{Row}
use Rattle.grammar.specs.Grammars.{end_of_tokens, next, Symbol, derived, when, Production, Names, View, agrees, asked, met}
use Rattle.grammar.specs.Derivations.{Derives, end, taken, held, entered, Derivation, derivation}
use Rattle.grammar.specs.executable.First.{allows, skips, starts}
use Rattle.grammar.specs.executable.Reading.{Outcome, ok, stuck, spent, breadth, whole, read_within, reading}
use Rattle.grammar.proofs.Laws.Checks.{Hints, has_no_end, implies, every, may, flows, falls, Passes}
use Rattle.grammar.proofs.Laws.CheckLaws.{and_both, implies_by, every_has}
use Rattle.grammar.proofs.Laws.Follow.{Steady, Flows}
use Rattle.grammar.proofs.Laws.Complete.{complete, agrees_ok}
use Rattle.grammar.proofs.Laws.Sound.{sound}
use Rattle.grammar.proofs.Laws.Grows.{Grows, by_levels, grows_stuck, grows_unspent, more_fuel, more-levels, derives_wider}
use Rattle.grammar.proofs.Laws.Fuel.{not_end, falls_of, never_spent}
use Rattle.grammar.proofs.Laws.Forests.{rows_few}

-- a view of so many tokens: the class is 0 past the last of them, and only there
pub record Counted (v : View) (count : ℕ) : Type 0 where
  pub past : (e : Names) (i : ℕ) → count ≤ i → v.class e i ≡ end_of_tokens
  pub inside : (e : Names) (i : ℕ) → i < count → v.class e i ≡ end_of_tokens → ⊥

-- the end of the tokens, as the condition that a reading ends with
module _ (v : View) (e : Names) (j : ℕ) where
  at-end : v.class e j ≡ end_of_tokens → met v e j true (next (end_of_tokens ∷ [])) ≡ true
  unfolding met agrees asked among or
  at-end h = rw h refl

  ended_at : met v e j true (next (end_of_tokens ∷ [])) ≡ true → v.class e j ≡ end_of_tokens
  unfolding met agrees asked among
  ended_at t =
      or_else_lem (eqb end_of_tokens (v.class e j)) false (λ (q : eqb end_of_tokens (v.class e j) ≡ true). sym (eqb-true end_of_tokens (v.class e j) q))
      (λ (q : false ≡ true). let z : ◌≡◌ {A = ℕ} 0 1 = cc in absurd (omega arith)) t

-- what may come at the end, where only the end of the tokens is asked for
may-end : (g : List Production) (c : ℕ) → may g c true (when (next (end_of_tokens ∷ [])) ∷ []) ≡ true → c ≡ end_of_tokens
unfolding may starts skips allows agrees among and or
may-end g zero m = refl
may-end g (suc c) m =
    let no = rw eqb-zero-suc at m in
    let z : ◌≡◌ {A = ℕ} 0 1 = cc in
    absurd (omega arith)

-- a nonterminal derived up to the end of the tokens, and back
whole_of : {g : List Production} {v : View} {e : Names} {n x j said : ℕ} {rows : List Row} → Derives g v e n (derived x ∷ []) 0 j rows said
    → v.class e j ≡ end_of_tokens → Derives g v e n (whole x) 0 j rows said
whole_of {v = v} {e = e} {j = j} (entered has of fits inner end) h = entered has of fits inner (held (at-end v e j h) end)

of_whole : {g : List Production} {v : View} {e : Names} {n x j said : ℕ} {rows : List Row} → Derives g v e n (whole x) 0 j rows said
    → (Derives g v e n (derived x ∷ []) 0 j rows said) × (v.class e j ≡ end_of_tokens)
of_whole {v = v} {e = e} {j = j} (entered has of fits inner (held t end)) = (entered has of fits inner end, ended_at v e j t)

-- a token that is taken is one of the tokens
pub takes_inside : (v : View) (count : ℕ) → Counted v count → (e : Names) (i : ℕ) (cs : List ℕ) → agrees false (among cs end_of_tokens) ≡ true
    → among cs (v.class e i) ≡ true → i < count
takes_inside v count tokens e i cs a t =
    let inside : ¬ (count ≤ i) = λ (z : count ≤ i). not_end cs (v.class e i) a t (tokens.past e i z) in
    omega arith

-- no derivation goes past the last token
module _ (g : List Production) (v : View) (h : Hints) (w count : ℕ) (falling : every (falls h w) g ≡ true) (tokens : Counted v count) where
  pub derives_within : {e : Names} {n i j said : ℕ} {ss : List Symbol} {rows : List Row} → Derives g v e n ss i j rows said
      → has_no_end ss ≡ true → i ≤ count → j ≤ count
  unfolding has_no_end
  derives_within end a l = l
  derives_within (taken {e = e} {i = i} {cs = cs} {ss = ss} t d) a l =
      derives_within d (and_right (agrees false (among cs end_of_tokens)) (has_no_end ss) a)
      (takes_inside v count tokens e i cs (and_left (agrees false (among cs end_of_tokens)) (has_no_end ss) a) t)
  derives_within (held t d) a l = derives_within d a l
  derives_within (entered {p = p} has of fits inner rest) a l =
      let right = (falls_of h w p (every_has (falls h w) g p falling has)).no_end in
      derives_within rest a (derives_within inner right l)

-- For a table g whose start is x and which passes the tests, with any hints h, and for the tokens of a view v.
module _ (g : List Production) (h : Hints) (bound x : ℕ) (tests : Passes g h bound x)
    (v : View) (count : ℕ) (steady : Steady v h bound) (tokens : Counted v count) (e : Names) where
  -- 1. Sound: what is read is all of the tokens, and a derivation with those rows, within the levels.
  pub reading_sound : (n j said : ℕ) (rows : List Row) → reading g v count e n x ≡ ok j rows said
      → (j ≡ count) × (Derivation g v count e n x rows)
  unfolding reading has_no_end
  reading_sound n j said rows r =
      let (d, ended) = of_whole (sound g v (suc count * suc (breadth g)) e n (whole x) 0 j rows said r) in
      let most = derives_within g v h (suc (breadth g)) count tests.falling tokens d refl (omega arith) in
      let least : ¬ (j < count) = λ (l : j < count). tokens.inside e j l ended in
      let all : j ≡ count = omega arith in
      (all, derivation (subst (λ (k : ℕ). Derives g v e n (derived x ∷ []) 0 k rows said) all d))

  -- what comes after the start may follow it
  pub start_flows : Flows g v h bound tests.closed steady (λ (c : ℕ). true) (whole x)
  unfolding flows
  start_flows c l =
      and_both (implies (may g c true (when (next (end_of_tokens ∷ [])) ∷ [])) (h.follow x c)) true
      (implies_by _ (h.follow x c) (λ (m : may g c true (when (next (end_of_tokens ∷ [])) ∷ []) ≡ true).
      rw (may-end g c m) tests.ended)) refl

  -- 5. The explicit fuel suffices.
  pub reading_unspent : (n : ℕ) → reading g v count e n x ≡ spent → ⊥
  reading_unspent n = never_spent g v h count tokens.past x tests.start tests.falling e n

  -- 2. Complete: a derivation within the levels is what is read, with exactly its rows.
  pub reading_complete : (n said : ℕ) (rows : List Row) → Derives g v e n (derived x ∷ []) 0 count rows said
      → reading g v count e n x ≡ ok count rows said
  unfolding reading
  reading_complete n said rows d =
      let whole = whole_of d (tokens.past e count (omega arith)) in
      agrees_ok (complete g v h bound tests.closed steady whole (λ (c : ℕ). true) start_flows refl (suc count * suc (breadth g))) (reading_unspent n)

  -- 3. Unique: any two derivations, at whatever depths, have the same rows.
  pub derivations_same : (n m : ℕ) (rows others : List Row) → Derivation g v count e n x rows → Derivation g v count e m x others
      → rows ≡ others
  derivations_same n m rows others (derivation {said = said} d) (derivation {said = later} k) =
      let one = reading_complete (max n m) said rows (derives_wider g v (max n m) (omega arith) d) in
      let two = reading_complete (max n m) later others (derives_wider g v (max n m) (omega arith) k) in
      cc

  -- 4. More fuel changes nothing: what some fuel reads, if it is not spent, is the reading.
  pub reading_from : (fuel n : ℕ) (o : Outcome) → read_within g v fuel e n (whole x) 0 ≡ o → (o ≡ spent → ⊥) → reading g v count e n x ≡ o
  unfolding reading
  reading_from fuel n o r unspent =
      let enough = suc count * suc (breadth g) in
      let some = more_fuel g v fuel (max fuel enough) (omega arith) e n (whole x) 0 in
      let all = more_fuel g v enough (max fuel enough) (omega arith) e n (whole x) 0 in
      sym (grows_unspent all (reading_unspent n)) ∙ grows_unspent some (rw r unspent) ∙ r

  -- More levels never change an ok or a stuck.
  pub reading_grows : (n m : ℕ) → n ≤ m → Grows by_levels (reading g v count e n x) (reading g v count e m x)
  unfolding reading
  reading_grows n m l = more-levels g v (suc count * suc (breadth g)) n m l e (whole x) 0

  -- Stuck at some limit: there is no derivation at any depth.
  pub stuck_none : (n i m : ℕ) (rows : List Row) → reading g v count e n x ≡ stuck i → Derivation g v count e m x rows → ⊥
  stuck_none n i m rows r (derivation {said = said} d) =
      let all = reading_complete (max n m) said rows (derives_wider g v (max n m) (omega arith) d) in
      let still = grows_stuck (rw r at (reading_grows n (max n m) (omega arith))) in
      let z : ◌≡◌ {A = ℕ} 0 1 = cc in
      absurd (omega arith)

  -- 6. There are at most two rows for each token, and one more.
  pub derivation_few : (n : ℕ) (rows : List Row) → Derivation g v count e n x rows → length rows ≤ 2 * count + 1
  derivation_few n rows (derivation d) = rows_few h tests.few tests.once d
