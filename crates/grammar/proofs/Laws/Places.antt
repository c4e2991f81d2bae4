-- Where a reading is refused, for a table that passes the tests, said without the reading: 6 is at the furthest place that partial
-- derivations reach at any depth, 7 at the furthest within the levels, where some depth takes the token there; and whatever place is
-- such a one is the reading's. 6 is at a token or at the end of the tokens, 7 is at a token. Assumes nothing.
use Prim.Native.Nat.{ℕ, suc, ◌*◌, ◌≤◌, ◌<◌, max}
use mathlib.Core.Path.{◌≡◌, refl, subst}
use mathlib.Core.Bool.{true, false}
use mathlib.Core.List.{List}
use native.Mathlib.Omega.{arith}
use Rattle.lexer.specs.Tests.{among}
use Rattle.lexer.proofs.Laws.Tests.{and_left, and_right}
use Rattle.tree.specs.TreeTable.{Row}
use Rattle.grammar.specs.Grammars.{end_of_tokens, Symbol, Production, Names, View, agrees}
use Rattle.grammar.specs.Derivations.{Derives, Derivation, derivation}
use Rattle.grammar.specs.Reaches.{Reaches, stops, takes, meets, enters, leaves, Reached, NoProgram, TooDeep}
use Rattle.grammar.specs.executable.Reading.{Outcome, ok, stuck, deep, spent, breadth, whole, reading}
use Rattle.grammar.proofs.Laws.Checks.{Hints, every, has_no_end, falls, Passes}
use Rattle.grammar.proofs.Laws.CheckLaws.{every_has}
use Rattle.grammar.proofs.Laws.Follow.{Steady}
use Rattle.grammar.proofs.Laws.Outcomes.{Ends, ends_ok, ends_stuck, ends_deep}
use Rattle.grammar.proofs.Laws.Grows.{grows_ok, grows_stuck}
use Rattle.grammar.proofs.Laws.Fuel.{falls_of}
use Rattle.grammar.proofs.Laws.Readings.{Counted, takes_inside, derives_within, reading_sound, reading_unspent, reading_grows}
use Rattle.grammar.proofs.Laws.Readings.{start_flows, stuck_none}
use Rattle.grammar.proofs.Laws.Sound.{comes}
use Rattle.grammar.proofs.Laws.Reaches.{derives_reaches, reaches_wider, From, flows_alone, no_further}
use Rattle.grammar.proofs.Laws.Beyond.{Beyond, beyond, deep-beyond}

-- the end of the tokens takes no token
module _ {g : List Production} {v : View} {e : Names} {n x : ℕ} where
  whole_reached : {p : ℕ} → Reached g v e x n p → Reaches g v e n (whole x) 0 p
  whole_reached stops = stops
  whole_reached (enters has of fits r) = enters has of fits r
  whole_reached (leaves has of fits d stops) = leaves has of fits d stops

  reached_whole : {p : ℕ} → Reaches g v e n (whole x) 0 p → Reached g v e x n p
  reached_whole stops = stops
  reached_whole (enters has of fits r) = enters has of fits r
  reached_whole (leaves has of fits d stops) = leaves has of fits d stops
  reached_whole (leaves has of fits d (meets t stops)) = leaves has of fits d stops

-- no partial derivation goes past the last token
module _ (g : List Production) (v : View) (h : Hints) (w count : ℕ) (falling : every (falls h w) g ≡ true) (tokens : Counted v count) where
  reaches_within : {e : Names} {n i p : ℕ} {ss : List Symbol} → Reaches g v e n ss i p → has_no_end ss ≡ true → i ≤ count → p ≤ count
  unfolding has_no_end
  reaches_within stops a l = l
  reaches_within (takes {e = e} {i = i} {cs = cs} {ss = ss} t r) a l =
      reaches_within r (and_right (agrees false (among cs end_of_tokens)) (has_no_end ss) a)
      (takes_inside v count tokens e i cs (and_left (agrees false (among cs end_of_tokens)) (has_no_end ss) a) t)
  reaches_within (meets t r) a l = reaches_within r a l
  reaches_within (enters {q = q} has of fits r) a l =
      reaches_within r (falls_of h w q (every_has (falls h w) g q falling has)).no_end l
  reaches_within (leaves {q = q} has of fits d r) a l =
      let right = (falls_of h w q (every_has (falls h w) g q falling has)).no_end in
      reaches_within r a (derives_within g v h w count falling tokens d right l)

-- For a table g whose start is x and which passes the tests, with any hints h, and for the tokens of a view v.
module _ (g : List Production) (h : Hints) (bound x : ℕ) (tests : Passes g h bound x)
    (v : View) (count : ℕ) (steady : Steady v h bound) (tokens : Counted v count) (e : Names) where
  -- where the reading stops, it has come
  reading_comes : (n : ℕ) (o : Outcome) → reading g v count e n x ≡ o
      → Ends (Derives g v e n (whole x) 0) (Reaches g v e n (whole x) 0) (Reaches g v e n (whole x) 0) Unit o
  unfolding reading
  reading_comes n o r =
      subst (Ends (Derives g v e n (whole x) 0) (Reaches g v e n (whole x) 0) (Reaches g v e n (whole x) 0) Unit) r
      (comes g v (suc count * suc (breadth g)) e n (whole x) 0)

  -- and nothing within the same levels comes further
  reading_furthest : (n p : ℕ) (o : Outcome) → reading g v count e n x ≡ o → Reached g v e x n p → From p o
  unfolding reading
  reading_furthest n p o r reached =
      subst (From p) r (no_further g v h bound tests.closed steady (suc count * suc (breadth g)) (whole_reached reached)
      (flows_alone g v h bound tests.closed steady _ (whole x) (start_flows g h bound x tests v count steady tokens e)))

  -- an ok or a stuck is that at every depth, so that nothing at any depth comes further
  ok_furthest : (n j said : ℕ) (rows : List Row) → reading g v count e n x ≡ ok j rows said → (m p : ℕ) → Reached g v e x m p → p ≤ j
  ok_furthest n j said rows r m p reached =
      let still = grows_ok (rw r at (reading_grows g h bound x tests v count steady tokens e n (max n m) (omega arith))) in
      ends_ok (reading_furthest (max n m) p (ok j rows said) still (reaches_wider (max n m) (omega arith) reached))

  stuck_furthest : (n i : ℕ) → reading g v count e n x ≡ stuck i → (m p : ℕ) → Reached g v e x m p → p ≤ i
  stuck_furthest n i r m p reached =
      let still = grows_stuck (rw r at (reading_grows g h bound x tests v count steady tokens e n (max n m) (omega arith))) in
      ends_stuck (reading_furthest (max n m) p (stuck i) still (reaches_wider (max n m) (omega arith) reached))

  deep_furthest : (n i : ℕ) → reading g v count e n x ≡ deep i → (p : ℕ) → Reached g v e x n p → p ≤ i
  deep_furthest n i r p reached = ends_deep (reading_furthest n p (deep i) r reached)

  deep_further : (n i : ℕ) → 1 ≤ n → reading g v count e n x ≡ deep i → Beyond g v e (whole x) 0 i
  unfolding reading
  deep_further n i some r = deep-beyond g h bound x tests v steady (suc count * suc (breadth g)) e n i some r

  -- Where the reading is stuck there is no program, ..
  pub stuck_no_program : (n i : ℕ) → reading g v count e n x ≡ stuck i → NoProgram g v count e x n i
  stuck_no_program n i r = record {
    none = λ (m : ℕ) (rows : List Row). stuck_none g h bound x tests v count steady tokens e n i m rows r;
    reached = reached_whole (ends_stuck (reading_comes n (stuck i) r));
    furthest = λ (m p : ℕ) (d : Reached g v e x m p). let most = stuck_furthest n i r m p d in omega arith;
  }

  -- .. and where it is too deep, that.
  pub deep_too_deep : (n i : ℕ) → 1 ≤ n → reading g v count e n x ≡ deep i → TooDeep g v count e x n i
  deep_too_deep n i some r = cases (deep_further n i some r)
    where
      cases : Beyond g v e (whole x) 0 i → TooDeep g v count e x n i
      cases (beyond {m = m} d) = record {
        reached = reached_whole (ends_deep (reading_comes n (deep i) r));
        furthest = deep_furthest n i r;
        depth = m;
        deeper = reached_whole d;
      }

  -- A place where there is no program is where the reading is stuck, ..
  pub no_program_stuck : (n place : ℕ) → 1 ≤ n → NoProgram g v count e x n place → reading g v count e n x ≡ stuck place
  no_program_stuck n place some refusal = cases (reading g v count e n x) refl
    where
      cases : (o : Outcome) → reading g v count e n x ≡ o → o ≡ stuck place
      cases (ok j rows said) r = absurd (refusal.none n rows (reading_sound g h bound x tests v count steady tokens e n j said rows r).1)
      cases (stuck i) r =
          let least = refusal.furthest n i (reached_whole (ends_stuck (reading_comes n (stuck i) r))) in
          let most = stuck_furthest n i r n place refusal.reached in
          let at : i ≡ place = omega arith in
          cc
      cases (deep i) r = further (deep_further n i some r)
        where
          further : Beyond g v e (whole x) 0 i → deep i ≡ stuck place
          further (beyond {m = m} d) =
              let least = refusal.furthest m (suc i) (reached_whole d) in
              let most = deep_furthest n i r place refusal.reached in
              absurd (omega arith)
      cases spent r = absurd (reading_unspent g h bound x tests v count steady tokens e n r)

  -- .. and one that is too deep is where the reading is.
  pub too_deep-deep : (n place : ℕ) → TooDeep g v count e x n place → reading g v count e n x ≡ deep place
  too_deep-deep n place refusal = cases (reading g v count e n x) refl
    where
      cases : (o : Outcome) → reading g v count e n x ≡ o → o ≡ deep place
      cases (ok j rows said) r =
          let least = refusal.furthest j (reached_whole (derives_reaches (ends_ok (reading_comes n (ok j rows said) r)))) in
          let most = ok_furthest n j said rows r refusal.depth (suc place) refusal.deeper in
          absurd (omega arith)
      cases (stuck i) r =
          let least = refusal.furthest i (reached_whole (ends_stuck (reading_comes n (stuck i) r))) in
          let most = stuck_furthest n i r refusal.depth (suc place) refusal.deeper in
          absurd (omega arith)
      cases (deep i) r =
          let least = refusal.furthest i (reached_whole (ends_deep (reading_comes n (deep i) r))) in
          let most = deep_furthest n i r place refusal.reached in
          let at : i ≡ place = omega arith in
          cc
      cases spent r = absurd (reading_unspent g h bound x tests v count steady tokens e n r)

  -- A place that is reached is at a token or at the end of the tokens.
  reached_within : {n p : ℕ} → Reached g v e x n p → p ≤ count
  unfolding has_no_end
  reached_within r = reaches_within g v h (suc (breadth g)) count tests.falling tokens r refl (omega arith)

  -- "6: token index, or the token count at the end"
  pub no_program_at : (n place : ℕ) → NoProgram g v count e x n place → place ≤ count
  no_program_at n place refusal = reached_within refusal.reached

  -- "7: token index"
  pub too_deep_at : (n place : ℕ) → TooDeep g v count e x n place → place < count
  too_deep_at n place refusal = reached_within refusal.deeper

  -- Where it is too deep there is no derivation within the levels, for that would reach the end of the tokens.
  pub too_deep_none : (n place : ℕ) (rows : List Row) → TooDeep g v count e x n place → Derivation g v count e n x rows → ⊥
  too_deep_none n place rows refusal (derivation d) =
      let end = refusal.furthest count (derives_reaches d) in
      let at = too_deep_at n place refusal in
      absurd (omega arith)
