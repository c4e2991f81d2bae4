-- A reader that is lent only the whole rows of a tree table: what it puts stands in the table, and the numbers past the last whole
-- row are as they were. Assumes nothing.
use Prim.Native.Nat.{ℕ, suc, ◌+◌, ◌*◌, ◌<◌, ◌≤◌}
use mathlib.Core.Path.{◌≡◌, refl, sym, ◌∙◌, ap}
use mathlib.Core.Bool.{Bool, true, false, false≢true}
use mathlib.Core.List.{List, [], ◌∷◌, ◌++◌}
use native.Mathlib.Omega.{arith}
use lib.Dec.{ltb}
use lib.ListN.{length, take, drop, set, length-append, length-drop, length-set, length-replicate, take-append-drop}
use lib.Seq.{sets, set-append_left, length-take-le, drop_at}
use borrow.Author.Tests.{ltb-true}
use Rattle.std.specs.Prelude.{Result, Ok, Err, is_err}
use Rattle.lexer.specs.Tests.{pick}
use Rattle.lexer.specs.internal.RefusalNumbers.{reason_number}
use Rattle.lexer.specs.declared.refusals.Refusal.{Refusal}
use Rattle.tree.specs.TreeTable.{Row, tree_width, tree_room, tree_row, cleared}
use Rattle.tree.specs.internal.Trees.{put_row, put}
use Rattle.tree.proofs.Laws.Trees.{length-put_row, length-put}
use Rattle.grammar.specs.Grammars.{Symbol, Production, Names, View}
use Rattle.parser.specs.internal.Readings.{Reads, read, refused6, refused7, refused_before}
use Rattle.parser.specs.internal.Steps.{Step, Read, Refused, step_of}
use Rattle.parser.specs.declared.Place.{Place}

-- numbers written inside the front of a table leave what follows it
sets_front : (front rest : List ℕ) (i : ℕ) (vs : List ℕ) → i + length vs ≤ length front → sets (front ++ rest) i vs ≡ sets front i vs ++ rest
sets_front front rest i [] inside = refl
sets_front front rest i (v ∷ vs) inside =
    let l = length-set front i v in
    ap (λ (t : List ℕ). sets t (suc i) vs) (set-append_left front rest i v (omega arith)) ∙ sets_front (set front i v) rest (suc i) vs (omega arith)

module _ (rest : List ℕ) (short : length rest < tree_width) where
  -- the front has whole rows, and what follows it is less than a row
  front_room : (front : List ℕ) (n : ℕ) → length front ≡ n * tree_width → tree_room (front ++ rest) ≡ tree_room front
  front_room front n whole = let l = length-append front rest in omega arith

  put_row_front : (r n : ℕ) (x : Row) (front : List ℕ) → length front ≡ n * tree_width → put_row r x (front ++ rest) ≡ put_row r x front ++ rest
  unfolding put_row
  put_row_front r n x front whole = rw (front_room front n whole) (by_room (ltb r (tree_room front)) refl)
    where
      by_room : (t : Bool) → ltb r (tree_room front) ≡ t
          → pick t (sets (front ++ rest) (r * tree_width) (tree_row x)) (front ++ rest) ≡ pick t (sets front (r * tree_width) (tree_row x)) front ++ rest
      by_room true q = let inside : r < tree_room front = ltb-true r (tree_room front) q in sets_front front rest (r * tree_width) (tree_row x) (omega arith)
      by_room false q = refl

  put_front : (r n : ℕ) (xs : List Row) (front : List ℕ) → length front ≡ n * tree_width → put r xs (front ++ rest) ≡ put r xs front ++ rest
  unfolding put
  put_front r n [] front whole = refl
  put_front r n (x ∷ xs) front whole =
      ap (put (suc r) xs) (put_row_front r n x front whole)
      ∙ put_front (suc r) n xs (put_row r x front) (length-put_row r x front ∙ whole)

length-cleared : (table : List ℕ) → length (cleared table) ≡ length table
unfolding cleared
length-cleared table =
    let zeros = length-replicate {0} {A = ℕ} (tree_room table * tree_width) 0 in
    simp (length-append, length-drop) (omega arith)

-- a table, its whole rows and then the numbers past them
module _ (table : List ℕ) where
  abbrev end : ℕ
  end = tree_room table * tree_width

  end-inside : end ≤ length table
  end-inside = omega arith

  past_short : length (drop end table) < tree_width
  past_short = let l = length-drop end table in omega arith

  put_whole : (r : ℕ) (xs : List Row) → put r xs (take end table) ++ drop end table ≡ put r xs table
  put_whole r xs =
      sym (put_front (drop end table) past_short r (tree_room table) xs (take end table) (length-take-le end table end-inside))
      ∙ ap (put r xs) (take-append-drop end table)

  -- the whole rows cleared, whatever they held
  cleared-whole : (after : List ℕ) → length after ≡ length (take end table) → cleared (after ++ drop end table) ≡ cleared table
  unfolding cleared
  cleared-whole after same =
      let l = length-take-le end table end-inside in
      let here : length after ≡ end = omega arith in
      let both = length-append after (drop end table) in
      let past = length-drop end table in
      let room : tree_room (after ++ drop end table) ≡ tree_room table = omega arith in
      rw (room, drop_at after (drop end table) end here)

  -- .. and after rows were put into them
  pub cleared-put : (r : ℕ) (xs : List Row) → cleared (put r xs table) ≡ cleared table
  cleared-put r xs = ap cleared (sym (put_whole r xs)) ∙ cleared-whole (put r xs (take end table)) (length-put r xs (take end table))

-- what a reader of some symbols reads into the whole rows, and what it refuses
module _ {g : List Production} {v : View} {count : ℕ} {e : Names} {n least more : ℕ} {ss : List Symbol} (table : List ℕ) (size : ℕ)
    (is-end : size ≡ end table) where
  read_into : {from to : Step} {front after : List ℕ} → Reads g v count e n least more ss from front to after
      → front ≡ take size table → (j k : ℕ) → to ≡ Read j k → Reads g v count e n least more ss from table to (after ++ drop size table)
  read_into {after = after} (read {i} {r} {j} {k} {rows} gives enough there far inside few) lent j' k' h =
      let whole : after ++ drop size table ≡ put r rows table = rw (there, lent, is-end) (put_whole table r rows) in
      read {i = i} {r = r} {j = j} {k = k} {rows = rows} gives enough whole far inside few
  read_into (refused6 gives same) lent j k h = let z : ◌≡◌ {A = ℕ} 0 1 = cc in absurd (omega arith)
  read_into (refused7 gives same) lent j k h = let z : ◌≡◌ {A = ℕ} 0 1 = cc in absurd (omega arith)
  read_into (refused_before same) lent j k h = let z : ◌≡◌ {A = ℕ} 0 1 = cc in absurd (omega arith)

  -- a refusal leaves a table of the same length, and says the same of any other
  refused_length : {from to : Step} {front after : List ℕ} → Reads g v count e n least more ss from front to after
      → front ≡ take size table → (number place : ℕ) → to ≡ Refused number place → length after ≡ length (take (end table) table)
  refused_length (read gives enough there far inside few) lent number place h = let z : ◌≡◌ {A = ℕ} 0 1 = cc in absurd (omega arith)
  refused_length (refused6 gives same) lent number place h = rw (← is-end, ← lent) same
  refused_length (refused7 gives same) lent number place h = rw (← is-end, ← lent) same
  refused_length (refused_before same) lent number place h = rw (← is-end, ← lent) same

  refused_again : {from to : Step} {front after final : List ℕ} → Reads g v count e n least more ss from front to after
      → length final ≡ length table → (number place : ℕ) → to ≡ Refused number place → Reads g v count e n least more ss from table to final
  refused_again (read gives enough there far inside few) same number place h = let z : ◌≡◌ {A = ℕ} 0 1 = cc in absurd (omega arith)
  refused_again (refused6 gives l) same number place h = refused6 gives same
  refused_again (refused7 gives l) same number place h = refused7 gives same
  refused_again (refused_before l) same number place h = refused_before same

  module _ {from to : Step} {after : List ℕ} (reads : Reads g v count e n least more ss from (take size table) to after) where
    pub read_whole : (j k : ℕ) → to ≡ Read j k
        → (Reads g v count e n least more ss from table (Read j k) (after ++ drop size table))
        × ((number place : ℕ) → Read j k ≡ Refused number place → after ++ drop size table ≡ cleared table)
    read_whole j k h = (
      rw h at (read_into reads refl j k h),
      λ (number place : ℕ) (other : Read j k ≡ Refused number place). let z : ◌≡◌ {A = ℕ} 0 1 = cc in absurd (omega arith),
    )

    pub refused_whole : (number place : ℕ) → to ≡ Refused number place → (final : List ℕ) → final ≡ cleared (after ++ drop size table)
        → (Reads g v count e n least more ss from table (Refused number place) final)
        × ((number' place' : ℕ) → Refused number place ≡ Refused number' place' → final ≡ cleared table)
    refused_whole number place h final there =
        let same = refused_length reads refl number place h in
        let zero-rows : final ≡ cleared table = there ∙ rw is-end (cleared-whole table after same) in (
          rw h at (refused_again {final = final} reads (ap length zero-rows ∙ length-cleared table) number place h),
          λ (number' place' : ℕ) (other : Refused number place ≡ Refused number' place'). zero-rows,
        )

-- .. by what the reader answers
module _ {g : List Production} {v : View} {count : ℕ} {e : Names} {n least more : ℕ} {ss : List Symbol} (table : List ℕ) (size : ℕ)
    (is-end : size ≡ end table) {from : Step} {after : List ℕ} where
  pub kept_whole : (r : Result Place Refusal) → Reads g v count e n least more ss from (take size table) (step_of r) after → is_err r ≡ false
      → (Reads g v count e n least more ss from table (step_of r) (after ++ drop size table))
      × ((number place : ℕ) → step_of r ≡ Refused number place → after ++ drop size table ≡ cleared table)
  kept_whole (Ok p) reads is = read_whole table size is-end reads p.token p.row refl
  kept_whole (Err d) reads is = absurd (false≢true (sym is))

  pub cleared_whole : (r : Result Place Refusal) → Reads g v count e n least more ss from (take size table) (step_of r) after → is_err r ≡ true
      → (final : List ℕ) → final ≡ cleared (after ++ drop size table)
      → (Reads g v count e n least more ss from table (step_of r) final)
      × ((number place : ℕ) → step_of r ≡ Refused number place → final ≡ cleared table)
  cleared_whole (Ok p) reads is final there = absurd (false≢true is)
  cleared_whole (Err d) reads is final there = refused_whole table size is-end reads (reason_number d.reason) d.place refl final there
