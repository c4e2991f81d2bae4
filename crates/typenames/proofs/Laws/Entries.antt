-- The entries of a name list: the first of them and the others, and the answer by the first; that a refusal is number 2, and where its
-- place is. Assumes nothing.
use Prim.Native.Nat.{ℕ, suc, ◌+◌, ◌<◌, ◌≤◌}
use mathlib.Core.Logic.{⊎_elim}
use mathlib.Core.Path.{◌≡◌, refl, sym, ◌∙◌, ap}
use mathlib.Core.Bool.{Bool, true, false}
use mathlib.Core.List.{List, [], ◌∷◌}
use native.Mathlib.Omega.{arith}
use native.Mathlib.Nat.{add_assoc}
use native.Mathlib.Numerals.{add-one}
use denote.Ref.{Bor}
use borrow.Author.Tests.{ltb-true, ltb-false}
use lib.Dec.{eqb, ltb}
use lib.ListN.{length, take, drop, length-drop}
use lib.Seq.{drop-drop, take-length}
use Rattle.std.proofs.lemmas.List.{take_rest}
use Rattle.std.specs.Slice.{IsGetRangeResult}
use Rattle.std.specs.Prelude.{Option, Some, None}
use Rattle.lexer.specs.Tests.{pick}
use Rattle.lexer.specs.Bytes.{is_in_line, run}
use Rattle.lexer.specs.Editions.{Edition}
use Rattle.lexer.proofs.Laws.Runs.{run_pass, run_stop, run_le}
use Rattle.typenames.specs.internal.Entries.{entries_of_rest}
use Rattle.typenames.specs.NameList.{Good, Refused, name_limit, push, split, entries, is_name, first_bad, checked}

-- what a byte of a line tells
in_line : (b : ℕ) → eqb b 10 ≡ false → is_in_line b ≡ true
unfolding is_in_line
in_line b h = rw h

line_end : (b : ℕ) → eqb b 10 ≡ true → is_in_line b ≡ false
unfolding is_in_line
line_end b h = rw h

-- the first entry ends before the first byte 10 ..
split_more_by : (b : ℕ) (s : List ℕ) (t : Bool) → eqb b 10 ≡ t
    → (run is_in_line s < length s → split s ≡ take (run is_in_line s) s ∷ split (drop (suc (run is_in_line s)) s))
    → run is_in_line (b ∷ s) < suc (length s)
    → split (b ∷ s) ≡ take (run is_in_line (b ∷ s)) (b ∷ s) ∷ split (drop (suc (run is_in_line (b ∷ s))) (b ∷ s))
unfolding split push
split_more_by b s true e below h = rw (run_stop is_in_line b s (line_end b e), e)
split_more_by b s false e below h =
    let r = run_pass is_in_line b s (in_line b e) in
    rw (r, e, below (omega arith))

pub split_more : (s : List ℕ) → run is_in_line s < length s → split s ≡ take (run is_in_line s) s ∷ split (drop (suc (run is_in_line s)) s)
split_more [] h = absurd (omega arith)
split_more (b ∷ s) h = split_more_by b s (eqb b 10) refl (split_more s) h

-- .. or, where there is none, is the only one
split_last_by : (b : ℕ) (s : List ℕ) (t : Bool) → eqb b 10 ≡ t → (run is_in_line s ≡ length s → split s ≡ s ∷ [])
    → run is_in_line (b ∷ s) ≡ suc (length s) → split (b ∷ s) ≡ (b ∷ s) ∷ []
unfolding split push
split_last_by b s true e below h = let r = run_stop is_in_line b s (line_end b e) in absurd (omega arith)
split_last_by b s false e below h =
    let r = run_pass is_in_line b s (in_line b e) in
    rw (e, below (omega arith))

pub split_last : (s : List ℕ) → run is_in_line s ≡ length s → split s ≡ s ∷ []
unfolding split
split_last [] h = refl
split_last (b ∷ s) h = split_last_by b s (eqb b 10) refl (split_last s) h

-- in both cases the first entry is the first line
split-first_by : (s : List ℕ) (t : Bool) → ltb (run is_in_line s) (length s) ≡ t
    → (ws : List (List ℕ)) × (split s ≡ take (run is_in_line s) s ∷ ws)
split-first_by s true e = (split (drop (suc (run is_in_line s)) s), split_more s (ltb-true _ _ e))
split-first_by s false e =
    let below = ltb-false (run is_in_line s) (length s) e in
    let le = run_le is_in_line s in
    let all : run is_in_line s ≡ length s = omega arith in
    ([], split_last s all ∙ rw all (ap (λ (w : List ℕ). w ∷ []) (sym (take-length s))))

pub split-first : (s : List ℕ) → (ws : List (List ℕ)) × (split s ≡ take (run is_in_line s) s ∷ ws)
split-first s = split-first_by s (ltb (run is_in_line s) (length s)) refl

-- .. and the others are those of what is left after the byte 10, if it is there
module _ (s after : List ℕ) (end : ℕ) (line : end ≡ run is_in_line s) (cut : after ≡ drop end s) where
  pub entries_next : (rest : Option (Bor (List ℕ))) → IsGetRangeResult after 1 (length after) rest → split s ≡ take end s ∷ entries_of_rest rest
  entries_next None got =
      let le = run_le is_in_line s in
      let l = length-drop end s in
      let none : length after ≡ 0 = ⊎_elim (λ (h : length after < 1). omega arith) (λ (h : length after < length after). omega arith) got.0 in
      let all : run is_in_line s ≡ length s = omega (arith, ap length cut) in
      split_last s all ∙ rw (line, all, take-length s)
  entries_next (Some rest) got =
      let le = run_le is_in_line s in
      let l = length-drop end s in
      let more = split_more s (omega (arith, ap length cut)) in
      rw (more, got.0.2, take_rest after 1, cut, drop-drop, add-one end, line)

pub entries_some : (list : List ℕ) → 0 < length list → entries list ≡ split list
unfolding entries
entries_some [] h = absurd (omega arith)
entries_some (b ∷ s) h = refl

pub entries_none : (list : List ℕ) → length list ≡ 0 → entries list ≡ []
unfolding entries
entries_none [] h = refl
entries_none (b ∷ s) h = absurd (omega arith)

-- the answer for the entries from a place on, by the first of them
module _ (e : Edition) (at : ℕ) (left : List (List ℕ)) where
  pub bad_none : left ≡ [] → first_bad e at left ≡ Good
  unfolding first_bad
  bad_none none = rw none

  module _ (w : List ℕ) (ws : List (List ℕ)) (first : left ≡ w ∷ ws) where
    pub bad_here : is_name e w ≡ false → first_bad e at left ≡ Refused 2 at
    unfolding first_bad
    bad_here n = rw (first, n)

    pub bad_later : is_name e w ≡ true → first_bad e at left ≡ first_bad e (at + (length w + 1)) ws
    unfolding first_bad
    bad_later n = rw (first, n, add_assoc)

-- a refusal of a list is number 2
module _ (e : Edition) where
  bad_two : (at : ℕ) (ws : List (List ℕ)) (number place : ℕ) → first_bad e at ws ≡ Refused number place → number ≡ 2
  unfolding first_bad
  bad_two at [] number place h = let z : ◌≡◌ {A = ℕ} 0 1 = cc in absurd (omega arith)
  bad_two at (w ∷ ws) number place h = cases (is_name e w) (bad_two (at + length w + 1) ws number place) h
    where
      cases : (t : Bool) → (first_bad e (at + length w + 1) ws ≡ Refused number place → number ≡ 2)
          → pick t (first_bad e (at + length w + 1) ws) (Refused 2 at) ≡ Refused number place → number ≡ 2
      cases true later h = later h
      cases false later h = cc

  pub checked_two : (list : List ℕ) (number place : ℕ) → checked e list ≡ Refused number place → number ≡ 2
  unfolding checked
  checked_two list number place h = cases (ltb name_limit (length list)) h
    where
      cases : (t : Bool) → pick t (Refused 2 0) (first_bad e 0 (entries list)) ≡ Refused number place → number ≡ 2
      cases true h = cc
      cases false h = bad_two 0 (entries list) number place h

-- the bytes of some entries, each with the byte 10 after it
abbrev pub extent : List (List ℕ) → ℕ
extent [] = 0
extent (w ∷ ws) = length w + 1 + extent ws

extent-push_by : (b : ℕ) (w : List ℕ) (ws vs : List (List ℕ)) → vs ≡ w ∷ ws → extent (push b vs) ≡ suc (extent vs)
unfolding push
extent-push_by b w ws vs h = rw h (omega arith)

extent-split : (s : List ℕ) → extent (split s) ≡ length s + 1
unfolding split
extent-split [] = refl
extent-split (b ∷ s) = cases (eqb b 10) (extent-split s) (split-first s)
  where
    cases : (t : Bool) → extent (split s) ≡ length s + 1 → (ws : List (List ℕ)) × (split s ≡ take (run is_in_line s) s ∷ ws)
        → extent (pick t ([] ∷ split s) (push b (split s))) ≡ suc (length s) + 1
    cases true below first = omega arith
    cases false below first = let pushed = extent-push_by b _ first.0 (split s) first.1 in omega arith

pub extent-entries : (list : List ℕ) → extent (entries list) ≤ length list + 1
unfolding entries
extent-entries [] = omega arith
extent-entries (b ∷ s) = omega (arith, extent-split (b ∷ s))

-- the place of a refusal is in the list or at its end
module _ (e : Edition) where
  bad_place : (at : ℕ) (ws : List (List ℕ)) (number place : ℕ) → first_bad e at ws ≡ Refused number place → place < at + extent ws
  unfolding first_bad
  bad_place at [] number place h = let z : ◌≡◌ {A = ℕ} 0 1 = cc in absurd (omega arith)
  bad_place at (w ∷ ws) number place h = cases (is_name e w) (bad_place (at + length w + 1) ws number place) h
    where
      cases : (t : Bool) → (first_bad e (at + length w + 1) ws ≡ Refused number place → place < at + length w + 1 + extent ws)
          → pick t (first_bad e (at + length w + 1) ws) (Refused 2 at) ≡ Refused number place → place < at + (length w + 1 + extent ws)
      cases true later h = let below = later h in omega arith
      cases false later h = let here : at ≡ place = cc in omega arith

  entries_place : (list : List ℕ) (number place : ℕ) → first_bad e 0 (entries list) ≡ Refused number place → place ≤ length list
  unfolding entries first_bad
  entries_place [] number place h = let z : ◌≡◌ {A = ℕ} 0 1 = cc in absurd (omega arith)
  entries_place (b ∷ s) number place h =
      let below = bad_place 0 (split (b ∷ s)) number place h in
      let all = extent-split (b ∷ s) in
      omega arith

  pub checked_place : (list : List ℕ) (number place : ℕ) → checked e list ≡ Refused number place → place ≤ name_limit
  unfolding checked
  checked_place list number place h = cases (ltb name_limit (length list)) refl h
    where
      cases : (t : Bool) → ltb name_limit (length list) ≡ t
          → pick t (Refused 2 0) (first_bad e 0 (entries list)) ≡ Refused number place → place ≤ name_limit
      cases true q h = let here : 0 ≡ place = cc in omega arith
      cases false q h =
          let inside = entries_place list number place h in
          let short = ltb-false name_limit (length list) q in
          omega arith
