-- Prepared lists: a word that does not pass is none of the names that are let through, one that passes is asked of all; and where the
-- slots of all names are set, all are let through. Assumes nothing.
use Prim.Native.Nat.{ℕ, zero, ◌+◌, ◌-◌, ◌<◌, ◌≤◌}
use mathlib.Core.Path.{◌≡◌, refl, sym, ◌∙◌, ap}
use mathlib.Core.Bool.{Bool, true, false}
use mathlib.Core.List.{List, [], ◌∷◌, ◌++◌, append-nil}
use mathlib.Core.Logic.{⊎_elim}
use native.Mathlib.Omega.{arith}
use native.Mathlib.Numerals.{add-one}
use denote.Ref.{Bor}
use borrow.Rule.Slice.PartMut.{put_mid}
use lib.ListN.{length, take, drop, get_or, set, length-drop}
use lib.Seq.{drop-length, drop_at, length-take-le, drop-set-add, take-suc, take-suc-set, take_all}
use Rattle.std.proofs.lemmas.List.{take_rest, take_more, take_more_set}
use Rattle.std.proofs.Common.{rules}
use Rattle.std.proofs.lemmas.Slice.{overwrites}
use Rattle.std.specs.Prelude.{Option, Some, None, unwrap_or}
use Rattle.std.specs.Slice.{IsGetRangeResult}
use Rattle.lexer.proofs.Laws.Fronts.{front_none}
use Rattle.lexer.specs.Tests.{or, pick}
use Rattle.lexer.specs.Words.{same_name}
use Rattle.lexer.specs.Items.{Item}
use Rattle.typenames.specs.NameList.{entries}
use Rattle.typenames.specs.TypeNames.{is_named, declared, type_names}
use Rattle.typenames.specs.internal.Scopes.{in_force}
use Rattle.typenames.specs.internal.Prepared.{slots, passes, marked, marked_all, passing, prepared_names}
use Rattle.typenames.specs.declared.Scope.{Scope}
use Rattle.typenames.specs.declared.Scope.TheVariants.{Program}
use Rattle.typenames.proofs.Laws.Named.{named_append}
use Rattle.typenames.proofs.Laws.Slots.{same_passes}
use Rattle.typenames.proofs.Laws.Marked.{marked-passes, marked_room, all_list, all_still}

-- names that pass a test that says the same of names that are the same
module _ (f : List ℕ → Bool) (w : List ℕ) (agree : (n : List ℕ) → same_name n w ≡ true → f n ≡ f w) where
  out_by : (n : List ℕ) (rest : List (List ℕ)) (t u : Bool) → f n ≡ t → same_name n w ≡ u → f w ≡ false
      → is_named rest w ≡ false → is_named (pick t (n ∷ rest) rest) w ≡ false
  unfolding is_named or
  out_by n rest false u en es out below = below
  out_by n rest true false en es out below = rw es below
  out_by n rest true true en es out below = let z : ◌≡◌ {A = ℕ} 0 1 = cc (agree n es) in absurd (omega arith)

  passing-out : f w ≡ false → (ns : List (List ℕ)) → is_named (passing f ns) w ≡ false
  unfolding passing is_named
  passing-out out [] = refl
  passing-out out (n ∷ ns) = out_by n (passing f ns) (f n) (same_name n w) refl refl out (passing-out out ns)

  in_by : (n : List ℕ) (rest ns : List (List ℕ)) (t u : Bool) → f n ≡ t → same_name n w ≡ u → f w ≡ true
      → is_named rest w ≡ is_named ns w → is_named (pick t (n ∷ rest) rest) w ≡ is_named (n ∷ ns) w
  unfolding is_named or
  in_by n rest ns true u en es pass below = rw below
  in_by n rest ns false false en es pass below = rw es below
  in_by n rest ns false true en es pass below = let z : ◌≡◌ {A = ℕ} 0 1 = cc (agree n es) in absurd (omega arith)

  passing_in : f w ≡ true → (ns : List (List ℕ)) → is_named (passing f ns) w ≡ is_named ns w
  unfolding passing is_named
  passing_in pass [] = refl
  passing_in pass (n ∷ ns) = in_by n (passing f ns) ns (f n) (same_name n w) refl refl pass (passing_in pass ns)

-- whether a word is one of the names that a prepared list lets through, in every scope
module _ (opening p : List ℕ) (ts : List Item) (w : List ℕ) where
  pub refused : (scope : Scope) → passes p w ≡ false → is_named (in_force scope (prepared_names opening p ts)) w ≡ false
  unfolding prepared_names
  refused Program out = passing-out (passes p) w (λ n e. same_passes n w e p) out (type_names opening (entries (drop slots p)) ts)

  pub passed : (scope : Scope) → passes p w ≡ true → is_named (in_force scope (prepared_names opening p ts)) w
      ≡ or (is_named (entries (drop slots p)) w) (is_named (declared opening zero ts) w)
  unfolding prepared_names type_names
  passed Program pass =
      passing_in (passes p) w (λ n e. same_passes n w e p) pass (entries (drop slots p) ++ declared opening zero ts)
      ∙ named_append (entries (drop slots p)) (declared opening zero ts) w

-- names that are marked all pass
all_passing : (p : List ℕ) (ns : List (List ℕ)) → slots ≤ length p → passing (passes (marked_all p ns)) ns ≡ ns
unfolding passing marked_all
all_passing p [] room = refl
all_passing p (n ∷ ns) room =
    let after = marked_room p n room in
    let first = all_still (marked p n) ns after n (marked-passes p n room n refl) in
    rw first (ap (λ (rest : List (List ℕ)). n ∷ rest) (all_passing (marked p n) ns after))

-- where the list stands after the slots, and its names and those of the source are marked, all type names are let through
pub all_prepared : (opening p list : List ℕ) (ts : List Item) → slots ≤ length p → drop slots p ≡ list
    → prepared_names opening (marked_all p (entries list ++ declared opening zero ts)) ts ≡ type_names opening (entries list) ts
unfolding prepared_names type_names
all_prepared opening p list ts room after =
    let names = entries list ++ declared opening zero ts in
    rw (all_list p names, after) (all_passing p names room)

-- a list that is copied after the slots, so far
module _ (p list : List ℕ) (at : ℕ) (room : length p ≡ slots + length list) (copied : take at (drop slots p) ≡ take at list) where
  pub copied_more : at < length list → take (at + 1) (drop slots (set p (slots + at) (get_or list at 0))) ≡ take (at + 1) list
  copied_more below =
      let l = length-drop slots p in
      rw (add-one at, drop-set-add slots p at (get_or list at 0), take-suc-set (drop slots p) at (get_or list at 0) (omega arith), copied)
      (sym (take-suc list at 0 below))

  pub copied_all : length list ≤ at → drop slots p ≡ list
  copied_all end =
      let l = length-drop slots p in
      sym (take_all at (drop slots p) (omega arith)) ∙ copied ∙ take_all at list end

-- a list that is copied byte by byte, so far
module _ (copy list : List ℕ) (at : ℕ) (long : length copy ≡ length list) (so_far : take at copy ≡ take at list) where
  pub copying_more : at < length list → take (at + 1) (set copy at (get_or list at 0)) ≡ take (at + 1) list
  copying_more below = rw (take_more_set copy at (get_or list at 0) (omega arith), so_far) (sym (take_more list at 0 below))

  pub copying_all : length list ≤ at → copy ≡ list
  copying_all end = sym (take_all at copy (omega arith)) ∙ so_far ∙ take_all at list end

-- a list that is copied to the end of another
module _ (a : ℕ) (p copy list : List ℕ) (room : length p ≡ a + length list) (is : copy ≡ list) where
  pub copied-length : length (put_mid a (length p - a) p copy) ≡ a + length list
  copied-length = rw is (search (rules, overwrites))

  pub copied : drop a (put_mid a (length p - a) p copy) ≡ list
  copied =
      let past = drop-length (drop a p) in
      let l = length-drop a p in
      drop_at (take a p) _ a (length-take-le a p (omega arith)) ∙ rw (is, ← l, past) (append-nil list)

-- the part of a prepared list after the slots, or nothing where there are not so many
pub list_part : (p : List ℕ) (part : Option (Bor (List ℕ))) (none : Bor (List ℕ)) → none.now ≡ [] → IsGetRangeResult p slots (length p) part
    → (unwrap_or part none).now ≡ drop slots p
list_part p None none empty got =
    rw (empty, front_none p slots (⊎_elim (λ (h : length p < slots). omega arith) (λ (h : length p < length p). omega arith) got.0))
list_part p (Some part) none empty got = got.0.2 ∙ take_rest p slots
