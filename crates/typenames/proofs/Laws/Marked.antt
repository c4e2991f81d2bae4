-- Setting the slots of names in a prepared list: of one name, and of some. Assumes nothing.
use Prim.Native.Nat.{ℕ, ◌<◌, ◌≤◌}
use mathlib.Core.Path.{◌≡◌, refl, ◌∙◌}
use mathlib.Core.Bool.{Bool, true, false}
use mathlib.Core.List.{List, [], ◌∷◌, ◌++◌, map, map-append}
use native.Mathlib.Omega.{arith}
use borrow.Author.Tests.{eqb-true, eqb-false}
use lib.Dec.{eqb}
use lib.ListN.{length, drop, length-set}
use lib.Seq.{drop-set-lt, get_or-set_same, get_or-set_other}
use Rattle.typenames.specs.internal.Prepared.{slots, slot_of, passes, marked, marked_all}
use Rattle.typenames.proofs.Laws.Slots.{hash_below}

-- one name marked: the list after the slots stays, the name passes, and what passed before still does
module _ (p w : List ℕ) where
  pub marked-length : length (marked p w) ≡ length p
  unfolding marked
  marked-length = length-set p (slot_of w) 1

  marked_list : drop slots (marked p w) ≡ drop slots p
  unfolding marked
  marked_list = drop-set-lt slots p (slot_of w) 1 (hash_below w)

  module _ (room : slots ≤ length p) where
    pub slot_inside : slot_of w < length p
    slot_inside = let below = hash_below w in omega arith

    pub marked-passes : (v : List ℕ) → slot_of v ≡ slot_of w → passes (marked p w) v ≡ true
    unfolding passes marked
    marked-passes v e = rw (e, get_or-set_same p (slot_of w) 1 0 slot_inside)

    still_by : (v : List ℕ) (t : Bool) → eqb (slot_of v) (slot_of w) ≡ t → passes p v ≡ true → passes (marked p w) v ≡ true
    unfolding passes marked
    still_by v true e pass = marked-passes v (eqb-true (slot_of v) (slot_of w) e)
    still_by v false e pass = rw (get_or-set_other p (slot_of w) (slot_of v) 1 0 (eqb-false (slot_of v) (slot_of w) e)) pass

    still_passes : (v : List ℕ) → passes p v ≡ true → passes (marked p w) v ≡ true
    still_passes v pass = still_by v (eqb (slot_of v) (slot_of w)) refl pass

-- .. and so for some names
pub marked_room : (p n : List ℕ) → slots ≤ length p → slots ≤ length (marked p n)
marked_room p n room = rw (marked-length p n) room

pub all_list : (p : List ℕ) (ns : List (List ℕ)) → drop slots (marked_all p ns) ≡ drop slots p
unfolding marked_all
all_list p [] = refl
all_list p (n ∷ ns) = all_list (marked p n) ns ∙ marked_list p n

pub all_still : (p : List ℕ) (ns : List (List ℕ)) → slots ≤ length p → (v : List ℕ) → passes p v ≡ true → passes (marked_all p ns) v ≡ true
unfolding marked_all
all_still p [] room v pass = pass
all_still p (n ∷ ns) room v pass = all_still (marked p n) ns (marked_room p n room) v (still_passes p n room v pass)

pub all_append : (p : List ℕ) (ns ms : List (List ℕ)) → marked_all p (ns ++ ms) ≡ marked_all (marked_all p ns) ms
unfolding marked_all
all_append p [] ms = refl
all_append p (n ∷ ns) ms = all_append (marked p n) ns ms

-- the names so far and one more
pub all_more : {A : Type 0} (v : A → List ℕ) (p q : List ℕ) (xs : List A) (x : A) → q ≡ marked_all p (map v xs)
    → marked q (v x) ≡ marked_all p (map v (xs ++ x ∷ []))
unfolding marked_all
all_more v p q xs x so_far = rw (map-append v xs (x ∷ []), all_append p (map v xs) (v x ∷ []), so_far)
