-- The slot of a name in a prepared list: byte by byte, below the number of slots, and the same for names that are the same. Assumes
-- nothing.
use Prim.Native.Char.{code}
use Prim.Native.Nat.{ℕ, ◌+◌, ◌*◌, ◌%◌, ◌<◌, ◌≤◌}
use mathlib.Core.Path.{◌≡◌, refl, sym, ◌∙◌, ap}
use mathlib.Core.Bool.{Bool, true, false}
use mathlib.Core.List.{List, [], ◌∷◌}
use native.Mathlib.Omega.{arith}
use borrow.Author.Tests.{eqb-true}
use lib.Dec.{eqb, ltb}
use lib.ListN.{length, drop, get_or}
use Rattle.lexer.specs.Tests.{pick}
use Rattle.lexer.specs.Words.{two_colons, as_name, same_name}
use Rattle.lexer.proofs.Laws.Tests.{and_left, and_right}
use Rattle.lexer.proofs.Laws.Fronts.{front_none, front_one}
use Rattle.typenames.specs.internal.Prepared.{slots, folded, hash_from, slot_of, passes}
use Rattle.typenames.proofs.Laws.Compared.{same-equal}

from_below : (h : ℕ) (w : List ℕ) → h < slots → hash_from h w < slots
unfolding hash_from
from_below h [] below = below
from_below h (b ∷ w) below = from_below ((h * 31 + folded b) % slots) w (omega arith)

pub hash_below : (w : List ℕ) → slot_of w < slots
unfolding slot_of
hash_below w = from_below 0 w (omega arith)

-- from a place of a name on
module _ (w : List ℕ) (at h : ℕ) where
  pub hash_more : at < length w → hash_from h (drop at w) ≡ hash_from ((h * 31 + folded (get_or w at 0)) % slots) (drop (at + 1) w)
  unfolding hash_from
  hash_more below = rw (front_one w at below)

  pub hash_end : length w ≤ at → hash_from h (drop at w) ≡ h
  unfolding hash_from
  hash_end end = rw (front_none w at end)

pub ruleset hashing = (hash_more, hash_end)

-- a name has the slot of what it is read as
hash_pair : (h a b : ℕ) (s : List ℕ) (t : Bool) → two_colons (a ∷ b ∷ []) ≡ t
    → ((k : ℕ) → hash_from k (as_name s) ≡ hash_from k s)
    → ((k : ℕ) → hash_from k (as_name (b ∷ s)) ≡ hash_from k (b ∷ s))
    → hash_from h (pick t (code "_" ∷ code "_" ∷ as_name s) (a ∷ as_name (b ∷ s))) ≡ hash_from h (a ∷ b ∷ s)
unfolding hash_from folded two_colons
hash_pair h a b s true e paired single =
    let first : a ≡ code ":" = eqb-true a (code ":") (and_left (eqb a (code ":")) (eqb b (code ":")) e) in
    let second : b ≡ code ":" = eqb-true b (code ":") (and_right (eqb a (code ":")) (eqb b (code ":")) e) in
    rw (first, second) (paired _)
hash_pair h a b s false e paired single = single _

hash_name : (w : List ℕ) (h : ℕ) → hash_from h (as_name w) ≡ hash_from h w
unfolding as_name
hash_name [] h = refl
hash_name (a ∷ []) h = refl
hash_name (a ∷ b ∷ s) h = hash_pair h a b s (two_colons (a ∷ b ∷ [])) refl (hash_name s) (hash_name (b ∷ s))

-- names that are the same have the same slot, so that both pass or none does
module _ (v w : List ℕ) (e : same_name v w ≡ true) where
  same_hash : slot_of v ≡ slot_of w
  unfolding slot_of same_name
  same_hash = sym (hash_name v 0) ∙ ap (hash_from 0) (same-equal (as_name v) (as_name w) e) ∙ hash_name w 0

  pub same_passes : (p : List ℕ) → passes p v ≡ passes p w
  unfolding passes
  same_passes p = ap (λ (n : ℕ). ltb 0 (get_or p n 0)) same_hash
