-- Words, IDENTs and joins, as the tokeniser finds them. Assumes nothing.
use Prim.Native.Char.{code}
use Prim.Native.Nat.{ℕ, zero, suc, ◌+◌, ◌-◌, ◌≤◌, ◌<◌, zero-le, suc-le-suc}
use mathlib.Core.Path.{◌≡◌, refl, ◌∙◌, ap, sym}
use mathlib.Core.Bool.{Bool, true, false}
use mathlib.Core.List.{List, [], ◌∷◌}
use native.Mathlib.Omega.{arith}
use native.Mathlib.Nat.{not-suc-le-zero, add_assoc, add-zero}
use lib.Dec.{eqb, ltb}
use lib.ListN.{length, take, drop, get_or, length-drop}
use lib.Seq.{drop-drop, get_or-drop}
use borrow.Author.Tests.{lt-ltb, ne_eqb}
use Rattle.lexer.specs.Tests.{and, pick}
use Rattle.lexer.specs.internal.Kinds.{ident}
use Rattle.lexer.specs.Bytes.{is_letter, is_word_byte, run}
use Rattle.lexer.specs.Spellings.{same, kind_of, reserved}
use Rattle.lexer.specs.Words.{word_length, or_ident, word_kind, ident_length, two_colons, joins_within, joins}
use Rattle.lexer.specs.Lexemes.{Token, BadByte, word_of, word}
use Rattle.lexer.proofs.Laws.Tests.{and-false}
use Rattle.lexer.proofs.Laws.Fronts.{front_one}
use Rattle.lexer.proofs.Laws.Runs.{run_le}

pub word_letter : (b : ℕ) (s : List ℕ) → is_letter b ≡ true → word_length (b ∷ s) ≡ suc (run is_word_byte s)
unfolding word_length
word_letter b s h = rw h

pub word_none : (b : ℕ) (s : List ℕ) → is_letter b ≡ false → word_length (b ∷ s) ≡ 0
unfolding word_length
word_none b s h = rw h

pub word_nil : word_length [] ≡ 0
unfolding word_length
word_nil = refl

word_le_by : (b : ℕ) (s : List ℕ) (t : Bool) → is_letter b ≡ t → word_length (b ∷ s) ≤ suc (length s)
word_le_by b s true h = rw (word_letter b s h) (suc-le-suc (run_le is_word_byte s))
word_le_by b s false h = rw (word_none b s h) zero-le

pub word_le : (s : List ℕ) → word_length s ≤ length s
word_le [] = rw word_nil zero-le
word_le (b ∷ s) = word_le_by b s (is_letter b) refl

-- the first n bytes as a word, where n is not 1
pub kind_other : (n : ℕ) (s : List ℕ) → n ≤ length s → (n ≡ 1 → ⊥) → word_kind (take n s) ≡ ident
unfolding word_kind kind_of reserved same and or_ident
kind_other zero s h one = refl
kind_other (suc zero) s h one = absurd (one refl)
kind_other (suc (suc n)) [] h one = absurd (not-suc-le-zero h)
kind_other (suc (suc n)) (a ∷ []) h one = absurd (omega (arith, h))
kind_other (suc (suc n)) (a ∷ b ∷ s) h one = refl

pub ident_other : (s : List ℕ) → (word_length s ≡ 1 → ⊥) → ident_length s ≡ word_length s
unfolding ident_length
ident_other s one = rw (kind_other (word_length s) s (word_le s) one)

-- the same where n is 1
pub ident-one : (b : ℕ) (s : List ℕ) → word_length (b ∷ s) ≡ 1 → ident_length (b ∷ s) ≡ pick (eqb (word_kind (b ∷ [])) ident) 1 0
unfolding ident_length
ident-one b s one = rw one

-- more joins allowed than there are bytes change nothing
joins_enough : (m k : ℕ) (s : List ℕ) → length s ≤ m → length s ≤ k → joins_within m s ≡ joins_within k s
unfolding joins_within two_colons and
joins_enough zero zero s hm hk = refl
joins_enough zero (suc k) [] hm hk = refl
joins_enough zero (suc k) (b ∷ s) hm hk = absurd (not-suc-le-zero hm)
joins_enough (suc m) zero [] hm hk = refl
joins_enough (suc m) zero (b ∷ s) hm hk = absurd (not-suc-le-zero hk)
joins_enough (suc m) (suc k) s hm hk =
    let n = ident_length (drop 2 s) in
    let e = joins_enough m k (drop (2 + n) s) (simp length-drop (omega arith)) (simp length-drop (omega arith)) in
    ap (λ (r : ℕ). pick (and (two_colons s) (ltb 0 n)) (2 + n + r) 0) e

-- one join more allowed than there are bytes
joins_opened : (s : List ℕ) → joins s ≡ joins_within (suc (length s)) s
unfolding joins
joins_opened s = joins_enough (length s) (suc (length s)) s (omega arith) (omega arith)

module _ (s : List ℕ) where
  -- how the joins are found, step by step
  pub joins_none : two_colons s ≡ false → joins s ≡ 0
  unfolding joins_within and
  joins_none h = joins_opened s ∙ rw h

  pub joins_lost : ident_length (drop 2 s) ≡ 0 → joins s ≡ 0
  unfolding joins_within
  joins_lost h = joins_opened s ∙ rw (h, and-false)

  pub joins-more : two_colons s ≡ true → 0 < ident_length (drop 2 s)
      → joins s ≡ 2 + ident_length (drop 2 s) + joins (drop (2 + ident_length (drop 2 s)) s)
  unfolding joins joins_within and
  joins-more h more =
      let n = ident_length (drop 2 s) in
      let e = joins_enough (length s) (length (drop (2 + n) s)) (drop (2 + n) s) (simp length-drop (omega arith)) (omega arith) in
      joins_opened s ∙ rw (h, lt-ltb 0 n more) (ap (λ (r : ℕ). 2 + n + r) e)

-- a word that ends after one byte has the length 1
pub one_byte : (s : List ℕ) (at end : ℕ) → end ≡ at + word_length (drop at s) → end - at ≡ 1 → word_length (drop at s) ≡ 1
one_byte s at end is h = omega arith

module _ (s : List ℕ) (at : ℕ) (one : word_length (drop at s) ≡ 1) where
  pub one_inside : at < length s
  one_inside =
      let l = word_le (drop at s) in
      let e = length-drop at s in
      omega arith

  pub kind_one-at : word_kind (take 1 (drop at s)) ≡ word_kind (get_or s at 0 ∷ [])
  kind_one-at = rw (front_one s at one_inside)

  pub ident-one_at : ident_length (drop at s) ≡ pick (eqb (word_kind (get_or s at 0 ∷ [])) ident) 1 0
  ident-one_at =
      let e = front_one s at one_inside in
      rw e (ident-one _ _ (rw e at one))

-- two colons stand where both bytes are one
colons_front : (s : List ℕ) → two_colons s ≡ and (eqb (get_or s 0 0) (code ":")) (eqb (get_or s 1 0) (code ":"))
unfolding two_colons and
colons_front [] = refl
colons_front (a ∷ []) = sym (and-false (eqb a (code ":")))
colons_front (a ∷ b ∷ s) = refl

pub colons_at : (s : List ℕ) (at : ℕ) → two_colons (drop at s) ≡ and (eqb (get_or s at 0) (code ":")) (eqb (get_or s (at + 1) 0) (code ":"))
colons_at s at = rw (colons_front (drop at s), get_or-drop at s 0 0, get_or-drop at s 1 0, add-zero)

pub colons_other : (a : ℕ) (s : List ℕ) → (a ≡ code ":" → ⊥) → two_colons (a ∷ s) ≡ false
unfolding two_colons and
colons_other a [] h = refl
colons_other a (b ∷ s) h = rw (ne_eqb a (code ":") h)

pub colons_short : (w : List ℕ) → length w < 2 → two_colons w ≡ false
unfolding two_colons
colons_short [] l = refl
colons_short (a ∷ []) l = refl
colons_short (a ∷ b ∷ w) l = absurd (omega arith)

two_bytes : (t : List ℕ) → two_colons t ≡ true → 1 < length t
unfolding two_colons
two_bytes [] q = let z : ◌≡◌ {A = ℕ} 0 1 = cc in absurd (omega arith)
two_bytes (a ∷ []) q = let z : ◌≡◌ {A = ℕ} 0 1 = cc in absurd (omega arith)
two_bytes (a ∷ b ∷ t) q = omega arith

-- the same at a place of a list
module _ (s : List ℕ) (at : ℕ) where
  pub colons_inside : two_colons (drop at s) ≡ true → at + 1 < length s
  colons_inside h =
      let l = two_bytes (drop at s) h in
      let e = length-drop at s in
      omega arith

  pub joins_none_at : two_colons (drop at s) ≡ false → joins (drop at s) ≡ 0
  joins_none_at h = joins_none (drop at s) h

  pub joins_lost_at : ident_length (drop (at + 2) s) ≡ 0 → joins (drop at s) ≡ 0
  joins_lost_at h = joins_lost (drop at s) (rw drop-drop h)

  pub joins-more_at : two_colons (drop at s) ≡ true → 0 < ident_length (drop (at + 2) s)
      → at + joins (drop at s)
      ≡ at + 2 + ident_length (drop (at + 2) s) + joins (drop (at + 2 + ident_length (drop (at + 2) s)) s)
  joins-more_at h more =
      let n = ident_length (drop (at + 2) s) in
      rw (joins-more (drop at s) h (rw drop-drop more), drop-drop 2 at s, drop-drop (2 + n) at s, ← add_assoc at 2 n) (omega arith)

-- what the rule for words gives
word_of_lem : (n k : ℕ) (t : List ℕ) → 0 < n
    → word_of n k t ≡ pick (eqb k ident) (Token k (n + joins (drop n t))) (Token k n)
unfolding word_of
word_of_lem zero k t h = absurd (not-suc-le-zero h)
word_of_lem (suc n) k t h = refl

module _ (s : List ℕ) (at : ℕ) where
  pub no_word : word_length (drop at s) ≡ 0 → word (drop at s) ≡ BadByte
  unfolding word word_of
  no_word h = rw h

  pub ident-word : 0 < word_length (drop at s) → word_kind (take (word_length (drop at s)) (drop at s)) ≡ ident
      → word (drop at s) ≡ Token ident (word_length (drop at s) + joins (drop (at + word_length (drop at s)) s))
  unfolding word
  ident-word h e = rw (e, word_of_lem _ ident (drop at s) h, drop-drop)

  pub letter_word : word_length (drop at s) ≡ 1 → (word_kind (get_or s at 0 ∷ []) ≡ ident → ⊥)
      → word (drop at s) ≡ Token (word_kind (get_or s at 0 ∷ [])) 1
  unfolding word
  letter_word one other =
      rw (one, kind_one-at s at one, word_of_lem 1 (word_kind (get_or s at 0 ∷ [])) (drop at s) (omega arith), ne_eqb _ _ other)
