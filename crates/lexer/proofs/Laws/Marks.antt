-- The longest mark at the front of some bytes, for any fit edition, from the kinds of one, two and three bytes. Assumes nothing.
use Prim.Native.Nat.{ℕ, zero, suc, ◌+◌, ◌<◌}
use mathlib.Core.Path.{◌≡◌, refl, ◌∙◌, sym}
use mathlib.Core.List.{List, [], ◌∷◌}
use native.Mathlib.Nat.{add-zero}
use native.Mathlib.Omega.{arith}
use lib.ListN.{length, take, drop, get_or}
use lib.Seq.{get_or-drop}
use borrow.Author.Tests.{ne_eqb}
use Rattle.lexer.specs.Tests.{and}
use Rattle.lexer.specs.internal.Kinds.{arrow}
use Rattle.lexer.specs.Spellings.{same, kind_of, spelled_marks}
use Rattle.lexer.specs.Editions.{Edition}
use Rattle.lexer.specs.Lexemes.{Lexeme, Token, BadByte, mark_of, mark_up_to, mark}
use Rattle.lexer.proofs.Laws.Tests.{and-false}
use Rattle.lexer.proofs.Laws.Fronts.{front_one}
use Rattle.lexer.proofs.Laws.Sizes.{kind_empty}
use Rattle.lexer.proofs.Laws.Editions.{FitEdition, kind17}

-- a kind that is not 0 makes a token
pub mark_found : (k n : ℕ) (other : Lexeme) → (k ≡ 0 → ⊥) → mark_of k n other ≡ Token k n
unfolding mark_of
mark_found zero n other h = absurd (h refl)
mark_found (suc k) n other h = refl

-- .. and 0 makes none
pub mark_lost : (k n : ℕ) (other : Lexeme) → k ≡ 0 → mark_of k n other ≡ other
unfolding mark_of
mark_lost zero n other h = refl
mark_lost (suc k) n other h = absurd (omega arith)

-- asking again changes nothing
mark_again : (k n : ℕ) (other : Lexeme) → mark_of k n (mark_of k n other) ≡ mark_of k n other
unfolding mark_of
mark_again zero n other = refl
mark_again (suc k) n other = refl

-- the mark that one byte is, and the one that three bytes at the front are, the same in every edition
abbrev pub mark_one : ℕ → Lexeme
mark_one a = mark_of (kind17 (a ∷ [])) 1 BadByte

abbrev pub mark_three : List ℕ → Lexeme
mark_three s = mark_of (kind17 (take 3 s)) 3 BadByte

-- no mark of two bytes begins with the first byte of `→`
no_arrow_two : (b : ℕ) → kind17 (0xE2 ∷ b ∷ []) ≡ 0
unfolding kind_of same spelled_marks and
no_arrow_two b = simp and-false

-- no mark of two bytes ends with a byte 0
pub no_zero_second : (a : ℕ) → kind17 (a ∷ 0 ∷ []) ≡ 0
unfolding kind_of same spelled_marks and
no_zero_second a = refl

-- the second byte from a place on
second : (s : List ℕ) (at : ℕ) → get_or (drop (at + 1) s) 0 0 ≡ get_or s (at + 1) 0
second s at = rw (get_or-drop, add-zero)

module _ (e : Edition) (fit : FitEdition e) where
  -- nothing is no mark
  pub mark_nil : mark e [] ≡ BadByte
  unfolding mark mark_up_to mark_of
  mark_nil = rw (fit.longest_three, kind_empty e.marks fit.spells)

  -- a byte with none after it
  pub one_alone : (a : ℕ) → mark e (a ∷ []) ≡ mark_one a
  unfolding mark mark_up_to
  one_alone a = rw (fit.longest_three, fit.one a, mark_again, mark_again)

  module _ (a b : ℕ) where
    -- two bytes that are a mark
    pub two_found : (kind_of e.marks (a ∷ b ∷ []) ≡ 0 → ⊥) → mark e (a ∷ b ∷ []) ≡ Token (kind_of e.marks (a ∷ b ∷ [])) 2
    unfolding mark mark_up_to
    two_found h = rw fit.longest_three (mark_found _ _ _ h)

    -- .. and two that are none
    pub two_lost : kind_of e.marks (a ∷ b ∷ []) ≡ 0 → mark e (a ∷ b ∷ []) ≡ mark_one a
    unfolding mark mark_up_to mark_of
    two_lost h = rw (fit.longest_three, h, fit.one a)

  -- only the first three bytes count
  three : (a b c : ℕ) (s : List ℕ) → mark e (a ∷ b ∷ c ∷ s) ≡ mark_of (kind17 (a ∷ b ∷ c ∷ [])) 3 (mark e (a ∷ b ∷ []))
  unfolding mark mark_up_to
  three a b c s = rw (fit.longest_three, fit.three a b c, mark_again)

  -- where the first byte is not that of `→`, two bytes decide, and a 0 stands for one that is not there
  two_enough : (a : ℕ) (t : List ℕ) → (a ≡ 0xE2 → ⊥) → mark e (a ∷ t) ≡ mark e (a ∷ get_or t 0 0 ∷ [])
  unfolding kind_of same spelled_marks and
  two_enough a [] h = one_alone a ∙ sym (two_lost a 0 (fit.two a 0 (no_zero_second a)))
  two_enough a (b ∷ []) h = refl
  two_enough a (b ∷ c ∷ t) h = three a b c t ∙ mark_lost _ _ _ (rw (ne_eqb _ _ h, and-false))

  -- .. and where no mark of two bytes begins with it, one does
  pub one_enough : (a : ℕ) (t : List ℕ) → (a ≡ 0xE2 → ⊥) → ((b : ℕ) → kind17 (a ∷ b ∷ []) ≡ 0) → mark e (a ∷ t) ≡ mark_one a
  one_enough a t h alone = two_enough a t h ∙ two_lost a (get_or t 0 0) (fit.two _ _ (alone _))

  -- .. and where it is that of `→`, only three do
  three_enough : (t : List ℕ) → mark e (0xE2 ∷ t) ≡ mark_three (0xE2 ∷ t)
  unfolding kind_of same spelled_marks and mark_of
  three_enough [] = one_alone 0xE2
  three_enough (b ∷ []) = two_lost 0xE2 b (fit.two _ _ (no_arrow_two b)) ∙ sym (mark_lost _ _ _ (no_arrow_two b))
  three_enough (b ∷ c ∷ t) = three 0xE2 b c t ∙ rw (two_lost 0xE2 b (fit.two _ _ (no_arrow_two b)))

  -- two and three at a place of a list
  module _ (s : List ℕ) (at : ℕ) (inside : at < length s) where
    pub two_enough_at : (get_or s at 0 ≡ 0xE2 → ⊥) → mark e (drop at s) ≡ mark e (get_or s at 0 ∷ get_or s (at + 1) 0 ∷ [])
    two_enough_at h = rw (front_one s at inside, ← second s at) (two_enough _ _ h)

    pub three_enough_at : get_or s at 0 ≡ 0xE2 → mark e (drop at s) ≡ mark_three (drop at s)
    three_enough_at there = rw (front_one s at inside, there) (three_enough _)

-- `→` from the bytes after its first
arrow_found : (t : List ℕ) → get_or t 0 0 ≡ 0x86 → get_or t 1 0 ≡ 0x92 → mark_three (0xE2 ∷ t) ≡ Token arrow 3
unfolding kind_of same spelled_marks and mark_of
arrow_found [] p q = absurd (omega arith)
arrow_found (b ∷ []) p q = absurd (omega arith)
arrow_found (b ∷ c ∷ t) p q = rw (p, q)

-- .. and none where the second byte is another
arrow_none : (t : List ℕ) → (get_or t 0 0 ≡ 0x86 → ⊥) → mark_three (0xE2 ∷ t) ≡ BadByte
unfolding kind_of same spelled_marks and mark_of
arrow_none [] h = refl
arrow_none (b ∷ []) h = mark_lost _ _ _ (no_arrow_two b)
arrow_none (b ∷ c ∷ t) h = rw (ne_eqb b 0x86 h, and-false)

-- .. nor where the third is
arrow_cut : (t : List ℕ) → (get_or t 1 0 ≡ 0x92 → ⊥) → mark_three (0xE2 ∷ t) ≡ BadByte
unfolding kind_of same spelled_marks and mark_of
arrow_cut [] h = refl
arrow_cut (b ∷ []) h = mark_lost _ _ _ (no_arrow_two b)
arrow_cut (b ∷ c ∷ t) h = rw (ne_eqb c 0x92 h)

-- the same at a place of a list
module _ (s : List ℕ) (at : ℕ) (inside : at < length s) (there : get_or s at 0 ≡ 0xE2) where
  begun : drop at s ≡ 0xE2 ∷ drop (at + 1) s
  begun = rw there at (front_one s at inside)

  pub arrow_found_at : get_or s (at + 1) 0 ≡ 0x86 → get_or s (at + 1 + 1) 0 ≡ 0x92 → mark_three (drop at s) ≡ Token arrow 3
  arrow_found_at p q = rw begun (arrow_found (drop (at + 1) s) (second s at ∙ p) (rw get_or-drop q))

  pub arrow_none_at : (get_or s (at + 1) 0 ≡ 0x86 → ⊥) → mark_three (drop at s) ≡ BadByte
  arrow_none_at h = rw begun (arrow_none (drop (at + 1) s) (λ q. h (sym (second s at) ∙ q)))

  pub arrow_cut_at : (get_or s (at + 1 + 1) 0 ≡ 0x92 → ⊥) → mark_three (drop at s) ≡ BadByte
  arrow_cut_at h = rw begun (arrow_cut (drop (at + 1) s) (λ q. h (sym (get_or-drop (at + 1) s 1 0) ∙ q)))
