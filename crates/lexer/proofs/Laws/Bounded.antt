-- Words that end before the bytes do, by the byte after the first. Assumes nothing.
use Prim.Native.Nat.{ℕ, suc, ◌+◌, ◌-◌, ◌<◌}
use mathlib.Core.Path.{◌≡◌, ◌∙◌}
use mathlib.Core.Bool.{true, false}
use mathlib.Core.List.{List, [], ◌∷◌}
use native.Mathlib.Omega.{arith}
use lib.ListN.{length, take, drop, get_or}
use Rattle.lexer.specs.Bytes.{is_letter, is_digit, is_word_byte, run}
use Rattle.lexer.specs.Words.{word_length, word_kind, joins}
use Rattle.lexer.specs.Lexemes.{Token, word}
use Rattle.lexer.specs.internal.Entries.{Bounded}
use Rattle.lexer.specs.internal.Kinds.{ident}
use Rattle.lexer.proofs.Laws.Fronts.{front_one}
use Rattle.lexer.proofs.Laws.Runs.{run_goes_on, run_ends, run_narrow}
use Rattle.lexer.proofs.Laws.Tests.{or_left, or_right}
use Rattle.lexer.proofs.Laws.Words.{word_letter, word_le, kind_other, kind_one-at, ident-word, letter_word}

-- a word goes on over letters and digits
pub letter_on : (b : ℕ) → is_letter b ≡ true → is_word_byte b ≡ true
unfolding is_word_byte
letter_on b h = or_left (is_letter b) (is_digit b) h

pub digit_on : (b : ℕ) → is_digit b ≡ true → is_word_byte b ≡ true
unfolding is_word_byte
digit_on b h = or_right (is_letter b) (is_digit b) h

-- where it does, it is bounded from the next place on too
pub bounded_next : (s : List ℕ) (at : ℕ) → Bounded s at → is_word_byte (get_or s at 0) ≡ true → Bounded s (at + 1)
bounded_next s at bounded on = rw (run_goes_on is_word_byte s at (omega arith) on) at bounded

-- .. and so are digits from the place after the first
pub digits-inside : (s : List ℕ) (at : ℕ) → Bounded s at → is_digit (get_or s at 0) ≡ true → at + 1 + run is_digit (drop (at + 1) s) < length s
digits-inside s at bounded digit =
    let next = bounded_next s at bounded (digit_on _ digit) in
    let less = run_narrow is_digit is_word_byte digit_on (drop (at + 1) s) in
    omega arith

-- a word at a place that is an IDENT, and where it ends
pub record IdentEnds (s : List ℕ) (at end : ℕ) : Type 0 where
  pub place : end ≡ at + word_length (drop at s)
  pub some : at < end
  pub inside : end < length s
  pub kind : word_kind (take (word_length (drop at s)) (drop at s)) ≡ ident

pub ident_there : (s : List ℕ) (at end : ℕ) → IdentEnds s at end → Token ident (end - at + joins (drop end s)) ≡ word (drop at s)
ident_there s at end is =
    let place = is.place in
    let some = is.some in
    let size : end - at ≡ word_length (drop at s) = omega arith in
    rw (ident-word s at (omega arith) is.kind, ← place, size)

-- the word at a place where a letter stands
module _ (s : List ℕ) (at : ℕ) (letter : is_letter (get_or s at 0) ≡ true) (bounded : Bounded s at) where
  pub letter_next : Bounded s (at + 1)
  letter_next = bounded_next s at bounded (letter_on _ letter)

  length_told : word_length (drop at s) ≡ suc (run is_word_byte (drop (at + 1) s))
  length_told = rw (front_one s at (omega arith)) (word_letter _ _ letter)

  -- .. where it goes on
  module _ (more : is_word_byte (get_or s (at + 1) 0) ≡ true) where
    going : at + 1 + run is_word_byte (drop (at + 1) s) ≡ at + 1 + 1 + run is_word_byte (drop (at + 1 + 1) s)
    going =
        let next = letter_next in
        run_goes_on is_word_byte s (at + 1) (omega arith) more

    pub word-inside : at + 1 + 1 + run is_word_byte (drop (at + 1 + 1) s) < length s
    word-inside = rw going at letter_next

    pub long_ident : (end : ℕ) → end ≡ at + 1 + 1 + run is_word_byte (drop (at + 1 + 1) s) → IdentEnds s at end
    long_ident end ends =
        let size = length_told in
        let on = going in
        let within = word-inside in
        record {
          place = omega arith;
          some = omega arith;
          inside = omega arith;
          kind = kind_other (word_length (drop at s)) (drop at s) (word_le (drop at s)) (λ q. omega arith);
        }

  -- .. and where it does not
  module _ (last : is_word_byte (get_or s (at + 1) 0) ≡ false) where
    one_letter : word_length (drop at s) ≡ 1
    one_letter =
        let next = letter_next in
        let stops = run_ends is_word_byte s (at + 1) (omega arith) last in
        rw stops at length_told

    pub letter_ident : word_kind (get_or s at 0 ∷ []) ≡ ident → IdentEnds s at (at + 1)
    letter_ident is =
        let next = letter_next in
        record {
          place = rw one_letter;
          some = omega arith;
          inside = omega arith;
          kind = rw one_letter (kind_one-at s at one_letter ∙ is);
        }

    pub letter_alone : (kind : ℕ) → word_kind (get_or s at 0 ∷ []) ≡ kind → (kind ≡ ident → ⊥) → Token kind 1 ≡ word (drop at s)
    letter_alone kind is other = rw (letter_word s at one_letter (rw is other), is)
