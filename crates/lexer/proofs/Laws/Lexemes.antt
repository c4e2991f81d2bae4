-- Which rule gives the lexeme, by the class of the first byte. Assumes nothing.
use Prim.Native.Char.{code}
use Prim.Native.Nat.{ℕ, zero, suc, ◌+◌, ◌-◌, ◌<◌, ◌≤◌}
use mathlib.Core.Path.{◌≡◌, refl, sym, ◌∙◌}
use mathlib.Core.Bool.{Bool, true, false}
use mathlib.Core.List.{List, ◌∷◌}
use native.Mathlib.Omega.{arith}
use native.Mathlib.Nat.{add_assoc, suc-add}
use lib.Dec.{eqb, ltb}
use borrow.Author.Tests.{ne_eqb, lt-ltb, le-ltb}
use lib.ListN.{length, drop, get_or, length-drop}
use lib.Seq.{drop-drop}
use Rattle.lexer.specs.Tests.{and, or, between, pick}
use Rattle.lexer.specs.internal.Kinds.{ident, string, minus, slash}
use Rattle.lexer.specs.Bytes.{is_space, is_digit, is_letter, is_in_line, is_in_string, run, begins_either}
use Rattle.lexer.specs.Spellings.{same, kind_of, spelled_marks}
use Rattle.lexer.specs.Editions.{Edition}
use Rattle.lexer.specs.Numbers.{digits, fraction}
use Rattle.lexer.specs.Lexemes.{Lexeme, Skipped, Token, BadByte, OpenString}
use Rattle.lexer.specs.Lexemes.{skipped_spaces, spaces, comment, word_of, word}
use Rattle.lexer.specs.Lexemes.{number_of, unsigned_number, with_minus, number, text, mark_of, mark, or_else, lexeme}
use Rattle.lexer.specs.internal.Leaves.{byte_class}
use Rattle.lexer.proofs.Laws.Tests.{and-false}
use Rattle.lexer.proofs.Laws.Classes.{class_digit, class_letter, class_space, class_minus, class_slash, class_backtick}
use Rattle.lexer.proofs.Laws.Fronts.{front_one}
use Rattle.lexer.proofs.Laws.Runs.{run_pass, run_stop}
use Rattle.lexer.proofs.Laws.Words.{word_letter, word_none}
use Rattle.lexer.proofs.Laws.Editions.{FitEdition}
use Rattle.lexer.proofs.Laws.Marks.{one_enough}

-- where a rule fits, no later one is asked
pub spaces_first : (n : ℕ) (other : Lexeme) → 0 < n → or_else (skipped_spaces n) other ≡ skipped_spaces n
unfolding skipped_spaces or_else
spaces_first zero other h = absurd (omega arith)
spaces_first (suc n) other h = refl

-- .. nor where one of two fits, whichever a test picks
pick_first : (q : Bool) (l m other : Lexeme) → or_else l other ≡ l → or_else m other ≡ m → or_else (pick q l m) other ≡ pick q l m
pick_first true l m other p r = p
pick_first false l m other p r = r

word_first : (n k : ℕ) (t : List ℕ) (other : Lexeme) → 0 < n → or_else (word_of n k t) other ≡ word_of n k t
unfolding word_of or_else
word_first zero k t other h = absurd (omega arith)
word_first (suc n) k t other h = pick_first (eqb k ident) _ _ other refl refl

number_first : (n f : ℕ) (t : List ℕ) (other : Lexeme) → 0 < n → or_else (number_of n f t) other ≡ number_of n f t
unfolding number_of or_else
number_first zero f t other h = absurd (omega arith)
number_first (suc n) zero t other h = refl
number_first (suc n) (suc f) t other h = refl

-- what a first byte that a rule does not begin with says of the rule
module _ (b : ℕ) (t : List ℕ) where
  pub no_spaces : is_space b ≡ false → spaces (b ∷ t) ≡ BadByte
  unfolding spaces skipped_spaces
  no_spaces h = rw (run_stop is_space b t h)

  pub no_comment : eqb b (code "/") ≡ false → comment (b ∷ t) ≡ BadByte
  unfolding comment begins_either and or
  no_comment h = rw h

  pub no_word : is_letter b ≡ false → word (b ∷ t) ≡ BadByte
  unfolding word word_of
  no_word h = rw (word_none b t h)

  pub no_digits : is_digit b ≡ false → unsigned_number (b ∷ t) ≡ BadByte
  unfolding unsigned_number number_of
  no_digits h = rw (run_stop is_digit b t h)

  pub no_text : eqb b (code "`") ≡ false → text (b ∷ t) ≡ BadByte
  unfolding text begins_either or
  no_text h = rw h

module _ (e : Edition) (b : ℕ) (t : List ℕ) where
  plain-number : eqb b (code "-") ≡ false → number e (b ∷ t) ≡ unsigned_number (b ∷ t)
  unfolding number begins_either or
  plain-number h = rw (h, and-false)

-- the class of the first byte decides the rule
module _ (e : Edition) (b : ℕ) (t : List ℕ) (byte : b < 256) where
  -- the tests of a byte from its class
  module _ (k : ℕ) (c : byte_class b ≡ k) where
    is_space_lem : is_space b ≡ eqb k 2
    is_space_lem = sym (rw c at (class_space b byte))

    is_letter_lem : is_letter b ≡ eqb k 1
    is_letter_lem = sym (rw c at (class_letter b byte))

    is_digit_lem : is_digit b ≡ eqb k 0
    is_digit_lem = sym (rw c at (class_digit b byte))

    is_minus : eqb b (code "-") ≡ eqb k 3
    is_minus = sym (rw c at (class_minus b byte))

    is_slash : eqb b (code "/") ≡ eqb k 4
    is_slash = sym (rw c at (class_slash b byte))

    is_backtick : eqb b (code "`") ≡ eqb k 5
    is_backtick = sym (rw c at (class_backtick b byte))

  pub lexeme_space : byte_class b ≡ 2 → lexeme e (b ∷ t) ≡ spaces (b ∷ t)
  unfolding lexeme spaces
  lexeme_space c = spaces_first _ _ (rw (run_pass is_space b t (is_space_lem 2 c)) (omega arith))

  pub lexeme_letter : byte_class b ≡ 1 → lexeme e (b ∷ t) ≡ word (b ∷ t)
  unfolding lexeme or_else word
  lexeme_letter c =
      rw (no_spaces b t (is_space_lem 1 c), no_comment b t (is_slash 1 c))
      (word_first _ _ _ _ (rw (word_letter b t (is_letter_lem 1 c)) (omega arith)))

  pub lexeme_digit : byte_class b ≡ 0 → lexeme e (b ∷ t) ≡ unsigned_number (b ∷ t)
  unfolding lexeme or_else unsigned_number
  lexeme_digit c =
      rw (no_spaces b t (is_space_lem 0 c), no_comment b t (is_slash 0 c), no_word b t (is_letter_lem 0 c), plain-number e b t (is_minus 0 c))
      (number_first _ _ _ _ (rw (run_pass is_digit b t (is_digit_lem 0 c)) (omega arith)))

  pub lexeme-minus : byte_class b ≡ 3 → lexeme e (b ∷ t) ≡ or_else (number e (b ∷ t)) (mark e (b ∷ t))
  unfolding lexeme or_else
  lexeme-minus c =
      rw (no_spaces b t (is_space_lem 3 c), no_comment b t (is_slash 3 c), no_word b t (is_letter_lem 3 c), no_text b t (is_backtick 3 c))

  pub lexeme-slash : byte_class b ≡ 4 → lexeme e (b ∷ t) ≡ or_else (comment (b ∷ t)) (mark e (b ∷ t))
  unfolding lexeme or_else
  lexeme-slash c =
      rw (
        no_spaces b t (is_space_lem 4 c),
        no_word b t (is_letter_lem 4 c),
        plain-number e b t (is_minus 4 c),
        no_digits b t (is_digit_lem 4 c),
        no_text b t (is_backtick 4 c),
      )

  pub lexeme_backtick : byte_class b ≡ 5 → lexeme e (b ∷ t) ≡ or_else (text (b ∷ t)) (mark e (b ∷ t))
  unfolding lexeme or_else
  lexeme_backtick c =
      rw (
        no_spaces b t (is_space_lem 5 c),
        no_comment b t (is_slash 5 c),
        no_word b t (is_letter_lem 5 c),
        plain-number e b t (is_minus 5 c),
        no_digits b t (is_digit_lem 5 c),
      )

  pub lexeme-mark : (byte_class b ≡ 0 → ⊥) → (byte_class b ≡ 1 → ⊥) → (byte_class b ≡ 2 → ⊥) → (byte_class b ≡ 3 → ⊥)
      → (byte_class b ≡ 4 → ⊥) → (byte_class b ≡ 5 → ⊥) → lexeme e (b ∷ t) ≡ mark e (b ∷ t)
  unfolding lexeme or_else
  lexeme-mark c0 c1 c2 c3 c4 c5 =
      rw (
        no_spaces b t (sym (class_space b byte) ∙ ne_eqb _ _ c2),
        no_comment b t (sym (class_slash b byte) ∙ ne_eqb _ _ c4),
        no_word b t (sym (class_letter b byte) ∙ ne_eqb _ _ c1),
        plain-number e b t (sym (class_minus b byte) ∙ ne_eqb _ _ c3),
        no_digits b t (sym (class_digit b byte) ∙ ne_eqb _ _ c0),
        no_text b t (sym (class_backtick b byte) ∙ ne_eqb _ _ c5),
      )

-- `-` and `/` begin no longer mark
module _ (e : Edition) (fit : FitEdition e) (t : List ℕ) where
  pub mark-minus : mark e (code "-" ∷ t) ≡ Token minus 1
  unfolding and mark_of kind_of same spelled_marks
  mark-minus = one_enough e fit (code "-") t (λ h. omega arith) (λ b. simp and-false)

  pub mark-slash : mark e (code "/" ∷ t) ≡ Token slash 1
  unfolding and mark_of kind_of same spelled_marks
  mark-slash = one_enough e fit (code "/") t (λ h. omega arith) (λ b. simp and-false)

-- a number with one byte more in front
with_minus_lem : (b n f : ℕ) (t : List ℕ) (other : Lexeme) → 0 < n → number_of (suc n) f (b ∷ t) ≡ or_else (with_minus (number_of n f t)) other
unfolding number_of with_minus or_else
with_minus_lem b zero f t other h = absurd (omega arith)
with_minus_lem b (suc n) zero t other h = refl
with_minus_lem b (suc n) (suc f) t other h = rw (suc-add (suc n) (suc f), suc-add (suc n + suc f) _)

-- what the rules give where their first byte stands
spaces_of : (n : ℕ) → 0 < n → skipped_spaces n ≡ Skipped n
unfolding skipped_spaces
spaces_of zero h = absurd (omega arith)
spaces_of (suc n) h = refl

pub spaces_some : (t : List ℕ) → 0 < run is_space t → spaces t ≡ Skipped (run is_space t)
unfolding spaces
spaces_some t h = spaces_of (run is_space t) h

module _ (s : List ℕ) (at : ℕ) (inside : at < length s) where
  module _ (here : get_or s at 0 ≡ code "`") where
    opened : drop at s ≡ code "`" ∷ drop (at + 1) s
    opened = rw here at (front_one s at inside)

    pub string_closed : at + 1 + run is_in_string (drop (at + 1) s) < length s
        → text (drop at s) ≡ Token string (2 + run is_in_string (drop (at + 1) s))
    unfolding text begins_either or
    string_closed h =
        let l = length-drop (at + 1) s in
        rw (opened, lt-ltb (1 + run is_in_string (drop (at + 1) s)) (suc (length (drop (at + 1) s))) (omega arith))

    pub string_open : length s ≤ at + 1 + run is_in_string (drop (at + 1) s) → text (drop at s) ≡ OpenString
    unfolding text begins_either or
    string_open h =
        let l = length-drop (at + 1) s in
        rw (opened, le-ltb (1 + run is_in_string (drop (at + 1) s)) (suc (length (drop (at + 1) s))) (omega arith))

    pub string_first : (other : Lexeme) → or_else (text (drop at s)) other ≡ text (drop at s)
    unfolding text begins_either or or_else
    string_first other =
        rw opened (pick_first (ltb (1 + run is_in_string (drop (at + 1) s)) (suc (length (drop (at + 1) s)))) _ _ other refl refl)

  module _ (here : get_or s at 0 ≡ code "/") where
    slashed : drop at s ≡ code "/" ∷ drop (at + 1) s
    slashed = rw here at (front_one s at inside)

    pub comment_found : begins_either (code "/") (code "/") (drop (at + 1) s) ≡ true
        → comment (drop at s) ≡ Skipped (2 + run is_in_line (drop (at + 2) s))
    unfolding comment begins_either and or
    comment_found h = rw (slashed, h, drop-drop 1 (at + 1) s, add_assoc at 1 1)

    pub comment_lost : begins_either (code "/") (code "/") (drop (at + 1) s) ≡ false → comment (drop at s) ≡ BadByte
    unfolding comment begins_either and or
    comment_lost h = rw (slashed, h)

    -- it is a mark by itself in every edition
    pub slash-mark : (e : Edition) → FitEdition e → mark e (drop at s) ≡ Token slash 1
    slash-mark e fit = rw slashed (mark-slash e fit _)

  module _ (here : get_or s at 0 ≡ code "-") (e : Edition) where
    minused : drop at s ≡ code "-" ∷ drop (at + 1) s
    minused = rw here at (front_one s at inside)

    -- a number takes the minus before it where the edition says so
    minus_number : e.signed ≡ true → number e (drop at s) ≡ with_minus (unsigned_number (drop (at + 1) s))
    unfolding number begins_either and or
    minus_number signed = rw (minused, signed)

    -- .. and else none begins with one
    pub minus_alone : e.signed ≡ false → number e (drop at s) ≡ BadByte
    unfolding number begins_either is_digit between and or
    minus_alone plain = rw (minused, plain) (no_digits (code "-") (drop (at + 1) s) refl)

    -- a number with the minus, where the digits after it end at `whole`
    pub minus-digits : e.signed ≡ true → (whole : ℕ) → whole ≡ at + 1 + digits (drop (at + 1) s) → at + 1 < whole → (other : Lexeme)
        → number_of (whole - at) (fraction (drop whole s)) (drop at s) ≡ or_else (number e (drop at s)) other
    unfolding unsigned_number
    minus-digits signed whole place after other =
        let n = digits (drop (at + 1) s) in
        let size : whole - at ≡ suc n = omega arith in
        rw (minus_number signed, drop-drop n (at + 1) s, ← place, size, minused) (with_minus_lem _ n _ _ other (omega arith))

    -- .. and none where no digit follows
    signed_none : digits (drop (at + 1) s) ≡ 0 → e.signed ≡ true → number e (drop at s) ≡ BadByte
    unfolding unsigned_number number_of with_minus
    signed_none none signed = rw (minus_number signed, none)

    pub minus-none : digits (drop (at + 1) s) ≡ 0 → number e (drop at s) ≡ BadByte
    minus-none none = by e.signed refl
      where
        by : (t : Bool) → e.signed ≡ t → number e (drop at s) ≡ BadByte
        by true signed = signed_none none signed
        by false plain = minus_alone plain

    -- it is a mark by itself in every edition
    pub minus-mark : FitEdition e → mark e (drop at s) ≡ Token minus 1
    minus-mark fit = rw minused (mark-minus e fit _)
