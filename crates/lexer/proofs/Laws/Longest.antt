-- The order of the rules loses nothing: no rule gives a longer lexeme than the one chosen, for marks of which none begins as
-- another rule's lexeme does but `-` and `/` alone. Assumes nothing.
use Prim.Native.Char.{code}
use Prim.Native.Nat.{ℕ, zero, suc, ◌+◌, ◌<◌, ◌≤◌, zero-le}
use mathlib.Core.Path.{◌≡◌, refl, sym, ◌∙◌, ap}
use mathlib.Core.Bool.{Bool, true, false, not}
use mathlib.Core.List.{List, [], ◌∷◌}
use mathlib.Core.Logic.{◌≢◌}
use native.Mathlib.Nat.{le_refl, le_trans}
use native.Mathlib.Omega.{arith}
use lib.Dec.{eqb, ltb}
use lib.ListN.{length, take}
use borrow.Author.Tests.{eqb-true, ne_eqb, ltb-true, ltb-false}
use Rattle.lexer.specs.Tests.{and, or, between, pick}
use Rattle.lexer.specs.Bytes.{is_space, is_digit, is_letter, begins_either, begins, run}
use Rattle.lexer.specs.Spellings.{Spelling, same, kind_of, longest, spelled_marks}
use Rattle.lexer.specs.Editions.{Edition, edition17}
use Rattle.lexer.specs.Words.{word_length}
use Rattle.lexer.specs.Lexemes.{Lexeme, End, Skipped, Token, BadByte, OpenString}
use Rattle.lexer.specs.Lexemes.{skipped_spaces, spaces, comment, word_of, word}
use Rattle.lexer.specs.Lexemes.{number_of, unsigned_number, with_minus, number, text, mark_of, mark_up_to, mark, or_else, lexeme}
use Rattle.lexer.specs.executable.Scans.{lexeme_size}
use Rattle.lexer.proofs.Laws.Fronts.{begins_one}
use Rattle.lexer.proofs.Laws.Lexemes.{no_spaces, no_comment, no_word, no_digits, no_text}
use Rattle.lexer.proofs.Laws.Tests.{and-false, and_right, and_left, or_else_lem, or_left, or_right, between_range}
use Rattle.lexer.proofs.Laws.Sizes.{Proper, of_token, proper_unsigned}

-- a byte that spaces, a word, a number or a string begins with
unfoldable pub taken : ℕ → Bool
taken b = or (is_space b) (or (is_letter b) (or (is_digit b) (eqb b (code "`"))))

-- a byte that a number or a comment begins with, if another byte follows it
unfoldable pub shared : ℕ → Bool
shared b = or (eqb b (code "-")) (eqb b (code "/"))

-- the first byte of a mark is not taken, and where it is shared the mark is that byte alone
unfoldable pub own_mark : List ℕ → Bool
own_mark [] = true
own_mark (b ∷ t) = and (not (taken b)) (or (not (shared b)) (eqb (length t) 0))

-- all marks are such
unfoldable pub separate : List Spelling → Bool
separate [] = true
separate (m ∷ ms) = and (own_mark m.text) (separate ms)

-- no rule gives a longer lexeme than the one chosen
pub record Longest (e : Edition) (s : List ℕ) : Type 0 where
  pub over_spaces : lexeme_size (spaces s) ≤ lexeme_size (lexeme e s)
  pub over_comment : lexeme_size (comment s) ≤ lexeme_size (lexeme e s)
  pub over_word : lexeme_size (word s) ≤ lexeme_size (lexeme e s)
  pub over_number : lexeme_size (number e s) ≤ lexeme_size (lexeme e s)
  pub over_text : lexeme_size (text s) ≤ lexeme_size (lexeme e s)
  pub over_mark : lexeme_size (mark e s) ≤ lexeme_size (lexeme e s)

-- whether a rule fits
abbrev fits : Lexeme → Bool
fits End = true
fits (Skipped n) = true
fits (Token k n) = true
fits BadByte = false
fits OpenString = true

-- a test without which a rule does not fit holds where the rule fits
fits_by : (l : Lexeme) (t : Bool) → (t ≡ false → l ≡ BadByte) → fits l ≡ true → t ≡ true
fits_by l true h f = refl
fits_by l false h f = sym (ap fits (h refl)) ∙ f

-- one lexeme takes no more bytes than another
record Under (m l : Lexeme) : Type 0 where
  under : lexeme_size m ≤ lexeme_size l

-- where one rule fits, another gives nothing longer
record Ahead (l m : Lexeme) : Type 0 where
  ahead : fits l ≡ true → lexeme_size m ≤ lexeme_size l

-- a choice takes as many bytes as its first rule, and as many as any rule that is no longer than either part
first_of_two : (l m : Lexeme) → Under l (or_else l m)
unfolding or_else lexeme_size
first_of_two End m = record { under = zero-le }
first_of_two (Skipped n) m = record { under = le_refl n }
first_of_two (Token k n) m = record { under = le_refl n }
first_of_two BadByte m = record { under = zero-le }
first_of_two OpenString m = record { under = zero-le }

later : {l m r : Lexeme} → Ahead l r → Under r m → Under r (or_else l m)
unfolding or_else
later {l = End} a below = record { under = a.ahead refl }
later {l = Skipped n} a below = record { under = a.ahead refl }
later {l = Token k n} a below = record { under = a.ahead refl }
later {l = BadByte} a below = below
later {l = OpenString} a below = record { under = a.ahead refl }

-- two rules that never both fit
never_both : (l m : Lexeme) → (fits l ≡ true → fits m ≡ true → ⊥) → Ahead l m
unfolding lexeme_size
never_both l End h = record { ahead = λ f. zero-le }
never_both l (Skipped n) h = record { ahead = λ f. absurd (h f refl) }
never_both l (Token k n) h = record { ahead = λ f. absurd (h f refl) }
never_both l BadByte h = record { ahead = λ f. zero-le }
never_both l OpenString h = record { ahead = λ f. zero-le }

-- what a first byte tells
module _ (b : ℕ) where
  space_range : is_space b ≡ true → b < code "-"
  unfolding is_space
  space_range =
      let below : (n : ℕ) → n < code "-" → eqb b n ≡ true → b < code "-" = λ n l h. omega (arith, eqb-true) in
      or_else_lem (eqb b 32) _ (below 32 (omega arith)) (or_else_lem (eqb b 9) _ (below 9 (omega arith))
      (or_else_lem (eqb b 10) _ (below 10 (omega arith)) (below 13 (omega arith))))

  digit_range : is_digit b ≡ true → (code "/" < b) × (b ≤ code "9")
  unfolding is_digit
  digit_range h = between_range (code "0") (code "9") b h

  letter_range : is_letter b ≡ true → (code "9" < b) × (b ≢ code "`")
  unfolding is_letter
  letter_range =
      or_else_lem (between (code "A") (code "Z") b) _ (λ h. let r = between_range (code "A") (code "Z") b h in (omega arith, omega arith))
      (or_else_lem (between (code "a") (code "z") b) _ (λ h. let r = between_range (code "a") (code "z") b h in (omega arith, omega arith))
      (λ h. let r = eqb-true b (code "_") h in (omega arith, omega arith)))

-- a rule that fits tells of its first byte
module _ (b : ℕ) (t : List ℕ) where
  fits-spaces : fits (spaces (b ∷ t)) ≡ true → is_space b ≡ true
  fits-spaces = fits_by _ (is_space b) (no_spaces b t)

  fits_word : fits (word (b ∷ t)) ≡ true → is_letter b ≡ true
  fits_word = fits_by _ (is_letter b) (no_word b t)

  fits-text : fits (text (b ∷ t)) ≡ true → eqb b (code "`") ≡ true
  fits-text = fits_by _ (eqb b (code "`")) (no_text b t)

  fits-comment : fits (comment (b ∷ t)) ≡ true → eqb b (code "/") ≡ true
  fits-comment = fits_by _ (eqb b (code "/")) (no_comment b t)

  -- a comment has two bytes at least
  comment_long : fits (comment (b ∷ t)) ≡ true → 2 ≤ lexeme_size (comment (b ∷ t))
  unfolding comment lexeme_size
  comment_long = either (and (begins (code "/") (b ∷ t)) (begins (code "/") t)) _
    where
      either : (q : Bool) (n : ℕ) → fits (pick q (Skipped (2 + n)) BadByte) ≡ true → 2 ≤ lexeme_size (pick q (Skipped (2 + n)) BadByte)
      either true n f = omega arith
      either false n f = let z : ◌≡◌ {A = ℕ} 0 1 = cc in absurd (omega arith)

-- a number that begins with `-` has two bytes at least
minus_long : (s : List ℕ) (l : Lexeme) → Proper s l → fits (with_minus l) ≡ true → 2 ≤ lexeme_size (with_minus l)
unfolding with_minus lexeme_size
minus_long s End p f = let z : ◌≡◌ {A = ℕ} 0 1 = cc in absurd (omega arith)
minus_long s (Skipped n) p f = let z : ◌≡◌ {A = ℕ} 0 1 = cc in absurd (omega arith)
minus_long s (Token k n) p f = let q = of_token p in omega arith
minus_long s BadByte p f = let z : ◌≡◌ {A = ℕ} 0 1 = cc in absurd (omega arith)
minus_long s OpenString p f = let z : ◌≡◌ {A = ℕ} 0 1 = cc in absurd (omega arith)

-- a number begins with a digit or with `-`
data Numeral (b : ℕ) (l : Lexeme) : Type 0 where
  plain : is_digit b ≡ true → Numeral b l
  negative : eqb b (code "-") ≡ true → 2 ≤ lexeme_size l → Numeral b l

fits-number : (e : Edition) (b : ℕ) (t : List ℕ) → fits (number e (b ∷ t)) ≡ true → Numeral b (number e (b ∷ t))
unfolding number
fits-number e b t = either (and e.signed (begins (code "-") (b ∷ t))) refl
  where
    found : Bool → Lexeme
    found q = pick q (with_minus (unsigned_number t)) (unsigned_number (b ∷ t))

    either : (q : Bool) → and e.signed (begins (code "-") (b ∷ t)) ≡ q → fits (found q) ≡ true → Numeral b (found q)
    either true h f =
        let minus = begins_one (code "-") b t (and_right e.signed (begins (code "-") (b ∷ t)) h) in
        negative minus (minus_long t (unsigned_number t) (proper_unsigned t) f)
    either false h f = plain (fits_by (unsigned_number (b ∷ t)) (is_digit b) (no_digits b t) f)

number_range : {b : ℕ} {l : Lexeme} → Numeral b l → (code "-" ≤ b) × (b ≢ code "/") × (b ≤ code "9")
number_range {b} (plain h) = let r = digit_range b h in (omega arith, omega arith, omega arith)
number_range {b} (negative h long) = let r = eqb-true b (code "-") h in (omega arith, omega arith, omega arith)

-- what the marks of an edition leave to the other rules
same_eq : (v w : List ℕ) → same v w ≡ true → v ≡ w
unfolding same
same_eq [] [] h = refl
same_eq [] (b ∷ w) h = let z : ◌≡◌ {A = ℕ} 0 1 = cc in absurd (omega arith)
same_eq (a ∷ v) [] h = let z : ◌≡◌ {A = ℕ} 0 1 = cc in absurd (omega arith)
same_eq (a ∷ v) (b ∷ w) h =
    let rest = same_eq v w (and_left (same v w) (eqb b a) h) in
    let first = eqb-true b a (and_right (same v w) (eqb b a) h) in
    cc

no_mark : (ms : List Spelling) → separate ms ≡ true → (w : List ℕ) → own_mark w ≡ false → kind_of ms w ≡ 0
unfolding separate kind_of
no_mark [] own w h = refl
no_mark (m ∷ ms) own w h =
    let here = and_left (own_mark m.text) (separate ms) own in
    either (same m.text w) refl here (no_mark ms (and_right (own_mark m.text) (separate ms) own) w h)
  where
    either : (t : Bool) → same m.text w ≡ t → own_mark m.text ≡ true → kind_of ms w ≡ 0 → pick t m.kind (kind_of ms w) ≡ 0
    either true e here below =
        let q = ap own_mark (same_eq m.text w e) in
        let z : ◌≡◌ {A = ℕ} 0 1 = cc in
        absurd (omega arith)
    either false e here below = below

mark_within : (bound k n : ℕ) (other : Lexeme) → (bound < n → k ≡ 0) → lexeme_size other ≤ bound → lexeme_size (mark_of k n other) ≤ bound
unfolding mark_of lexeme_size
mark_within bound zero n other h below = below
mark_within bound (suc k) n other h below = either (ltb bound n) refl
  where
    either : (t : Bool) → ltb bound n ≡ t → n ≤ bound
    either true e = let z = h (ltb-true bound n e) in absurd (omega arith)
    either false e = ltb-false bound n e

-- no mark is longer than so many bytes where none that begins with this byte has more
module _ (ms : List Spelling) (own : separate ms ≡ true) where
  module _ (b bound : ℕ) (past : (w : List ℕ) → bound ≤ length w → own_mark (b ∷ w) ≡ false) where
    marks_within : (n : ℕ) (t : List ℕ) → lexeme_size (mark_up_to ms n (b ∷ t)) ≤ bound
    unfolding mark_up_to lexeme_size
    marks_within zero t = zero-le
    marks_within (suc n) t =
        let w = take n t in
        let none : bound < suc (length w) → kind_of ms (b ∷ w) ≡ 0 = λ l. no_mark ms own (b ∷ w) (past w (omega arith)) in
        mark_within bound (kind_of ms (b ∷ w)) (suc (length w)) (mark_up_to ms n (b ∷ t)) none (marks_within n t)

not_own_taken : (b : ℕ) → taken b ≡ true → (w : List ℕ) → own_mark (b ∷ w) ≡ false
unfolding own_mark and
not_own_taken b h w = rw h

not_own_shared : (b : ℕ) → shared b ≡ true → (w : List ℕ) → 1 ≤ length w → own_mark (b ∷ w) ≡ false
unfolding own_mark or
not_own_shared b h w long = rw (h, ne_eqb (length w) 0 (omega arith)) (and-false (not (taken b)))

module _ (b : ℕ) where
  taken_space : is_space b ≡ true → taken b ≡ true
  unfolding taken
  taken_space h = or_left (is_space b) _ h

  taken_letter : is_letter b ≡ true → taken b ≡ true
  unfolding taken
  taken_letter h = or_right (is_space b) _ (or_left (is_letter b) _ h)

  taken_digit : is_digit b ≡ true → taken b ≡ true
  unfolding taken
  taken_digit h = or_right (is_space b) _ (or_right (is_letter b) _ (or_left (is_digit b) _ h))

  taken_backtick : eqb b (code "`") ≡ true → taken b ≡ true
  unfolding taken
  taken_backtick h = or_right (is_space b) _ (or_right (is_letter b) _ (or_right (is_digit b) _ h))

  shared-minus : eqb b (code "-") ≡ true → shared b ≡ true
  unfolding shared
  shared-minus h = or_left (eqb b (code "-")) _ h

  shared_slash : eqb b (code "/") ≡ true → shared b ≡ true
  unfolding shared
  shared_slash h = or_right (eqb b (code "-")) _ h

-- the rules at one byte and what follows it
module _ (e : Edition) (own : separate e.marks ≡ true) (b : ℕ) (t : List ℕ) where
  -- what the first byte is where a rule fits
  from-spaces : fits (spaces (b ∷ t)) ≡ true → b < code "-"
  from-spaces f = space_range b (fits-spaces b t f)

  from-comment : fits (comment (b ∷ t)) ≡ true → b ≡ code "/"
  from-comment f = eqb-true b (code "/") (fits-comment b t f)

  from-word : fits (word (b ∷ t)) ≡ true → (code "9" < b) × (b ≢ code "`")
  from-word f = letter_range b (fits_word b t f)

  from-number : fits (number e (b ∷ t)) ≡ true → (code "-" ≤ b) × (b ≢ code "/") × (b ≤ code "9")
  from-number f = number_range (fits-number e b t f)

  from-text : fits (text (b ∷ t)) ≡ true → b ≡ code "`"
  from-text f = eqb-true b (code "`") (fits-text b t f)

  -- so no two rules fit the same byte, marks aside
  after_spaces : (m : Lexeme) → (fits m ≡ true → code "-" ≤ b) → Ahead (spaces (b ∷ t)) m
  after_spaces m from = never_both _ m (λ f g. let l = from-spaces f in let h = from g in omega arith)

  comment_after_spaces : Ahead (spaces (b ∷ t)) (comment (b ∷ t))
  comment_after_spaces = after_spaces _ (λ g. let h = from-comment g in omega arith)

  word_after_spaces : Ahead (spaces (b ∷ t)) (word (b ∷ t))
  word_after_spaces = after_spaces _ (λ g. let h = from-word g in omega arith)

  number_after_spaces : Ahead (spaces (b ∷ t)) (number e (b ∷ t))
  number_after_spaces = after_spaces _ (λ g. (from-number g).0)

  text_after_spaces : Ahead (spaces (b ∷ t)) (text (b ∷ t))
  text_after_spaces = after_spaces _ (λ g. let h = from-text g in omega arith)

  after_comment : (m : Lexeme) → (fits m ≡ true → b ≢ code "/") → Ahead (comment (b ∷ t)) m
  after_comment m from = never_both _ m (λ f g. from g (from-comment f))

  word_after_comment : Ahead (comment (b ∷ t)) (word (b ∷ t))
  word_after_comment = after_comment _ (λ g. let h = from-word g in omega arith)

  number_after_comment : Ahead (comment (b ∷ t)) (number e (b ∷ t))
  number_after_comment = after_comment _ (λ g. (from-number g).1)

  text_after_comment : Ahead (comment (b ∷ t)) (text (b ∷ t))
  text_after_comment = after_comment _ (λ g. let h = from-text g in omega arith)

  number_after_word : Ahead (word (b ∷ t)) (number e (b ∷ t))
  number_after_word = never_both _ _ (λ f g. let l = from-word f in let h = from-number g in omega arith)

  text_after_word : Ahead (word (b ∷ t)) (text (b ∷ t))
  text_after_word = never_both _ _ (λ f g. let l = from-word f in let h = from-text g in omega arith)

  text_after_number : Ahead (number e (b ∷ t)) (text (b ∷ t))
  text_after_number = never_both _ _ (λ f g. let l = from-number f in let h = from-text g in omega arith)

  -- no mark begins with a byte that is taken, and none of two bytes with one that is shared
  mark-taken : taken b ≡ true → (n : ℕ) → lexeme_size (mark e (b ∷ t)) ≤ n
  unfolding mark
  mark-taken h n = le_trans (marks_within e.marks own b 0 (λ w l. not_own_taken b h w) (longest e.marks) t) zero-le

  mark-shared : shared b ≡ true → lexeme_size (mark e (b ∷ t)) ≤ 1
  unfolding mark
  mark-shared h = marks_within e.marks own b 1 (not_own_shared b h) (longest e.marks) t

  mark_after_spaces : Ahead (spaces (b ∷ t)) (mark e (b ∷ t))
  mark_after_spaces = record { ahead = λ f. mark-taken (taken_space b (fits-spaces b t f)) _ }

  mark_after_comment : Ahead (comment (b ∷ t)) (mark e (b ∷ t))
  mark_after_comment = record {
    ahead = λ f.
        let short = mark-shared (shared_slash b (fits-comment b t f)) in
        let long = comment_long b t f in
        omega arith;
  }

  mark_after_word : Ahead (word (b ∷ t)) (mark e (b ∷ t))
  mark_after_word = record { ahead = λ f. mark-taken (taken_letter b (fits_word b t f)) _ }

  mark_after_numeral : (l : Lexeme) → Numeral b l → lexeme_size (mark e (b ∷ t)) ≤ lexeme_size l
  mark_after_numeral l (plain h) = mark-taken (taken_digit b h) _
  mark_after_numeral l (negative h long) = let short = mark-shared (shared-minus b h) in omega arith

  mark_after_number : Ahead (number e (b ∷ t)) (mark e (b ∷ t))
  mark_after_number = record { ahead = λ f. mark_after_numeral _ (fits-number e b t f) }

  mark_after_text : Ahead (text (b ∷ t)) (mark e (b ∷ t))
  mark_after_text = record { ahead = λ f. mark-taken (taken_backtick b (fits-text b t f)) _ }

  longest_cons : Longest e (b ∷ t)
  unfolding lexeme
  longest_cons =
      let fromText = or_else (text (b ∷ t)) (mark e (b ∷ t)) in
      let fromNumber = or_else (number e (b ∷ t)) fromText in
      let fromWord = or_else (word (b ∷ t)) fromNumber in
      let fromComment = or_else (comment (b ∷ t)) fromWord in
      let itself : Under (mark e (b ∷ t)) (mark e (b ∷ t)) = record { under = le_refl _ } in
      record {
        over_spaces = (first_of_two (spaces (b ∷ t)) fromComment).under;
        over_comment = (later comment_after_spaces (first_of_two (comment (b ∷ t)) fromWord)).under;
        over_word = (later word_after_spaces (later word_after_comment (first_of_two (word (b ∷ t)) fromNumber))).under;
        over_number =
            (later number_after_spaces (later number_after_comment (later number_after_word
            (first_of_two (number e (b ∷ t)) fromText)))).under;
        over_text =
            (later text_after_spaces (later text_after_comment (later text_after_word (later text_after_number
            (first_of_two (text (b ∷ t)) (mark e (b ∷ t))))))).under;
        over_mark =
            (later mark_after_spaces (later mark_after_comment (later mark_after_word (later mark_after_number
            (later mark_after_text itself))))).under;
      }

-- where no byte is left, no rule gives one
marks_nil : (ms : List Spelling) (n : ℕ) → lexeme_size (mark_up_to ms n []) ≤ 0
unfolding mark_up_to lexeme_size
marks_nil ms zero = zero-le
marks_nil ms (suc n) = mark_within 0 (kind_of ms []) 0 (mark_up_to ms n []) (λ l. absurd (omega arith)) (marks_nil ms n)

longest_nil : (e : Edition) → Longest e []
unfolding lexeme_size spaces skipped_spaces run comment and begins_either word word_of word_length number unsigned_number number_of text mark
longest_nil e = record {
  over_spaces = zero-le;
  over_comment = zero-le;
  over_word = zero-le;
  over_number = rw (and-false e.signed) zero-le;
  over_text = zero-le;
  over_mark = le_trans (marks_nil e.marks (longest e.marks)) zero-le;
}

pub lexeme-longest : (e : Edition) → separate e.marks ≡ true → (s : List ℕ) → Longest e s
lexeme-longest e own [] = longest_nil e
lexeme-longest e own (b ∷ t) = longest_cons e own b t

-- the marks of 1.7 are such
pub separate17 : separate edition17.marks ≡ true
unfolding separate own_mark taken shared and or between is_space is_letter is_digit spelled_marks
separate17 = refl

pub longest17 : (s : List ℕ) → Longest edition17 s
longest17 = lexeme-longest edition17 separate17
