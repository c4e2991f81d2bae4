-- What the entry of a byte tells: of the byte, of the words that go on over it, and of the lexeme that begins with it. Assumes nothing.
use Prim.Native.Char.{code}
use Prim.Native.Nat.{ℕ, zero, suc, ◌+◌, ◌<◌, ◌≤◌}
use mathlib.Core.Path.{◌≡◌, refl, sym, ◌∙◌}
use mathlib.Core.Logic.{◌⊎◌, inl, inr}
use mathlib.Core.Bool.{Bool, true, false}
use mathlib.Core.List.{List, [], ◌∷◌}
use native.Mathlib.Nat.{add-zero, zero-add, add-suc, suc-add}
use native.Mathlib.Omega.{arith}
use lib.Dec.{T, eqb}
use lib.ListN.{length, drop, get_or, get_or-eq_default}
use borrow.Author.Tests.{eqb-true, eq-eqb}
use Rattle.lexer.specs.Tests.{and, or}
use Rattle.lexer.specs.Bytes.{is_digit, is_letter, is_space, is_word_byte}
use Rattle.lexer.specs.Editions.{Edition, edition17}
use Rattle.lexer.specs.Lexemes.{Lexeme, Token, BadByte, spaces, comment, word, unsigned_number, number, text, mark, or_else, lexeme}
use Rattle.lexer.specs.internal.Kinds.{slash}
use Rattle.lexer.specs.Spellings.{Spelling, same, kind_of, spelled_marks}
use Rattle.lexer.specs.Words.{word_kind}
use Rattle.lexer.specs.internal.Leaves.{byte_class}
use Rattle.lexer.specs.internal.KindNumbers.{kind_number}
use Rattle.lexer.specs.internal.Entries.{begins_not, begins_none, alone_is, entry_class, says_kind, says}
use Rattle.lexer.specs.declared.kinds.TokenKind.{TokenKind}
use Rattle.lexer.specs.declared.entries.ByteEntry.{ByteEntry}
use Rattle.lexer.proofs.Laws.Tests.{and-false, and_left, and_right, not-true}
use Rattle.lexer.proofs.Laws.Editions.{kind17, FitEdition}
use Rattle.lexer.proofs.Laws.Computed.{both, both_left, both_right}
use Rattle.lexer.proofs.Laws.Classes.{class_digit, class_letter, class_space, class_minus, class_slash, class_backtick}
use Rattle.lexer.proofs.Laws.Fronts.{front_one}
use Rattle.lexer.proofs.Laws.KindNumbers.{some_kind}
use Rattle.lexer.proofs.Laws.Marks.{mark_found, one_enough, no_zero_second, two_found, two_lost, two_enough_at}
use Rattle.lexer.proofs.Laws.Lexemes.{lexeme_letter, lexeme_space, lexeme_digit, lexeme-minus, lexeme-slash, lexeme_backtick}
use Rattle.lexer.proofs.Laws.Lexemes.{lexeme-mark, string_first, slash-mark}

-- what an entry says of a byte, part by part
module _ (entry : ByteEntry) (b : ℕ) (said : says entry b ≡ true) where
  pub class_said : byte_class b ≡ entry_class entry
  unfolding says
  class_said = eqb-true _ _ (and_left _ _ said)

  kind_said : says_kind entry b ≡ true
  unfolding says
  kind_said = and_right (eqb (byte_class b) (entry_class entry)) _ said

-- whether each entry of a table is true of its byte, the first of which is a given one
abbrev pub all_said : ℕ → List ByteEntry → Bool
all_said b [] = true
all_said b (entry ∷ entries) = both (says entry b) (all_said (suc b) entries)

true_told : (t : Bool) → T t → t ≡ true
true_told true told = refl
true_told false told = absurd told

-- .. and so of each byte, once that is computed
said_from : (table : List ByteEntry) (first k : ℕ) (default : ByteEntry) → T (all_said first table) → k < length table
    → says (get_or table k default) (first + k) ≡ true
said_from [] first k default told below = absurd (omega arith)
said_from (entry ∷ table) first zero default told below = rw add-zero (true_told _ (both_left _ (all_said (suc first) table) told))
said_from (entry ∷ table) first (suc k) default told below =
    rw (add-suc, ← suc-add) (said_from table (suc first) k default (both_right (says entry first) _ told) (omega arith))

pub said_at : (table : List ByteEntry) → T (all_said 0 table) → (b : ℕ) (default : ByteEntry) → b < length table → says (get_or table b default) b ≡ true
said_at table told b default below = rw zero-add at (said_from table 0 b default told below)

-- whether a word goes on over a byte, by its class
by_class : (b class : ℕ) → b < 256 → byte_class b ≡ class → is_word_byte b ≡ or (eqb class 1) (eqb class 0)
unfolding is_word_byte
by_class b class byte is = rw (← class_letter b byte, ← class_digit b byte, is)

-- .. and by its entry
pub goes_on : (entry : ByteEntry) (b : ℕ) → b < 256 → says entry b ≡ true
    → ((alone : TokenKind) × (entry ≡ ByteEntry.Letter alone)) ⊎ (entry ≡ ByteEntry.Digit) → true ≡ is_word_byte b
unfolding or
goes_on entry b byte said (inl (alone, is)) = sym (by_class b 1 byte (rw is at (class_said _ b said)))
goes_on entry b byte said (inr is) = sym (by_class b 0 byte (rw is at (class_said _ b said)))

pub goes_not_on : (entry : ByteEntry) (b : ℕ) → b < 256 → says entry b ≡ true → ((alone : TokenKind) → entry ≡ ByteEntry.Letter alone → ⊥)
    → (entry ≡ ByteEntry.Digit → ⊥) → false ≡ is_word_byte b
unfolding or
goes_not_on (ByteEntry.Letter alone) b byte said letter digit = absurd (letter alone refl)
goes_not_on ByteEntry.Digit b byte said letter digit = absurd (digit refl)
goes_not_on (ByteEntry.Mark kind) b byte said letter digit = sym (by_class b 6 byte (class_said _ b said))
goes_not_on (ByteEntry.Longer alone) b byte said letter digit = sym (by_class b 6 byte (class_said _ b said))
goes_not_on ByteEntry.Other b byte said letter digit = sym (by_class b 6 byte (class_said _ b said))
goes_not_on ByteEntry.Slash b byte said letter digit = sym (by_class b 4 byte (class_said _ b said))
goes_not_on ByteEntry.Backtick b byte said letter digit = sym (by_class b 5 byte (class_said _ b said))
goes_not_on ByteEntry.Space b byte said letter digit = sym (by_class b 2 byte (class_said _ b said))
goes_not_on ByteEntry.Minus b byte said letter digit = sym (by_class b 3 byte (class_said _ b said))

-- a byte whose entry is another than that of spaces is no space, and no digit where it is another than that of digits
not_space : (entry : ByteEntry) → (entry ≡ ByteEntry.Space → ⊥) → eqb (entry_class entry) 2 ≡ false
not_space (ByteEntry.Letter alone) other = refl
not_space ByteEntry.Digit other = refl
not_space (ByteEntry.Mark kind) other = refl
not_space (ByteEntry.Longer alone) other = refl
not_space ByteEntry.Other other = refl
not_space ByteEntry.Slash other = refl
not_space ByteEntry.Backtick other = refl
not_space ByteEntry.Space other = absurd (other refl)
not_space ByteEntry.Minus other = refl

not_digit : (entry : ByteEntry) → (entry ≡ ByteEntry.Digit → ⊥) → eqb (entry_class entry) 0 ≡ false
not_digit (ByteEntry.Letter alone) other = refl
not_digit ByteEntry.Digit other = absurd (other refl)
not_digit (ByteEntry.Mark kind) other = refl
not_digit (ByteEntry.Longer alone) other = refl
not_digit ByteEntry.Other other = refl
not_digit ByteEntry.Slash other = refl
not_digit ByteEntry.Backtick other = refl
not_digit ByteEntry.Space other = refl
not_digit ByteEntry.Minus other = refl

module _ (entry : ByteEntry) (b : ℕ) (byte : b < 256) (said : says entry b ≡ true) where
  pub no_space_there : (entry ≡ ByteEntry.Space → ⊥) → false ≡ is_space b
  no_space_there other = rw (← class_space b byte, class_said entry b said, not_space entry other)

  pub no_digit_there : (entry ≡ ByteEntry.Digit → ⊥) → false ≡ is_digit b
  no_digit_there other = rw (← class_digit b byte, class_said entry b said, not_digit entry other)

-- what a byte is, by its entry
module _ (b : ℕ) (byte : b < 256) where
  pub letter_there : (alone : TokenKind) → says (ByteEntry.Letter alone) b ≡ true → is_letter b ≡ true
  letter_there alone said = sym (class_letter b byte) ∙ eq-eqb _ _ (class_said _ b said)

  pub digit_there : says ByteEntry.Digit b ≡ true → is_digit b ≡ true
  digit_there said = sym (class_digit b byte) ∙ eq-eqb _ _ (class_said _ b said)

  pub space_there : says ByteEntry.Space b ≡ true → is_space b ≡ true
  space_there said = sym (class_space b byte) ∙ eq-eqb _ _ (class_said _ b said)

  pub minus_there : says ByteEntry.Minus b ≡ true → b ≡ code "-"
  minus_there said = eqb-true _ _ (sym (class_minus b byte) ∙ eq-eqb _ _ (class_said _ b said))

  pub slash_there : says ByteEntry.Slash b ≡ true → b ≡ code "/"
  slash_there said = eqb-true _ _ (sym (class_slash b byte) ∙ eq-eqb _ _ (class_said _ b said))

  pub backtick_there : says ByteEntry.Backtick b ≡ true → b ≡ code "`"
  backtick_there said = eqb-true _ _ (sym (class_backtick b byte) ∙ eq-eqb _ _ (class_said _ b said))

-- .. and its kind alone
pub letter_kind : (b : ℕ) (alone : TokenKind) → says (ByteEntry.Letter alone) b ≡ true → word_kind (b ∷ []) ≡ kind_number alone
unfolding says_kind
letter_kind b alone said = eqb-true _ _ (kind_said (ByteEntry.Letter alone) b said)

pub longer_kind : (b : ℕ) (alone : TokenKind) → says (ByteEntry.Longer alone) b ≡ true → kind17 (b ∷ []) ≡ kind_number alone
unfolding says_kind
longer_kind b alone said = eqb-true _ _ (and_left _ _ (kind_said (ByteEntry.Longer alone) b said))

-- a byte that is a mark does not begin an arrow
no_arrow : (b : ℕ) (kind : TokenKind) → kind17 (b ∷ []) ≡ kind_number kind → b ≡ 0xE2 → ⊥
unfolding kind_of same spelled_marks and
no_arrow b kind is e = some_kind kind (sym (rw e at is))

-- a byte with which no longer mark begins is no mark with any byte after it
module _ (b c : ℕ) where
  other_spelling : (w : List ℕ) → begins_not b w ≡ true → same w (b ∷ c ∷ []) ≡ false
  unfolding begins_not same and
  other_spelling [] h = refl
  other_spelling (a ∷ []) h = refl
  other_spelling (a ∷ d ∷ w) h = rw (not-true (eqb b a) h) (and-false (same (d ∷ w) (c ∷ [])))

  none_longer : (ms : List Spelling) → begins_none b ms ≡ true → kind_of ms (b ∷ c ∷ []) ≡ 0
  unfolding begins_none kind_of
  none_longer [] h = refl
  none_longer (m ∷ ms) h = rw (other_spelling m.text (and_left _ _ h)) (none_longer ms (and_right _ _ h))

-- the lexeme at a place, by the entry of the byte there
module _ (e : Edition) (s : List ℕ) (at : ℕ) (inside : at < length s) (byte : get_or s at 0 < 256) where
  here : (f : List ℕ → Lexeme) → lexeme e (get_or s at 0 ∷ drop (at + 1) s) ≡ f (get_or s at 0 ∷ drop (at + 1) s)
      → lexeme e (drop at s) ≡ f (drop at s)
  here f h = rw (front_one s at inside) h

  marked : (entry : ByteEntry) → says entry (get_or s at 0) ≡ true → entry_class entry ≡ 6 → lexeme e (drop at s) ≡ mark e (drop at s)
  marked entry said class =
      let is = class_said entry _ said ∙ class in
      let not : (k : ℕ) → (k ≡ 6 → ⊥) → byte_class (get_or s at 0) ≡ k → ⊥ = λ k other q. other (sym q ∙ is) in
      here (mark e) (lexeme-mark e _ _ byte (not 0 (λ q. omega arith)) (not 1 (λ q. omega arith)) (not 2 (λ q. omega arith))
      (not 3 (λ q. omega arith)) (not 4 (λ q. omega arith)) (not 5 (λ q. omega arith)))

  pub letter_lexeme : (alone : TokenKind) → says (ByteEntry.Letter alone) (get_or s at 0) ≡ true → lexeme e (drop at s) ≡ word (drop at s)
  letter_lexeme alone said = here word (lexeme_letter e _ _ byte (class_said _ _ said))

  pub space_lexeme : says ByteEntry.Space (get_or s at 0) ≡ true → lexeme e (drop at s) ≡ spaces (drop at s)
  space_lexeme said = here spaces (lexeme_space e _ _ byte (class_said _ _ said))

  pub digit_lexeme : says ByteEntry.Digit (get_or s at 0) ≡ true → lexeme e (drop at s) ≡ unsigned_number (drop at s)
  digit_lexeme said = here unsigned_number (lexeme_digit e _ _ byte (class_said _ _ said))

  pub minus_lexeme : says ByteEntry.Minus (get_or s at 0) ≡ true → lexeme e (drop at s) ≡ or_else (number e (drop at s)) (mark e (drop at s))
  minus_lexeme said = here (λ s. or_else (number e s) (mark e s)) (lexeme-minus e _ _ byte (class_said _ _ said))

  pub backtick_lexeme : says ByteEntry.Backtick (get_or s at 0) ≡ true → lexeme e (drop at s) ≡ text (drop at s)
  backtick_lexeme said =
      here (λ s. or_else (text s) (mark e s)) (lexeme_backtick e _ _ byte (class_said _ _ said))
      ∙ string_first s at inside (backtick_there _ byte said) _

  pub longer-lexeme : (alone : TokenKind) → says (ByteEntry.Longer alone) (get_or s at 0) ≡ true → lexeme e (drop at s) ≡ mark e (drop at s)
  longer-lexeme alone said = marked (ByteEntry.Longer alone) said refl

  pub other_lexeme : says ByteEntry.Other (get_or s at 0) ≡ true → lexeme e (drop at s) ≡ mark e (drop at s)
  other_lexeme said = marked ByteEntry.Other said refl

  -- .. where the edition is fit
  module _ (fit : FitEdition e) where
    pub slash-lexeme : says ByteEntry.Slash (get_or s at 0) ≡ true → lexeme e (drop at s) ≡ or_else (comment (drop at s)) (Token slash 1)
    slash-lexeme said =
        here (λ s. or_else (comment s) (mark e s)) (lexeme-slash e _ _ byte (class_said _ _ said))
        ∙ rw (slash-mark s at inside (slash_there _ byte said) e fit)

    pub mark_lexeme : (kind : TokenKind) → says (ByteEntry.Mark kind) (get_or s at 0) ≡ true → lexeme e (drop at s) ≡ Token (kind_number kind) 1
    unfolding says_kind
    mark_lexeme kind said =
        let kinds = kind_said (ByteEntry.Mark kind) _ said in
        let is : kind17 (get_or s at 0 ∷ []) ≡ kind_number kind = eqb-true _ _ (and_left _ _ kinds) in
        let alone = and_right (alone_is (get_or s at 0) (kind_number kind)) _ kinds in
        let longer : (c : ℕ) → kind17 (get_or s at 0 ∷ c ∷ []) ≡ 0 = λ c. none_longer _ c edition17.marks alone in
        marked (ByteEntry.Mark kind) said refl
        ∙ rw (front_one s at inside, one_enough e fit _ (drop (at + 1) s) (no_arrow _ kind is) longer, is)
        (mark_found _ 1 BadByte (some_kind kind))

-- the mark at a place where a byte stands with which a longer one may begin
module _ (e : Edition) (fit : FitEdition e) (s : List ℕ) (at : ℕ) where
  -- the bytes there, the second 0 where there is none
  abbrev pair : List ℕ
  pair = get_or s at 0 ∷ get_or s (at + 1) 0 ∷ []

  -- at the end no mark of two bytes begins
  pub pair_past : length s ≤ at + 1 → kind_of e.marks pair ≡ 0
  pair_past past = rw (get_or-eq_default s 0 past) (fit.two (get_or s at 0) 0 (no_zero_second (get_or s at 0)))

  module _ (inside : at < length s) (alone : TokenKind) (is : kind17 (get_or s at 0 ∷ []) ≡ kind_number alone) where
    -- a mark of one byte
    pub mark_alone : kind_of e.marks pair ≡ 0 → Token (kind_number alone) 1 ≡ mark e (drop at s)
    mark_alone lost =
        rw (two_enough_at e fit s at inside (no_arrow _ alone is), two_lost e fit _ _ lost, is, mark_found (kind_number alone) 1 BadByte (some_kind alone))

    -- .. and one of two
    pub mark_pair : (kind_of e.marks pair ≡ 0 → ⊥) → Token (kind_of e.marks pair) 2 ≡ mark e (drop at s)
    mark_pair found = rw (two_enough_at e fit s at inside (no_arrow _ alone is), two_found e fit _ _ found)
