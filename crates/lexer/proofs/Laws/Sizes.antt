-- Every lexeme that takes bytes takes at least one and no more than there are, a token's kind is one of the kinds, and there is
-- an end only where no byte is left.
-- Assumes nothing.
use Prim.Native.Char.{code}
use Prim.Native.Nat.{ℕ, zero, suc, ◌+◌, ◌<◌, ◌≤◌, zero-le}
use mathlib.Core.Path.{◌≡◌, refl, sym, ◌∙◌}
use mathlib.Core.Bool.{Bool, true, false}
use mathlib.Core.List.{List, [], ◌∷◌}
use native.Mathlib.Omega.{arith}
use lib.Dec.{eqb, ltb, leb}
use lib.ListN.{length, take, drop, length-drop, length-take}
use borrow.Author.Tests.{ltb-true, leb-true}
use Rattle.lexer.specs.Tests.{and, or, pick}
use Rattle.lexer.specs.internal.Kinds.{ident, int, float, string, first_kind, last_kind}
use Rattle.lexer.specs.Bytes.{is_space, is_digit, is_in_string, run, begins_either}
use Rattle.lexer.specs.Spellings.{Spelling, same, kind_of, longest, reserved}
use Rattle.lexer.specs.Editions.{Edition}
use Rattle.lexer.specs.Words.{word_length, or_ident, word_kind, ident_length, two_colons, joins_within, joins}
use Rattle.lexer.specs.Numbers.{digits, with_digits, fraction, sign, exponent}
use Rattle.lexer.specs.Lexemes.{Lexeme, End, Skipped, Token, BadByte, OpenString}
use Rattle.lexer.specs.Lexemes.{skipped_spaces, spaces, comment, word_of, word}
use Rattle.lexer.specs.Lexemes.{number_of, unsigned_number, with_minus, number, text, mark_of, mark_up_to, mark, or_else, lexeme}
use Rattle.lexer.proofs.Laws.Tests.{and-false, and_left, and_right}
use Rattle.lexer.proofs.Laws.Runs.{run_le}
use Rattle.lexer.proofs.Laws.Words.{word_le}

-- a lexeme at the front of some bytes
pub data Proper (s : List ℕ) : Lexeme → Type 0 where
  proper_end : length s ≡ 0 → Proper s End
  proper_skip : {n : ℕ} → 0 < n → n ≤ length s → Proper s (Skipped n)
  proper_token : {k n : ℕ} → 0 < n → n ≤ length s → first_kind ≤ k → k ≤ last_kind → Proper s (Token k n)
  proper_bad : Proper s BadByte
  proper_open : Proper s OpenString

-- what it tells of a token
pub record TokenFacts (s : List ℕ) (k n : ℕ) : Type 0 where
  pub some : 0 < n
  pub within : n ≤ length s
  pub low : first_kind ≤ k
  pub high : k ≤ last_kind

pub of_token : {s : List ℕ} {k n : ℕ} → Proper s (Token k n) → TokenFacts s k n
of_token (proper_token a b c d) = record { some = a; within = b; low = c; high = d }

pub of_skip : {s : List ℕ} {n : ℕ} → Proper s (Skipped n) → (0 < n) × (n ≤ length s)
of_skip (proper_skip a b) = (a, b)

pub of_end : {s : List ℕ} → Proper s End → length s ≡ 0
of_end (proper_end h) = h

-- one of two proper lexemes is proper
proper_else : {s : List ℕ} (l m : Lexeme) → Proper s l → Proper s m → Proper s (or_else l m)
unfolding or_else
proper_else End m p q = p
proper_else (Skipped n) m p q = p
proper_else (Token k n) m p q = p
proper_else BadByte m p q = q
proper_else OpenString m p q = p

proper_spaces_of : (s : List ℕ) (n : ℕ) → n ≤ length s → Proper s (skipped_spaces n)
unfolding skipped_spaces
proper_spaces_of s zero h = proper_bad
proper_spaces_of s (suc n) h = proper_skip {n = suc n} (omega arith) h

proper_spaces : (s : List ℕ) → Proper s (spaces s)
unfolding spaces
proper_spaces s = proper_spaces_of s (run is_space s) (run_le is_space s)

-- both tests of a comment show a byte
proper_comment_by : (p : ℕ → Bool) (s : List ℕ) (t : Bool)
    → and (begins_either (code "/") (code "/") s) (begins_either (code "/") (code "/") (drop 1 s)) ≡ t
    → Proper s (pick t (Skipped (2 + run p (drop 2 s))) BadByte)
unfolding begins_either and or
proper_comment_by p s false e = proper_bad
proper_comment_by p [] true e = let z : ◌≡◌ {A = ℕ} 0 1 = cc in absurd (omega arith)
proper_comment_by p (a ∷ []) true e =
    let e' = sym (and-false (begins_either (code "/") (code "/") (a ∷ []))) ∙ e in
    let z : ◌≡◌ {A = ℕ} 0 1 = cc in
    absurd (omega arith)
proper_comment_by p (a ∷ b ∷ s) true e = proper_skip {n = 2 + run p s} (omega arith) (let l = run_le p s in omega arith)

proper_comment : (s : List ℕ) → Proper s (comment s)
unfolding comment
proper_comment s = proper_comment_by _ s _ refl

-- words
pub ident_le : (s : List ℕ) → ident_length s ≤ word_length s
unfolding ident_length
ident_le s = either (eqb (word_kind (take (word_length s) s)) ident)
  where
    either : (t : Bool) → pick t (word_length s) 0 ≤ word_length s
    either true = omega arith
    either false = omega arith

joins_le_by : (m : ℕ) (s : List ℕ) (t : Bool) → and (two_colons s) (ltb 0 (ident_length (drop 2 s))) ≡ t
    → joins_within m (drop (2 + ident_length (drop 2 s)) s) ≤ length (drop (2 + ident_length (drop 2 s)) s)
    → pick t (2 + ident_length (drop 2 s) + joins_within m (drop (2 + ident_length (drop 2 s)) s)) 0 ≤ length s
joins_le_by m s false e below = zero-le
joins_le_by m s true e below =
    let n = ident_length (drop 2 s) in
    let i = ident_le (drop 2 s) in
    let w = word_le (drop 2 s) in
    let l = length-drop 2 s in
    let r = length-drop (2 + n) s in
    let some = ltb-true 0 n (and_right _ _ e) in
    omega arith

joins_within_le : (m : ℕ) (s : List ℕ) → joins_within m s ≤ length s
unfolding joins_within
joins_within_le zero s = zero-le
joins_within_le (suc m) s = joins_le_by m s _ refl (joins_within_le m (drop (2 + ident_length (drop 2 s)) s))

pub joins_le : (s : List ℕ) → joins s ≤ length s
unfolding joins
joins_le s = joins_within_le (length s) s

-- a kind of the word list is a kind
or_ident_low : (k : ℕ) → first_kind ≤ or_ident k
unfolding or_ident
or_ident_low zero = omega arith
or_ident_low (suc k) = omega arith

or_ident_high : (k : ℕ) → k ≤ last_kind → or_ident k ≤ last_kind
unfolding or_ident
or_ident_high zero h = omega arith
or_ident_high (suc k) h = h

-- every kind in a list of spellings is a kind, and no spelling is empty
abbrev pub spelled : List Spelling → Bool
spelled [] = true
spelled (m ∷ ms) = and (and (leb m.kind last_kind) (ltb 0 (length m.text))) (spelled ms)

module _ (m : Spelling) (s : List ℕ) where
  high_by : (t : Bool) (rest : ℕ) → m.kind ≤ last_kind → rest ≤ last_kind → pick t m.kind rest ≤ last_kind
  high_by true rest h r = h
  high_by false rest h r = r

pub kind_high : (ms : List Spelling) → spelled ms ≡ true → (s : List ℕ) → kind_of ms s ≤ last_kind
unfolding kind_of
kind_high [] e s = zero-le
kind_high (m ∷ ms) e s =
    high_by m s (same m.text s) (kind_of ms s) (leb-true _ _ (and_left _ _ (and_left _ _ e))) (kind_high ms (and_right _ _ e) s)

same_empty : (t : List ℕ) → 0 < length t → same t [] ≡ false
unfolding same
same_empty [] h = absurd (omega arith)
same_empty (a ∷ t) h = refl

pub kind_empty : (ms : List Spelling) → spelled ms ≡ true → kind_of ms [] ≡ 0
unfolding kind_of
kind_empty [] e = refl
kind_empty (m ∷ ms) e =
    rw (same_empty m.text (ltb-true _ _ (and_right _ _ (and_left _ _ e)))) (kind_empty ms (and_right _ _ e))

proper_word_by : (s : List ℕ) (n k : ℕ) → n ≤ length s → first_kind ≤ k → k ≤ last_kind → Proper s (word_of n k s)
unfolding word_of
proper_word_by s zero k h low high = proper_bad
proper_word_by s (suc n) k h low high = either (eqb k ident)
  where
    either : (t : Bool) → Proper s (pick t (Token k (suc n + joins (drop (suc n) s))) (Token k (suc n)))
    either true =
        let j = joins_le (drop (suc n) s) in
        let l = length-drop (suc n) s in
        proper_token {k = k} {n = suc n + joins (drop (suc n) s)} (omega arith) (omega arith) low high
    either false = proper_token {k = k} {n = suc n} (omega arith) h low high

word_kind_high : (w : List ℕ) → word_kind w ≤ last_kind
unfolding word_kind and reserved
word_kind_high w = or_ident_high (kind_of reserved w) (kind_high reserved refl w)

word_kind_low : (w : List ℕ) → first_kind ≤ word_kind w
unfolding word_kind
word_kind_low w = or_ident_low (kind_of reserved w)

proper_word : (s : List ℕ) → Proper s (word s)
unfolding word
proper_word s = proper_word_by s _ _ (word_le s) (word_kind_low _) (word_kind_high _)

-- numbers
with_le : (n d l : ℕ) → (0 < d → n + d ≤ l) → with_digits n d ≤ l
unfolding with_digits
with_le n zero l h = zero-le
with_le n (suc d) l h = h (omega arith)

digits_le : (k : ℕ) (s : List ℕ) → 0 < digits (drop k s) → k + digits (drop k s) ≤ length s
digits_le k s h =
    let r = run_le is_digit (drop k s) in
    let l = length-drop k s in
    omega arith

pick_le : (t : Bool) (n l : ℕ) → n ≤ l → pick t n 0 ≤ l
pick_le true n l h = h
pick_le false n l h = zero-le

fraction_le : (s : List ℕ) → fraction s ≤ length s
unfolding fraction
fraction_le s = pick_le (begins_either (code ".") (code ".") s) _ _ (with_le 1 (digits (drop 1 s)) (length s) (digits_le 1 s))

pub sign_le : (s : List ℕ) → sign s ≤ length s
unfolding sign begins_either
sign_le [] = zero-le
sign_le (a ∷ s) = pick_le (or (eqb a (code "+")) (eqb a (code "-"))) 1 (suc (length s)) (omega arith)

exponent_le : (s : List ℕ) → exponent s ≤ length s
unfolding exponent
exponent_le s = pick_le (begins_either (code "e") (code "E") s) _ _ (with_le (1 + sign (drop 1 s)) _ (length s) (digits_le (1 + sign (drop 1 s)) s))

proper_number_of : (s : List ℕ) (n f : ℕ) → n + f ≤ length s → Proper s (number_of n f s)
unfolding number_of
proper_number_of s zero f h = proper_bad
proper_number_of s (suc n) zero h = proper_token {k = int} {n = suc n} (omega arith) (omega arith) (omega arith) (omega arith)
proper_number_of s (suc n) (suc f) h =
    let x = exponent_le (drop (suc n + suc f) s) in
    let l = length-drop (suc n + suc f) s in
    proper_token {k = float} {n = suc n + suc f + exponent (drop (suc n + suc f) s)} (omega arith) (omega arith) (omega arith) (omega arith)

pub proper_unsigned : (s : List ℕ) → Proper s (unsigned_number s)
unfolding unsigned_number
proper_unsigned s =
    let d = run_le is_digit s in
    let f = fraction_le (drop (digits s) s) in
    let l = length-drop (digits s) s in
    proper_number_of s (digits s) (fraction (drop (digits s) s)) (omega arith)

proper_minus : (b : ℕ) (s : List ℕ) (l : Lexeme) → Proper s l → Proper (b ∷ s) (with_minus l)
unfolding with_minus
proper_minus b s End p = proper_bad
proper_minus b s (Skipped n) p = proper_bad
proper_minus b s (Token k n) p =
    let t = of_token p in
    proper_token {k = k} {n = suc n} (omega arith) (omega arith) t.low t.high
proper_minus b s BadByte p = proper_bad
proper_minus b s OpenString p = proper_bad

proper_pick : {s : List ℕ} (t : Bool) (l m : Lexeme) → Proper s l → Proper s m → Proper s (pick t l m)
proper_pick true l m p q = p
proper_pick false l m p q = q

proper_number : (e : Edition) (b : ℕ) (s : List ℕ) → Proper (b ∷ s) (number e (b ∷ s))
unfolding number
proper_number e b s =
    proper_pick (and e.signed (begins_either (code "-") (code "-") (b ∷ s))) _ _ (proper_minus b s _ (proper_unsigned s)) (proper_unsigned (b ∷ s))

-- strings
proper_closed : (s : List ℕ) (n : ℕ) (t : Bool) → ltb (1 + n) (length s) ≡ t → Proper s (pick t (Token string (2 + n)) OpenString)
proper_closed s n true e =
    let l = ltb-true (1 + n) (length s) e in
    proper_token {k = string} {n = 2 + n} (omega arith) (omega arith) (omega arith) (omega arith)
proper_closed s n false e = proper_open

proper_text : (s : List ℕ) → Proper s (text s)
unfolding text
proper_text s =
    let n = run is_in_string (drop 1 s) in
    proper_pick (begins_either (code "`") (code "`") s) _ _ (proper_closed s n (ltb (1 + n) (length s)) refl) proper_bad

-- marks
module _ (ms : List Spelling) (good : spelled ms ≡ true) where
  proper_mark_of : (s w : List ℕ) (k : ℕ) (other : Lexeme) → length w ≤ length s → (w ≡ [] → k ≡ 0) → k ≤ last_kind
      → Proper s other → Proper s (mark_of k (length w) other)
  unfolding mark_of
  proper_mark_of s w zero other h some high p = p
  proper_mark_of s [] (suc k) other h some high p = let z = some refl in absurd (omega arith)
  proper_mark_of s (a ∷ w) (suc k) other h some high p =
      proper_token {k = suc k} {n = suc (length w)} (omega arith) h (omega arith) high

  proper_mark_up_to : (n : ℕ) (s : List ℕ) → Proper s (mark_up_to ms n s)
  unfolding mark_up_to
  proper_mark_up_to zero s = proper_bad
  proper_mark_up_to (suc n) s =
      proper_mark_of s (take (suc n) s) (kind_of ms (take (suc n) s)) _ (simp length-take (omega arith))
      (λ (q : take (suc n) s ≡ []). rw q (kind_empty ms good)) (kind_high ms good _) (proper_mark_up_to n s)

-- the lexeme at the front of some bytes is a proper one, for any edition whose marks are spelled
pub proper : (e : Edition) → spelled e.marks ≡ true → (s : List ℕ) → Proper s (lexeme e s)
unfolding lexeme mark
proper e good [] = proper_end refl
proper e good (b ∷ s) =
    proper_else _ _ (proper_spaces _) (proper_else _ _ (proper_comment _) (proper_else _ _ (proper_word _)
    (proper_else _ _ (proper_number e b s) (proper_else _ _ (proper_text _) (proper_mark_up_to e.marks good (longest e.marks) _)))))
