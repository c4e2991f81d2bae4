-- The token at the front of some bytes is the same where bytes behind it are cut off. Assumes nothing.
use Prim.Native.Char.{code}
use Prim.Native.Nat.{ℕ, zero, suc, ◌+◌, ◌<◌, ◌≤◌}
use mathlib.Core.Path.{◌≡◌, refl, sym, ◌∙◌, ap}
use mathlib.Core.Bool.{Bool, true, false}
use mathlib.Core.List.{List, [], ◌∷◌, ◌++◌, append-nil}
use native.Mathlib.Nat.{le_refl}
use native.Mathlib.Omega.{arith}
use lib.Dec.{eqb, ltb}
use lib.ListN.{length, take, drop, length-append, length-drop, length-take, take-append-drop}
use lib.Seq.{length-take-le, take_all, take-append-le, drop-append-le}
use borrow.Author.Tests.{eqb-true, eqb-false, ltb-true, ltb-false, lt-ltb}
use Rattle.lexer.specs.Tests.{and, or, pick}
use Rattle.lexer.specs.internal.Kinds.{ident, string}
use Rattle.lexer.specs.Bytes.{is_space, is_digit, is_letter, is_word_byte, is_in_string, begins_either, begins, run}
use Rattle.lexer.specs.Spellings.{Spelling, kind_of, longest}
use Rattle.lexer.specs.Editions.{Edition}
use Rattle.lexer.specs.Words.{word_length, word_kind, ident_length, two_colons, joins}
use Rattle.lexer.specs.Numbers.{digits, with_digits, fraction, sign, exponent}
use Rattle.lexer.specs.Lexemes.{Lexeme, Skipped, Token, BadByte, OpenString}
use Rattle.lexer.specs.Lexemes.{skipped_spaces, spaces, comment, word_of, word}
use Rattle.lexer.specs.Lexemes.{number_of, unsigned_number, with_minus, number, text, mark_of, mark_up_to, mark, lexeme}
use Rattle.lexer.specs.executable.Scans.{lexeme_size}
use Rattle.lexer.proofs.Laws.Tests.{and-false}
use Rattle.lexer.proofs.Laws.Runs.{run_nil, run_pass, run_stop}
use Rattle.lexer.proofs.Laws.Words.{word_nil, word_letter, word_none, word_le, ident_other}
use Rattle.lexer.proofs.Laws.Words.{colons_short, joins_none, joins_lost, joins-more}
use Rattle.lexer.proofs.Laws.Sizes.{of_token, spelled, kind_empty, ident_le, sign_le, proper}
use Rattle.lexer.proofs.Laws.Kept.{Kept, kept_else}

-- of the bytes w and r: what takes no more than w of both takes as much of w alone
abbrev Cut : (List ℕ → ℕ) → List ℕ → List ℕ → Type 0
Cut f w r = f (w ++ r) ≤ length w → f w ≡ f (w ++ r)

-- .. and a rule gives the same
abbrev RuleCut : (List ℕ → Lexeme) → List ℕ → List ℕ → Type 0
RuleCut rule w r = lexeme_size (rule (w ++ r)) ≤ length w → rule w ≡ rule (w ++ r)

-- .. also where a test picks one of two
cut_pick : (q : Bool) (f : List ℕ → ℕ) (w r : List ℕ) → Cut f w r → Cut (λ (s : List ℕ). pick q (f s) 0) w r
cut_pick true f w r p l = p l
cut_pick false f w r p l = refl

rule-pick : (q : Bool) (f g : List ℕ → Lexeme) (w r : List ℕ) → RuleCut f w r → RuleCut g w r
    → RuleCut (λ (s : List ℕ). pick q (f s) (g s)) w r
rule-pick true f g w r p o l = p l
rule-pick false f g w r p o l = o l

run_cut : (p : ℕ → Bool) (w r : List ℕ) → Cut (run p) w r
run_cut p [] r l = run_nil p ∙ omega arith
run_cut p (b ∷ w) r l = by (p b) refl (run_cut p w r)
  where
    by : (q : Bool) → p b ≡ q → Cut (run p) w r → run p (b ∷ w) ≡ run p (b ∷ w ++ r)
    by true h on =
        let e = run_pass p b (w ++ r) h in
        rw (run_pass p b w h, run_pass p b (w ++ r) h, on (omega arith))
    by false h on = rw (run_stop p b w h, run_stop p b (w ++ r) h)

-- words
word_cut : (w r : List ℕ) → Cut word_length w r
word_cut [] r l = word_nil ∙ omega arith
word_cut (b ∷ w) r l = by (is_letter b) refl
  where
    by : (q : Bool) → is_letter b ≡ q → word_length (b ∷ w) ≡ word_length (b ∷ w ++ r)
    by true h =
        let e = word_letter b (w ++ r) h in
        rw (word_letter b w h, word_letter b (w ++ r) h, run_cut is_word_byte w r (omega arith))
    by false h = rw (word_none b w h, word_none b (w ++ r) h)

ident-same : (w r : List ℕ) → word_length w ≡ word_length (w ++ r) → ident_length w ≡ ident_length (w ++ r)
unfolding ident_length
ident-same w r same = rw (← same, take-append-le (word_length w) w r (word_le w))

ident_cut : (w r : List ℕ) → Cut ident_length w r
ident_cut [] r l =
    let e = ident_le [] in
    let z = word_nil in
    omega arith
ident_cut (b ∷ w) r l = by (eqb (word_length (b ∷ w ++ r)) 1) refl
  where
    by : (q : Bool) → eqb (word_length (b ∷ w ++ r)) 1 ≡ q → ident_length (b ∷ w) ≡ ident_length (b ∷ w ++ r)
    by true h =
        let one = eqb-true (word_length (b ∷ w ++ r)) 1 h in
        ident-same (b ∷ w) r (word_cut (b ∷ w) r (omega arith))
    by false h =
        let e = ident_other (b ∷ w ++ r) (eqb-false (word_length (b ∷ w ++ r)) 1 h) in
        ident-same (b ∷ w) r (word_cut (b ∷ w) r (omega arith))

colons_cut : (w r : List ℕ) → 2 ≤ length w → two_colons w ≡ two_colons (w ++ r)
unfolding two_colons
colons_cut [] r l = absurd (omega arith)
colons_cut (a ∷ []) r l = absurd (omega arith)
colons_cut (a ∷ b ∷ w) r l = refl

-- a join takes two bytes at least
joins_few : (s : List ℕ) → joins s < 2 → joins s ≡ 0
joins_few s few = by (two_colons s) (ltb 0 (ident_length (drop 2 s))) refl refl
  where
    by : (two some : Bool) → two_colons s ≡ two → ltb 0 (ident_length (drop 2 s)) ≡ some → joins s ≡ 0
    by false some h g = joins_none s h
    by true false h g = let none = ltb-false 0 (ident_length (drop 2 s)) g in joins_lost s (omega arith)
    by true true h g = let all = joins-more s h (ltb-true 0 (ident_length (drop 2 s)) g) in absurd (omega arith)

-- where there are two bytes, and what is so after a join
module _ (w r : List ℕ) (two_bytes : 2 ≤ length w) (on : (n : ℕ) → Cut joins (drop (2 + n) w) r) where
  behind : ident_length (drop 2 (w ++ r)) ≡ ident_length (drop 2 w ++ r)
  behind = ap ident_length (drop-append-le 2 w r two_bytes)

  joins_cut_lost : ident_length (drop 2 (w ++ r)) ≡ 0 → joins w ≡ joins (w ++ r)
  joins_cut_lost none =
      let same = behind in
      joins_lost w (ident_cut (drop 2 w) r (omega arith) ∙ omega arith) ∙ sym (joins_lost (w ++ r) none)

  joins_cut_more : two_colons (w ++ r) ≡ true → 0 < ident_length (drop 2 (w ++ r)) → Cut joins w r
  joins_cut_more h some l =
      let n = ident_length (drop 2 w ++ r) in
      let same = behind in
      let all = joins-more (w ++ r) h some in
      let d = length-drop 2 w in
      let here : ident_length (drop 2 w) ≡ n = ident_cut (drop 2 w) r (omega arith) in
      let e = length-drop (2 + n) w in
      let whole : joins (w ++ r) ≡ 2 + n + joins (drop (2 + n) w ++ r) = all ∙ rw (same, drop-append-le (2 + n) w r (omega arith)) in
      joins-more w (colons_cut w r two_bytes ∙ h) (omega arith) ∙ rw (here, on n (omega arith)) (sym whole)

  joins_cut_by : (two some : Bool) → two_colons (w ++ r) ≡ two → ltb 0 (ident_length (drop 2 (w ++ r))) ≡ some → Cut joins w r
  joins_cut_by false some h g l = joins_none w (colons_cut w r two_bytes ∙ h) ∙ sym (joins_none (w ++ r) h)
  joins_cut_by true false h g l = let none = ltb-false 0 (ident_length (drop 2 (w ++ r))) g in joins_cut_lost (omega arith)
  joins_cut_by true true h g l = joins_cut_more h (ltb-true 0 (ident_length (drop 2 (w ++ r))) g) l

joins_cut_either : (w r : List ℕ) → ((n : ℕ) → Cut joins (drop (2 + n) w) r) → (few : Bool) → ltb (length w) 2 ≡ few → Cut joins w r
joins_cut_either w r on true h l =
    let few = ltb-true (length w) 2 h in
    joins_none w (colons_short w few) ∙ sym (joins_few (w ++ r) (omega arith))
joins_cut_either w r on false h l = joins_cut_by w r (ltb-false (length w) 2 h) on _ _ refl refl l

joins_cut : (m : ℕ) (w r : List ℕ) → length w ≤ m → Cut joins w r
joins_cut zero w r near l = joins_none w (colons_short w (omega arith)) ∙ sym (joins_few (w ++ r) (omega arith))
joins_cut (suc m) w r near l =
    joins_cut_either w r (λ n. let d = length-drop (2 + n) w in joins_cut m (drop (2 + n) w) r (omega arith)) _ refl l

word_size : (n k : ℕ) (s : List ℕ) → n ≤ lexeme_size (word_of n k s)
unfolding word_of lexeme_size
word_size zero k s = omega arith
word_size (suc n) k s = either (eqb k ident)
  where
    either : (q : Bool) → suc n ≤ lexeme_size (pick q (Token k (suc n + joins (drop (suc n) s))) (Token k (suc n)))
    either true = omega arith
    either false = omega arith

word_of_cut : (n k : ℕ) (w r : List ℕ) → n ≤ length w → RuleCut (word_of n k) w r
unfolding word_of lexeme_size
word_of_cut zero k w r h l = refl
word_of_cut (suc n) k w r h l = rule-pick (eqb k ident) joined (λ (s : List ℕ). Token k (suc n)) w r with_joins (λ l. refl) l
  where
    joined : List ℕ → Lexeme
    joined s = Token k (suc n + joins (drop (suc n) s))

    with_joins : RuleCut joined w r
    with_joins l =
        let d = length-drop (suc n) w in
        let moved = ap joins (drop-append-le (suc n) w r h) in
        rw moved (rw (joins_cut (length (drop (suc n) w)) (drop (suc n) w) r (omega arith) (omega arith)))

word-rule : (w r : List ℕ) → RuleCut word w r
unfolding word
word-rule w r l =
    let n = word_length (w ++ r) in
    let k = word_kind (take n (w ++ r)) in
    let least = word_size n k (w ++ r) in
    let inside : n ≤ length w = omega arith in
    rw (word_cut w r inside, ← take-append-le n w r inside) (word_of_cut n k w r inside l)

-- numbers
with_within : (n d l : ℕ) → with_digits n d ≤ l → n ≤ l → n + d ≤ l
unfolding with_digits
with_within n zero l h g = omega arith
with_within n (suc d) l h g = h

with_few : (n d : ℕ) → 1 ≤ n → with_digits n d ≤ 1 → 0 ≡ with_digits n d
unfolding with_digits
with_few n zero some h = refl
with_few n (suc d) some h = absurd (omega arith)

-- a point's digits, with the point
abbrev decimals : List ℕ → ℕ
decimals s = with_digits 1 (digits (drop 1 s))

decimals_cut : (a : ℕ) (w r : List ℕ) → Cut decimals (a ∷ w) r
decimals_cut a w r l =
    let h = with_within 1 (digits (w ++ r)) (suc (length w)) l (omega arith) in
    rw (run_cut is_digit w r (omega arith))

fraction_cut : (w r : List ℕ) → Cut fraction w r
unfolding fraction begins_either
fraction_cut [] r l = omega arith
fraction_cut (a ∷ w) r l = cut_pick (or (eqb a (code ".")) (eqb a (code "."))) decimals (a ∷ w) r (decimals_cut a w r) l

-- the digits of an exponent, with its `e` and its sign
abbrev power : List ℕ → ℕ
power s = with_digits (1 + sign (drop 1 s)) (digits (drop (1 + sign (drop 1 s)) s))

same_sign : (b : ℕ) (w r : List ℕ) → sign (b ∷ w ++ r) ≡ sign (b ∷ w)
unfolding sign begins_either
same_sign b w r = refl

power_cut : (a : ℕ) (w r : List ℕ) → Cut power (a ∷ w) r
unfolding sign begins_either with_digits
power_cut a [] r l = rw (run_nil is_digit) (with_few (1 + sign r) (digits (drop (1 + sign r) (a ∷ r))) (omega arith) l)
power_cut a (b ∷ w) r l =
    let n = 1 + sign (b ∷ w) in
    let le = sign_le (b ∷ w) in
    let moved : drop n (a ∷ b ∷ w ++ r) ≡ drop n (a ∷ b ∷ w) ++ r = drop-append-le n (a ∷ b ∷ w) r (omega arith) in
    let h = with_within n (digits (drop n (a ∷ b ∷ w) ++ r)) (suc (suc (length w))) (rw (same_sign b w r, moved) at l) (omega arith) in
    let d = length-drop n (a ∷ b ∷ w) in
    rw (same_sign b w r, moved) (rw (run_cut is_digit (drop n (a ∷ b ∷ w)) r (omega arith)))

exponent_cut : (w r : List ℕ) → Cut exponent w r
unfolding exponent begins_either
exponent_cut [] r l = omega arith
exponent_cut (a ∷ w) r l = cut_pick (or (eqb a (code "e")) (eqb a (code "E"))) power (a ∷ w) r (power_cut a w r) l

-- a number has at least its digits and its fraction
digits_size : (n f : ℕ) (s : List ℕ) → n ≤ lexeme_size (number_of n f s)
unfolding number_of lexeme_size
digits_size zero f s = omega arith
digits_size (suc n) zero s = omega arith
digits_size (suc n) (suc f) s = omega arith

fraction_size : (n f : ℕ) (s : List ℕ) → suc n + f ≤ lexeme_size (number_of (suc n) f s)
unfolding number_of lexeme_size
fraction_size n zero s = omega arith
fraction_size n (suc f) s = omega arith

number_of_cut : (n f : ℕ) (w r : List ℕ) → n + f ≤ length w → RuleCut (number_of n f) w r
unfolding number_of lexeme_size
number_of_cut zero f w r h l = refl
number_of_cut (suc n) zero w r h l = refl
number_of_cut (suc n) (suc f) w r h l =
    let d = length-drop (suc n + suc f) w in
    let moved = ap exponent (drop-append-le (suc n + suc f) w r h) in
    rw moved (rw (exponent_cut (drop (suc n + suc f) w) r (omega arith)))

unsigned_by : (n : ℕ) (w r : List ℕ) → n ≤ length w → lexeme_size (number_of n (fraction (drop n w ++ r)) (w ++ r)) ≤ length w
    → number_of n (fraction (drop n w)) w ≡ number_of n (fraction (drop n w ++ r)) (w ++ r)
unfolding number_of
unsigned_by zero w r h l = refl
unsigned_by (suc n) w r h l =
    let least = fraction_size n (fraction (drop (suc n) w ++ r)) (w ++ r) in
    let d = length-drop (suc n) w in
    rw (fraction_cut (drop (suc n) w) r (omega arith)) (number_of_cut (suc n) (fraction (drop (suc n) w ++ r)) w r (omega arith) l)

unsigned_cut : (w r : List ℕ) → RuleCut unsigned_number w r
unfolding unsigned_number
unsigned_cut w r l =
    let n = digits (w ++ r) in
    let least = digits_size n (fraction (drop n (w ++ r))) (w ++ r) in
    let inside : n ≤ length w = omega arith in
    let moved = drop-append-le n w r inside in
    rw (run_cut is_digit w r inside, moved) (unsigned_by n w r inside (rw moved at l))

below_minus_by : (n f l : ℕ) (s : List ℕ) → lexeme_size (with_minus (number_of n f s)) ≤ suc l → lexeme_size (number_of n f s) ≤ l
unfolding number_of with_minus lexeme_size
below_minus_by zero f l s h = omega arith
below_minus_by (suc n) zero l s h = omega arith
below_minus_by (suc n) (suc f) l s h = omega arith

below_minus : (s : List ℕ) (l : ℕ) → lexeme_size (with_minus (unsigned_number s)) ≤ suc l → lexeme_size (unsigned_number s) ≤ l
unfolding unsigned_number
below_minus s l h = below_minus_by (digits s) (fraction (drop (digits s) s)) l s h

-- a number after a minus
abbrev negative : List ℕ → Lexeme
negative s = with_minus (unsigned_number (drop 1 s))

negative_cut : (b : ℕ) (w r : List ℕ) → RuleCut negative (b ∷ w) r
negative_cut b w r l = rw (unsigned_cut w r (below_minus (w ++ r) (length w) l))

number-rule : (e : Edition) (b : ℕ) (w r : List ℕ) → RuleCut (number e) (b ∷ w) r
unfolding number begins_either
number-rule e b w r =
    rule-pick (and e.signed (or (eqb b (code "-")) (eqb b (code "-")))) negative unsigned_number (b ∷ w) r
    (negative_cut b w r) (unsigned_cut (b ∷ w) r)

-- marks: more bytes allowed for one than there are change nothing
module _ (ms : List Spelling) (good : spelled ms ≡ true) where
  past_by : (n k : ℕ) (w : List ℕ) → kind_of ms w ≡ k → length w ≤ n → mark_of k (length w) (mark_up_to ms n w) ≡ mark_up_to ms n w
  unfolding mark_of mark_up_to
  past_by n zero w h l = refl
  past_by zero (suc k) [] h l = let z = kind_empty ms good in absurd (omega arith)
  past_by zero (suc k) (b ∷ w) h l = absurd (omega arith)
  past_by (suc n) (suc k) w h l = rw (take_all (suc n) w l, h)

  marks_past : (n : ℕ) (w : List ℕ) → length w ≤ n → mark_up_to ms (suc n) w ≡ mark_up_to ms n w
  unfolding mark_up_to
  marks_past n w l = rw (take_all (suc n) w (omega arith)) (past_by n (kind_of ms w) w refl l)

module _ (ms : List Spelling) (good : spelled ms ≡ true) (w : List ℕ) where
  module _ (x : ℕ) (r : List ℕ) where
    marks_some : (n : ℕ) → RuleCut (mark_up_to ms n) w (x ∷ r)
    unfolding mark_up_to mark_of lexeme_size
    marks_some zero l = refl
    marks_some (suc n) l = by (ltb (length w) (suc n)) _ refl refl (marks_some n) l
      where
        front : List ℕ
        front = take (suc n) (w ++ x ∷ r)

        found : ℕ → Lexeme
        found k = mark_of k (length front) (mark_up_to ms n (w ++ x ∷ r))

        by : (q : Bool) (k : ℕ) → ltb (length w) (suc n) ≡ q → kind_of ms front ≡ k → RuleCut (mark_up_to ms n) w (x ∷ r)
            → lexeme_size (found k) ≤ length w → mark_up_to ms (suc n) w ≡ found k
        by true zero h g on l =
            let past = ltb-true (length w) (suc n) h in
            marks_past ms good n w (omega arith) ∙ on l
        by true (suc k) h g on l =
            let past = ltb-true (length w) (suc n) h in
            let t = length-take (suc n) (w ++ x ∷ r) in
            let a = length-append w (x ∷ r) in
            absurd (omega arith)
        by false zero h g on l = rw (← take-append-le (suc n) w (x ∷ r) (ltb-false (length w) (suc n) h), g) (on l)
        by false (suc k) h g on l = rw (← take-append-le (suc n) w (x ∷ r) (ltb-false (length w) (suc n) h), g)

  marks_cut : (n : ℕ) (r : List ℕ) → RuleCut (mark_up_to ms n) w r
  marks_cut n [] l = rw (append-nil w)
  marks_cut n (x ∷ r) l = marks_some x r n l

-- the other rules, at a first byte b
spaces-rule : (n b : ℕ) (w r : List ℕ) → Kept n (spaces (b ∷ w ++ r)) (spaces (b ∷ w))
unfolding spaces skipped_spaces
spaces-rule n b w r small plain = by (is_space b) refl small plain
  where
    by : (q : Bool) → is_space b ≡ q → Kept n (skipped_spaces (run is_space (b ∷ w ++ r))) (skipped_spaces (run is_space (b ∷ w)))
    by true h small plain = absurd (rw (run_pass is_space b (w ++ r) h) at plain)
    by false h small plain = rw (run_stop is_space b w h, run_stop is_space b (w ++ r) h)

comment-pick : (n : ℕ) (q : Bool) (l m : ℕ) → Kept n (pick q (Skipped l) BadByte) (pick q (Skipped m) BadByte)
comment-pick n true l m small plain = absurd plain
comment-pick n false l m small plain = refl

comment_lost : (n : ℕ) (q : Bool) (l : ℕ) → Kept n (pick q (Skipped l) BadByte) BadByte
comment_lost n true l small plain = absurd plain
comment_lost n false l small plain = refl

comment-rule : (n b : ℕ) (w r : List ℕ) → Kept n (comment (b ∷ w ++ r)) (comment (b ∷ w))
unfolding comment begins_either
comment-rule n b [] r = rw (and-false (begins (code "/") (b ∷ []))) (comment_lost n (and (begins (code "/") (b ∷ r)) (begins (code "/") r)) _)
comment-rule n b (c ∷ w) r = comment-pick n (and (begins (code "/") (b ∷ [])) (begins (code "/") (c ∷ []))) _ _

-- a string of so many bytes inside, closed or not
abbrev texted : Bool → ℕ → Lexeme
texted closed n = pick closed (Token string (2 + n)) OpenString

text-rule : (b : ℕ) (w r : List ℕ) → Kept (suc (length w)) (text (b ∷ w ++ r)) (text (b ∷ w))
unfolding text begins_either lexeme_size
text-rule b w r = by (or (eqb b (code "`")) (eqb b (code "`"))) (ltb (1 + inside) (suc (length (w ++ r))))
  where
    inside : ℕ
    inside = run is_in_string (w ++ r)

    here : Lexeme
    here = texted (ltb (1 + run is_in_string w) (suc (length w))) (run is_in_string w)

    by : (q closed : Bool) → Kept (suc (length w)) (pick q (texted closed inside) BadByte) (pick q here BadByte)
    by true true small plain =
        let same = run_cut is_in_string w r (omega arith) in
        rw (same, lt-ltb (1 + inside) (suc (length w)) (omega arith))
    by true false small plain = absurd plain
    by false closed small plain = refl

-- the token at the front of some bytes is the same where bytes behind it are cut off
pub lexeme_cut : (e : Edition) → spelled e.marks ≡ true → (b : ℕ) (w r : List ℕ)
    → Kept (suc (length w)) (lexeme e (b ∷ w ++ r)) (lexeme e (b ∷ w))
unfolding lexeme mark
lexeme_cut e good b w r =
    let n = suc (length w) in
    kept_else n _ _ _ _ (spaces-rule n b w r)
    (kept_else n _ _ _ _ (comment-rule n b w r)
    (kept_else n _ _ _ _ (λ small plain. word-rule (b ∷ w) r small)
    (kept_else n _ _ _ _ (λ small plain. number-rule e b w r small)
    (kept_else n _ _ _ _ (text-rule b w r) (λ small plain. marks_cut e.marks good (b ∷ w) (longest e.marks) r small)))))

-- .. so the bytes of a token are that token alone
module _ (e : Edition) (good : spelled e.marks ≡ true) where
  cut_off : (k : ℕ) (w r : List ℕ) → 0 < length w → lexeme e (w ++ r) ≡ Token k (length w) → lexeme e w ≡ Token k (length w)
  unfolding lexeme_size
  cut_off k [] r some h = absurd (omega arith)
  cut_off k (b ∷ w) r some h = lexeme_cut e good b w r (rw h (le_refl (suc (length w)))) (rw h tt) ∙ h

  pub token_alone : (k n : ℕ) (s : List ℕ) → lexeme e s ≡ Token k n → lexeme e (take n s) ≡ Token k n
  token_alone k n s h =
      let p = of_token (rw h at (proper e good s)) in
      let whole = length-take-le n s p.within in
      rw whole at (cut_off k (take n s) (drop n s) (rw whole p.some) (rw (take-append-drop, whole) h))
