-- The kinds of the tokens in a table: whether one is among some, patterns of them, the kinds of words, and what the arms of a match on
-- one know. Assumes nothing.
use Prim.Native.Nat.{ℕ, suc, ◌<◌}
use mathlib.Core.Path.{◌≡◌, refl, ◌∙◌, sym}
use mathlib.Core.Bool.{Bool, true, false, false≢true}
use mathlib.Core.Logic.{inl, inr}
use mathlib.Core.List.{List, [], ◌∷◌}
use native.Mathlib.Nat.{pos_of_ne-zero}
use native.Mathlib.Omega.{arith}
use native.Mathlib.Numerals.{add-one}
use lib.Dec.{eqb}
use lib.ListN.{drop}
use types.Run.{OneOf}
use borrow.Author.Tests.{eq-eqb, ne_eqb, eqb-true}
use Rattle.lexer.specs.Tests.{and, or, among}
use Rattle.lexer.specs.internal.Kinds.{ident, boolean, keyword}
use Rattle.lexer.specs.Table.{token_room}
use Rattle.lexer.specs.internal.TokenRows.{rows_of, kind_at}
use Rattle.lexer.specs.Items.{items}
use Rattle.lexer.proofs.Laws.Tests.{or-false, eqb_turn, and_left, and_right, or_else_lem, or_right}
use Rattle.grammar.specs.Grammars.{end_of_tokens}
use Rattle.grammar.specs.Questions.{Piece, fits}
use Rattle.grammar.specs.internal.Productions.{kind_piece}
use Rattle.grammar.proofs.Laws.Patterns.{fits_at}
use Rattle.parser.specs.internal.Steps.{kinds_at, word_kinds}
use Rattle.parser.proofs.Laws.Views.{kind_here, kind-inside}

pub among_single : (k n : ℕ) → among (k ∷ []) n ≡ eqb n k
unfolding among
among_single k n = or-false _ ∙ eqb_turn k n

pub among_two : (k l n : ℕ) → among (k ∷ l ∷ []) n ≡ or (eqb n k) (eqb n l)
unfolding among
among_two k l n = rw (or-false, eqb_turn k n, eqb_turn l n)

or_neither : (a b : Bool) → or a b ≡ false → (a ≡ false) × (b ≡ false)
unfolding or
or_neither true b h = let z : ◌≡◌ {A = ℕ} 0 1 = cc in absurd (omega arith)
or_neither false b h = (refl, h)

-- a pattern of single kinds
unfoldable pub singles : List ℕ → List Piece
singles [] = []
singles (k ∷ ks) = kind_piece k ∷ singles ks

pub kinds_fit : (source tokens : List ℕ) (at : ℕ) (ks : List ℕ) → among ks end_of_tokens ≡ false
    → fits (singles ks) (drop at (items source (rows_of tokens))) ≡ kinds_at tokens at ks
unfolding singles kinds_at fits among
kinds_fit source tokens at [] none = refl
kinds_fit source tokens at (k ∷ ks) none =
    let no = or_neither _ _ none in
    let first = among_single k (kind_at tokens at) in
    let rest = kinds_fit source tokens (suc at) ks no.1 in
    fits_at (k ∷ []) (singles ks) (items source (rows_of tokens)) at (or-false _ ∙ no.0)
    ∙ rw (kind_here source tokens at, first, rest, ← add-one at)

pub first_differs : (tokens : List ℕ) (at k : ℕ) (ks : List ℕ) → (kind_at tokens at ≡ k → ⊥) → kinds_at tokens at (k ∷ ks) ≡ false
unfolding kinds_at and
first_differs tokens at k ks other = rw (ne_eqb (kind_at tokens at) k other)

-- the arms of a match: a number that is one of some keys, or none of them
pub one_among : (ks : List ℕ) (n : ℕ) → OneOf ks n → among ks n ≡ true
unfolding among or
one_among [] n h = absurd h
one_among (k ∷ []) n h = rw (eq-eqb k n (sym h))
one_among (k ∷ l ∷ ks) n (inl h) = rw (eq-eqb k n (sym h))
one_among (k ∷ l ∷ ks) n (inr h) = or_right (eqb k n) _ (one_among (l ∷ ks) n h)

pub none-among : (ks : List ℕ) (n : ℕ) → (OneOf ks n → ⊥) → among ks n ≡ false
unfolding among or
none-among [] n h = refl
none-among (k ∷ []) n h = rw (ne_eqb k n (λ (q : k ≡ n). h (sym q)))
none-among (k ∷ l ∷ ks) n h = rw (ne_eqb k n (λ (q : k ≡ n). h (inl (sym q)))) (none-among (l ∷ ks) n (λ r. h (inr r)))

-- whether all numbers of the first list are in the second
unfoldable pub within : List ℕ → List ℕ → Bool
within [] ls = true
within (k ∷ ks) ls = and (among ls k) (within ks ls)

among-within : (ks ls : List ℕ) (n : ℕ) → within ks ls ≡ true → among ks n ≡ true → among ls n ≡ true
unfolding within among
among-within [] ls n w h = absurd (false≢true h)
among-within (k ∷ ks) ls n w h =
    or_else_lem (eqb k n) (among ks n)
    (λ e. rw (← eqb-true k n e) (and_left (among ls k) (within ks ls) w))
    (among-within ks ls n (and_right (among ls k) (within ks ls) w)) h

-- the order of the numbers does not matter
pub among_same : (ks ls : List ℕ) (n : ℕ) → within ks ls ≡ true → within ls ks ≡ true → among ks n ≡ among ls n
among_same ks ls n v w = cases (among ks n) (among ls n) refl refl
  where
    cases : (a b : Bool) → among ks n ≡ a → among ls n ≡ b → a ≡ b
    cases true b x y = sym (among-within ks ls n v x) ∙ y
    cases false true x y = sym x ∙ among-within ls ks n w y
    cases false false x y = refl

-- the kinds of words
pub word_ident : (keywords : Bool) → among (word_kinds keywords) ident ≡ true
unfolding word_kinds among or
word_ident true = refl
word_ident false = refl

pub word_boolean : (keywords : Bool) → among (word_kinds keywords) boolean ≡ true
unfolding word_kinds among or
word_boolean true = refl
word_boolean false = refl

pub word_keyword : (keywords : Bool) → among (word_kinds keywords) keyword ≡ keywords
unfolding word_kinds among or
word_keyword true = refl
word_keyword false = refl

pub no_word : (keywords : Bool) (k : ℕ) → (k ≡ ident → ⊥) → (k ≡ boolean → ⊥) → (k ≡ keyword → ⊥)
    → among (word_kinds keywords) k ≡ false
unfolding word_kinds among or
no_word true k a b c =
    rw (ne_eqb ident k (λ q. a (sym q)), ne_eqb boolean k (λ q. b (sym q)), ne_eqb keyword k (λ q. c (sym q)))
no_word false k a b c = rw (ne_eqb ident k (λ q. a (sym q)), ne_eqb boolean k (λ q. b (sym q)))

pub no_word_last : (keywords : Bool) → among (word_kinds keywords) end_of_tokens ≡ false
unfolding word_kinds among or
no_word_last true = refl
no_word_last false = refl

-- a word has a kind, ..
pub word_kind : (keywords : Bool) (k : ℕ) → among (word_kinds keywords) k ≡ true → 0 < k
word_kind keywords k is = pos_of_ne-zero (λ (z : k ≡ 0). false≢true (sym (no_word_last keywords) ∙ rw z at is))

-- .. and is a token of the table
pub word-inside : (keywords : Bool) (tokens : List ℕ) (at : ℕ) → among (word_kinds keywords) (kind_at tokens at) ≡ true
    → at < token_room tokens
word-inside keywords tokens at is = kind-inside tokens at (kind_at tokens at) refl (word_kind keywords (kind_at tokens at) is)
