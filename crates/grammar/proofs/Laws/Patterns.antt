-- Patterns at a place of some tokens: what a piece asks of the kind there, and how a run of kinds goes on. Assumes nothing.
use Prim.Native.Nat.{ℕ, zero, suc, ◌+◌}
use mathlib.Core.Path.{◌≡◌, refl, ◌∙◌, sym}
use mathlib.Core.Bool.{true, false}
use mathlib.Core.List.{List, [], ◌∷◌}
use lib.Dec.{eqb, ltb}
use lib.ListN.{drop, get_or}
use lib.Seq.{drop-drop}
use borrow.Author.Tests.{eqb-true}
use Rattle.lexer.specs.Tests.{and, pick, among}
use Rattle.lexer.specs.Items.{Item}
use Rattle.lexer.proofs.Laws.Tests.{or-false}
use Rattle.grammar.specs.Grammars.{end_of_tokens}
use Rattle.grammar.specs.Questions.{Piece, one_of, some_of, spelled, is_text, run_of, fits}
use Rattle.grammar.specs.Languages.{no_item}

pub among_one : (k n : ℕ) → among (k ∷ []) n ≡ true → n ≡ k
unfolding among
among_one k n h = sym (eqb-true k n (sym (or-false _) ∙ h))

-- a pattern that begins with a token of some kinds
pub fits_at : (ks : List ℕ) (ps : List Piece) (ts : List Item) (i : ℕ) → among ks end_of_tokens ≡ false
    → fits (one_of ks ∷ ps) (drop i ts) ≡ and (among ks (get_or ts i no_item).kind) (fits ps (drop (suc i) ts))
unfolding fits and
fits_at ks ps [] zero none = rw none
fits_at ks ps [] (suc i) none = rw none
fits_at ks ps (t ∷ ts) zero none = refl
fits_at ks ps (t ∷ ts) (suc i) none = fits_at ks ps ts i none

-- .. or with a token of a kind and with one of some texts
pub fits-spelled : (k : ℕ) (texts : List (List ℕ)) (ps : List Piece) (ts : List Item) (i : ℕ) → eqb k end_of_tokens ≡ false
    → let t = get_or ts i no_item in
    fits (spelled k texts ∷ ps) (drop i ts) ≡ and (and (eqb k t.kind) (is_text texts t.text)) (fits ps (drop (suc i) ts))
unfolding fits and
fits-spelled k texts ps [] zero none = rw none
fits-spelled k texts ps [] (suc i) none = rw none
fits-spelled k texts ps (t ∷ ts) zero none = refl
fits-spelled k texts ps (t ∷ ts) (suc i) none = fits-spelled k texts ps ts i none

-- a run of tokens of some kinds
pub run_at : (ks : List ℕ) (ts : List Item) (i : ℕ) → among ks end_of_tokens ≡ false
    → run_of ks (drop i ts) ≡ pick (among ks (get_or ts i no_item).kind) (suc (run_of ks (drop (suc i) ts))) 0
unfolding run_of
run_at ks [] zero none = rw none
run_at ks [] (suc i) none = rw none
run_at ks (t ∷ ts) zero none = refl
run_at ks (t ∷ ts) (suc i) none = run_at ks ts i none

-- a pattern that begins with one
pub fits_run : (ks : List ℕ) (ps : List Piece) (ts : List Item) (i : ℕ)
    → fits (some_of ks ∷ ps) (drop i ts)
    ≡ and (ltb 0 (run_of ks (drop i ts))) (fits ps (drop (i + run_of ks (drop i ts)) ts))
unfolding fits
fits_run ks ps ts i = rw (drop-drop)
