-- The gaps between tokens: a space and a comment are passed over, and nothing else is. Assumes nothing.
use Prim.Native.Char.{code}
use Prim.Native.Nat.{ℕ, zero, suc, ◌+◌}
use mathlib.Core.Path.{◌≡◌, refl, sym, ◌∙◌}
use mathlib.Core.Bool.{Bool, true, false}
use mathlib.Core.List.{List, [], ◌∷◌}
use native.Mathlib.Nat.{add-zero, add-suc, suc-add}
use native.Mathlib.Omega.{arith}
use lib.Dec.{eqb, ltb}
use lib.ListN.{length, take, drop}
use lib.Seq.{drop-drop}
use borrow.Author.Tests.{eqb-true}
use Rattle.lexer.specs.Tests.{and, or, pick}
use Rattle.lexer.specs.internal.Kinds.{ident}
use Rattle.lexer.specs.Bytes.{is_space, is_in_line, is_in_string, begins_either, begins, run}
use Rattle.lexer.specs.Spellings.{Spelling, kind_of, longest}
use Rattle.lexer.specs.Editions.{Edition}
use Rattle.lexer.specs.Words.{word_length}
use Rattle.lexer.specs.Lexemes.{Lexeme, End, Skipped, Token, BadByte, OpenString}
use Rattle.lexer.specs.Lexemes.{skipped_spaces, spaces, comment, word_of, word}
use Rattle.lexer.specs.Lexemes.{number_of, unsigned_number, with_minus, number, text, mark_of, mark_up_to, mark, or_else, lexeme}
use Rattle.lexer.proofs.Laws.Tests.{and_left, and_right}
use Rattle.lexer.proofs.Laws.Fronts.{begins_one}
use Rattle.lexer.proofs.Laws.Runs.{run_nil, run_pass, run_stop}
use Rattle.lexer.proofs.Laws.Lexemes.{spaces_first, no_spaces}
use Rattle.lexer.proofs.Laws.Sizes.{spelled}
use Rattle.lexer.proofs.Laws.Scans.{scan_at, at_skip}

-- a lexeme that is not skipped
abbrev Solid : Lexeme → Type 0
Solid End = Unit
Solid (Skipped n) = ⊥
Solid (Token k n) = Unit
Solid BadByte = Unit
Solid OpenString = Unit

-- no rule but the first two gives one that is
solid_else : (l m : Lexeme) → Solid l → Solid m → Solid (or_else l m)
unfolding or_else
solid_else End m p q = tt
solid_else (Skipped n) m p q = p
solid_else (Token k n) m p q = tt
solid_else BadByte m p q = q
solid_else OpenString m p q = tt

solid_pick : (t : Bool) (l m : Lexeme) → Solid l → Solid m → Solid (pick t l m)
solid_pick true l m p q = p
solid_pick false l m p q = q

solid_word : (n k : ℕ) (s : List ℕ) → Solid (word_of n k s)
unfolding word_of
solid_word zero k s = tt
solid_word (suc n) k s = solid_pick (eqb k ident) _ _ tt tt

solid_number_of : (n f : ℕ) (s : List ℕ) → Solid (number_of n f s)
unfolding number_of
solid_number_of zero f s = tt
solid_number_of (suc n) zero s = tt
solid_number_of (suc n) (suc f) s = tt

solid_minus : (l : Lexeme) → Solid (with_minus l)
unfolding with_minus
solid_minus End = tt
solid_minus (Skipped n) = tt
solid_minus (Token k n) = tt
solid_minus BadByte = tt
solid_minus OpenString = tt

solid_number : (e : Edition) (s : List ℕ) → Solid (number e s)
unfolding number unsigned_number
solid_number e s = solid_pick (and e.signed (begins (code "-") s)) _ _ (solid_minus _) (solid_number_of _ _ s)

solid_text : (s : List ℕ) → Solid (text s)
unfolding text
solid_text s =
    let n = run is_in_string (drop 1 s) in
    solid_pick (begins (code "`") s) _ _ (solid_pick (ltb (1 + n) (length s)) _ _ tt tt) tt

solid_mark_of : (k n : ℕ) (other : Lexeme) → Solid other → Solid (mark_of k n other)
unfolding mark_of
solid_mark_of zero n other p = p
solid_mark_of (suc k) n other p = tt

solid_marks : (ms : List Spelling) (n : ℕ) (s : List ℕ) → Solid (mark_up_to ms n s)
unfolding mark_up_to
solid_marks ms zero s = tt
solid_marks ms (suc n) s = solid_mark_of (kind_of ms (take (suc n) s)) _ _ (solid_marks ms n s)

-- the test of a comment shows its two bytes
two_slashes : (s : List ℕ) → and (begins (code "/") s) (begins (code "/") (drop 1 s)) ≡ true → s ≡ code "/" ∷ code "/" ∷ drop 2 s
unfolding begins_either and
two_slashes [] h = let z : ◌≡◌ {A = ℕ} 0 1 = cc in absurd (omega arith)
two_slashes (a ∷ []) h =
    let none = and_right (begins (code "/") (a ∷ [])) false h in
    let z : ◌≡◌ {A = ℕ} 0 1 = cc in
    absurd (omega arith)
two_slashes (a ∷ b ∷ t) h =
    let first = begins_one (code "/") a (b ∷ t) (and_left (begins (code "/") (a ∷ b ∷ t)) _ h) in
    let second = begins_one (code "/") b t (and_right (begins (code "/") (a ∷ b ∷ t)) _ h) in
    rw (eqb-true a (code "/") first, eqb-true b (code "/") second)

slashes_by : (s : List ℕ) (n : ℕ) (other : Lexeme) → Solid other → or_else (comment s) other ≡ Skipped n → s ≡ code "/" ∷ code "/" ∷ drop 2 s
unfolding comment or_else
slashes_by s n other solid = either (and (begins (code "/") s) (begins (code "/") (drop 1 s))) _ refl
  where
    either : (t : Bool) (m : ℕ) → and (begins (code "/") s) (begins (code "/") (drop 1 s)) ≡ t
        → or_else (pick t (Skipped m) BadByte) other ≡ Skipped n → s ≡ code "/" ∷ code "/" ∷ drop 2 s
    either true m h q = two_slashes s h
    either false m h q = absurd (rw q at solid)

module _ (e : Edition) where
  solid_later : (s : List ℕ) → Solid (or_else (word s) (or_else (number e s) (or_else (text s) (mark e s))))
  unfolding word mark
  solid_later s =
      let solid-mark = solid_marks e.marks (longest e.marks) s in
      let from-text = solid_else (text s) (mark e s) (solid_text s) solid-mark in
      let from-number = solid_else (number e s) _ (solid_number e s) from-text in
      solid_else (word s) _ (solid_word (word_length s) _ s) from-number

  -- what is skipped and is not a space is a comment
  pub skipped_slashes : (b : ℕ) (t : List ℕ) (n : ℕ) → is_space b ≡ false → lexeme e (b ∷ t) ≡ Skipped n
      → b ∷ t ≡ code "/" ∷ code "/" ∷ drop 1 t
  unfolding lexeme or_else
  skipped_slashes b t n h q = slashes_by (b ∷ t) n _ (solid_later (b ∷ t)) (rw (no_spaces b t h) at q)

  space_lexeme : (b : ℕ) (t : List ℕ) → is_space b ≡ true → lexeme e (b ∷ t) ≡ Skipped (run is_space (b ∷ t))
  unfolding lexeme spaces skipped_spaces
  space_lexeme b t h = rw (run_pass is_space b t h) (spaces_first (suc (run is_space t)) _ (omega arith))

  comment-lexeme : (t : List ℕ) → lexeme e (code "/" ∷ code "/" ∷ t) ≡ Skipped (2 + run is_in_line t)
  unfolding lexeme or_else comment begins_either and or is_space
  comment-lexeme t = rw (no_spaces (code "/") (code "/" ∷ t) refl)

module _ (e : Edition) (good : spelled e.marks ≡ true) where
  -- as many spaces as stand at the front
  spaces_passed : (at : ℕ) (s : List ℕ) → scan_at e at s ≡ scan_at e (at + run is_space s) (drop (run is_space s) s)
  spaces_passed at [] = rw (run_nil is_space, add-zero)
  spaces_passed at (b ∷ t) = either (is_space b) refl
    where
      either : (q : Bool) → is_space b ≡ q → scan_at e at (b ∷ t) ≡ scan_at e (at + run is_space (b ∷ t)) (drop (run is_space (b ∷ t)) (b ∷ t))
      either true h = at_skip e good at (b ∷ t) (run is_space (b ∷ t)) (space_lexeme e b t h)
      either false h = rw (run_stop is_space b t h, add-zero)

  pub space_passed : (at b : ℕ) (t : List ℕ) → is_space b ≡ true → scan_at e at (b ∷ t) ≡ scan_at e (suc at) t
  space_passed at b t h = (rw (run_pass is_space b t h, add-suc, ← suc-add) at (spaces_passed at (b ∷ t))) ∙ sym (spaces_passed (suc at) t)

  pub comment_passed : (at : ℕ) (t : List ℕ)
      → scan_at e at (code "/" ∷ code "/" ∷ t) ≡ scan_at e (at + (2 + run is_in_line t)) (drop (run is_in_line t) t)
  comment_passed at t =
      let s = code "/" ∷ code "/" ∷ t in
      at_skip e good at s (2 + run is_in_line t) (comment-lexeme e t) ∙ rw (← drop-drop (run is_in_line t) 2 s)
