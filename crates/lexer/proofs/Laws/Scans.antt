-- The token list of a source, lexeme by lexeme: what it is from a place on. Assumes nothing.
use Prim.Native.Nat.{ℕ, zero, suc, ◌+◌, ◌<◌, ◌≤◌}
use mathlib.Core.Path.{◌≡◌, refl, sym, ◌∙◌, ap}
use mathlib.Core.Bool.{true}
use mathlib.Core.List.{List, [], ◌∷◌}
use native.Mathlib.Omega.{arith}
use native.Mathlib.Nat.{not-suc-le-zero}
use lib.ListN.{length, drop, length-drop}
use lib.Seq.{drop-drop}
use Rattle.lexer.specs.Editions.{Edition}
use Rattle.lexer.specs.Lexemes.{Lexeme, End, Skipped, BadByte, OpenString, lexeme}
use Rattle.lexer.specs.executable.Scans.{lexeme_size, follow, lexemes_within, lexemes, located, scan, Scan, cleanly, fault_after}
use Rattle.lexer.specs.executable.Scans.{with_token}
use Rattle.lexer.specs.Tokens.{Token}
use Rattle.lexer.proofs.Laws.Sizes.{Proper, of_token, of_skip, spelled, proper}

-- what follows a lexeme counts only where the lexeme takes bytes
follow_same : {s : List ℕ} (l : Lexeme) → Proper s l → (r q : List Lexeme) → (0 < lexeme_size l → r ≡ q) → follow l r ≡ follow l q
unfolding follow lexeme_size
follow_same End p r q h = refl
follow_same (Skipped n) p r q h = ap (λ (x : List Lexeme). Skipped n ∷ x) (h (of_skip p).0)
follow_same (Lexeme.Token k n) p r q h = ap (λ (x : List Lexeme). Lexeme.Token k n ∷ x) (h (of_token p).some)
follow_same BadByte p r q h = refl
follow_same OpenString p r q h = refl

module _ (e : Edition) (good : spelled e.marks ≡ true) where
  -- more lexemes allowed than there are bytes change nothing
  lexemes_enough : (m k : ℕ) (s : List ℕ) → length s ≤ m → length s ≤ k → lexemes_within e m s ≡ lexemes_within e k s
  unfolding lexemes_within lexeme follow
  lexemes_enough zero zero s hm hk = refl
  lexemes_enough zero (suc k) [] hm hk = refl
  lexemes_enough zero (suc k) (b ∷ s) hm hk = absurd (not-suc-le-zero hm)
  lexemes_enough (suc m) zero [] hm hk = refl
  lexemes_enough (suc m) zero (b ∷ s) hm hk = absurd (not-suc-le-zero hk)
  lexemes_enough (suc m) (suc k) s hm hk =
      let l = length-drop (lexeme_size (lexeme e s)) s in
      follow_same (lexeme e s) (proper e good s) _ _
      (λ (h : 0 < lexeme_size (lexeme e s)). lexemes_enough m k (drop (lexeme_size (lexeme e s)) s) (omega arith) (omega arith))

  -- the first lexeme, and those of the bytes after it
  lexemes_step : (s : List ℕ) → lexemes e s ≡ follow (lexeme e s) (lexemes e (drop (lexeme_size (lexeme e s)) s))
  unfolding lexemes lexemes_within
  lexemes_step s =
      let l = length-drop (lexeme_size (lexeme e s)) s in
      lexemes_enough (length s) (suc (length s)) s (omega arith) (omega arith)
      ∙ follow_same (lexeme e s) (proper e good s) _ _
      (λ (h : 0 < lexeme_size (lexeme e s)). lexemes_enough (length s) (length (drop (lexeme_size (lexeme e s)) s)) _ (omega arith) (omega arith))

-- the tokens of a scan are one list
pub found_once : (x : Scan) (ts us : List Token) → x ≡ cleanly ts → x ≡ cleanly us → ts ≡ us
found_once x ts us h k = sym (ap (λ (y : Scan). y.found) h) ∙ ap (λ (y : Scan). y.found) k

-- what some bytes are, the first of them at an offset
unfoldable pub scan_at : Edition → ℕ → List ℕ → Scan
scan_at e at s = located at (lexemes e s)

pub scan_at_start : (e : Edition) (s : List ℕ) → scan_at e 0 s ≡ scan e s
unfolding scan_at scan
scan_at_start e s = refl

-- .. by the lexeme at their front
module _ (e : Edition) (good : spelled e.marks ≡ true) (at : ℕ) (s : List ℕ) where
  pub at-end : lexeme e s ≡ End → scan_at e at s ≡ cleanly []
  unfolding scan_at follow located
  at-end h = rw (lexemes_step e good s, h)

  pub at_skip : (n : ℕ) → lexeme e s ≡ Skipped n → scan_at e at s ≡ scan_at e (at + n) (drop n s)
  unfolding scan_at follow located lexeme_size
  at_skip n h = rw (lexemes_step e good s, h)

  pub at_token : (k n : ℕ) → lexeme e s ≡ Lexeme.Token k n
      → scan_at e at s ≡ with_token (record { kind = k; start = at; size = n }) (scan_at e (at + n) (drop n s))
  unfolding scan_at follow located lexeme_size
  at_token k n h = rw (lexemes_step e good s, h)

  pub at_bad : lexeme e s ≡ BadByte → scan_at e at s ≡ fault_after [] 3 at
  unfolding scan_at follow located
  at_bad h = rw (lexemes_step e good s, h)

  pub at_open : lexeme e s ≡ OpenString → scan_at e at s ≡ fault_after [] 4 at
  unfolding scan_at follow located
  at_open h = rw (lexemes_step e good s, h)

-- what a source is from a place on
unfoldable pub scan_from : Edition → List ℕ → ℕ → Scan
scan_from e s at = scan_at e at (drop at s)

pub scan_from_start : (e : Edition) (s : List ℕ) → scan_from e s 0 ≡ scan e s
unfolding scan_from
scan_from_start e s = scan_at_start e s

module _ (e : Edition) (good : spelled e.marks ≡ true) (s : List ℕ) (at : ℕ) where
  pub scan_end : lexeme e (drop at s) ≡ End → scan_from e s at ≡ cleanly []
  unfolding scan_from
  scan_end h = at-end e good at (drop at s) h

  pub scan_skip : (n : ℕ) → lexeme e (drop at s) ≡ Skipped n → scan_from e s at ≡ scan_from e s (at + n)
  unfolding scan_from
  scan_skip n h = at_skip e good at (drop at s) n h ∙ rw drop-drop

  pub scan_token : (k n : ℕ) → lexeme e (drop at s) ≡ Lexeme.Token k n
      → scan_from e s at ≡ with_token (record { kind = k; start = at; size = n }) (scan_from e s (at + n))
  unfolding scan_from
  scan_token k n h = at_token e good at (drop at s) k n h ∙ rw drop-drop

  pub scan_bad : lexeme e (drop at s) ≡ BadByte → scan_from e s at ≡ fault_after [] 3 at
  unfolding scan_from
  scan_bad h = at_bad e good at (drop at s) h

  pub scan_open : lexeme e (drop at s) ≡ OpenString → scan_from e s at ≡ fault_after [] 4 at
  unfolding scan_from
  scan_open h = at_open e good at (drop at s) h
