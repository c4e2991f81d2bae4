-- A source is gaps and the tokens of its scan in turn, and gaps and tokens in no other way. Assumes nothing.
use Prim.Native.Char.{code}
use Prim.Native.Nat.{ℕ, zero, suc, ◌+◌, ◌≤◌}
use mathlib.Core.Path.{◌≡◌, refl, sym, ◌∙◌}
use mathlib.Core.Bool.{Bool, true, false}
use mathlib.Core.List.{List, [], ◌∷◌, ◌++◌}
use native.Mathlib.Omega.{arith}
use lib.ListN.{length, take, drop, length-drop, take-append-drop}
use lib.Seq.{length-take-le, drop-append_seam}
use Rattle.lexer.specs.Bytes.{is_space, is_in_line, run}
use Rattle.lexer.specs.Editions.{Edition}
use Rattle.lexer.specs.Lexemes.{Lexeme, End, Skipped, BadByte, OpenString, lexeme}
use Rattle.lexer.specs.Tokens.{Token, Ending, Tiles, ended, skips_space, skips_comment, finds_token, meets_bad_byte}
use Rattle.lexer.specs.Tokens.{meets_open_string}
use Rattle.lexer.specs.executable.Scans.{Scan, with_token, scan}
use Rattle.lexer.proofs.Laws.Runs.{run_le}
use Rattle.lexer.proofs.Laws.Sizes.{of_end, of_token, spelled, proper}
use Rattle.lexer.proofs.Laws.Scans.{scan_at, scan_at_start, at-end, at_token, at_bad, at_open}
use Rattle.lexer.proofs.Laws.Gaps.{skipped_slashes, space_passed, comment_passed}
use Rattle.lexer.proofs.Laws.Cuts.{token_alone}

-- some bytes, the first of them at an offset, are gaps and the tokens of a scan, and end as it does
abbrev Tiled : Edition → ℕ → List ℕ → Scan → Type 0
Tiled e at s x = Tiles e at s x.found x.ending

-- .. of what the definition makes of them, where they are at most so many
abbrev TiledUpTo : Edition → ℕ → Type 0
TiledUpTo e n = (at : ℕ) (s : List ℕ) → length s ≤ n → Tiled e at s (scan_at e at s)

-- a comment or a token at the front, and the bytes after it
module _ (e : Edition) (at n : ℕ) (s front rest : List ℕ) (whole : front ++ rest ≡ s) (size : length front ≡ n) (x : Scan) where
  comment_front : run is_in_line s ≡ n → Tiled e (at + (2 + n)) rest x → Tiled e at (code "/" ∷ code "/" ∷ s) x
  comment_front stops after = rw (← whole) (skips_comment front {s = rest} (rw whole (stops ∙ sym size)) (rw (← size) at after))

  token_front : (k : ℕ) → lexeme e front ≡ Lexeme.Token k n → lexeme e s ≡ Lexeme.Token k n → Tiled e (at + n) rest x
      → Tiled e at s (with_token (record { kind = k; start = at; size = n }) x)
  unfolding with_token
  token_front k alone here after =
      rw (← whole, ← size) (finds_token front (rw (← size) at alone) (rw (← whole, ← size) at here) (rw (← size) at after))

module _ (e : Edition) (good : spelled e.marks ≡ true) where
  tiled_nil : (at : ℕ) → Tiled e at [] (scan_at e at [])
  unfolding lexeme
  tiled_nil at = rw (at-end e good at [] refl) ended

  -- one byte more: what stands at the front, and the bytes after it
  module _ (n : ℕ) (after : TiledUpTo e n) (at : ℕ) where
    tiled_comment : (t : List ℕ) → length t ≤ n → Tiled e at (code "/" ∷ code "/" ∷ t) (scan_at e at (code "/" ∷ code "/" ∷ t))
    tiled_comment t near =
        let m = run is_in_line t in
        let l = length-drop m t in
        let size = length-take-le m t (run_le is_in_line t) in
        rw (comment_passed e good at t)
        (comment_front e at m t (take m t) (drop m t) (take-append-drop m t) size _ refl (after _ (drop m t) (omega arith)))

    tiled_token : (s : List ℕ) → length s ≤ suc n → (k m : ℕ) → lexeme e s ≡ Lexeme.Token k m → Tiled e at s (scan_at e at s)
    tiled_token s near k m h =
        let p = of_token (rw h at (proper e good s)) in
        let l = length-drop m s in
        let size = length-take-le m s p.within in
        rw (at_token e good at s k m h)
        (token_front e at m s (take m s) (drop m s) (take-append-drop m s) size _ k (token_alone e good k m s h) h (after _ (drop m s) (omega arith)))

    module _ (b : ℕ) (t : List ℕ) (near : length t ≤ n) where
      tiled_other : is_space b ≡ false → (l : Lexeme) → lexeme e (b ∷ t) ≡ l → Tiled e at (b ∷ t) (scan_at e at (b ∷ t))
      tiled_other other End h = let none = of_end (rw h at (proper e good (b ∷ t))) in absurd (omega arith)
      tiled_other other (Skipped m) h =
          let l = length-drop 1 t in
          rw (skipped_slashes e b t m other h) (tiled_comment (drop 1 t) (omega arith))
      tiled_other other (Lexeme.Token k m) h = tiled_token (b ∷ t) (omega arith) k m h
      tiled_other other BadByte h = rw (at_bad e good at (b ∷ t) h) (meets_bad_byte h)
      tiled_other other OpenString h = rw (at_open e good at (b ∷ t) h) (meets_open_string h)

      tiled_cons : (q : Bool) → is_space b ≡ q → Tiled e at (b ∷ t) (scan_at e at (b ∷ t))
      tiled_cons true h = rw (space_passed e good at b t h) (skips_space h (after (suc at) t near))
      tiled_cons false h = tiled_other h (lexeme e (b ∷ t)) refl

  tiled : (n : ℕ) → TiledUpTo e n
  tiled zero at [] near = tiled_nil at
  tiled zero at (b ∷ t) near = absurd (omega arith)
  tiled (suc n) at [] near = tiled_nil at
  tiled (suc n) at (b ∷ t) near = tiled_cons n (tiled n) at b t (omega arith) (is_space b) refl

  -- a source is gaps and the tokens of its scan, and ends as its scan does
  pub scan_tiles : (s : List ℕ) → Tiles e 0 s (scan e s).found (scan e s).ending
  scan_tiles s = rw (← scan_at_start e s) (tiled (length s) 0 s (omega arith))

  -- tokens that some bytes are, with gaps, are those that the definition finds, and so is the ending
  at_tiles : {at : ℕ} {s : List ℕ} {ts : List Token} {x : Ending} → Tiles e at s ts x → scan_at e at s ≡ record { found = ts; ending = x }
  unfolding lexeme with_token
  at_tiles {at} ended = at-end e good at [] refl
  at_tiles {at} (skips_space {b = b} {s = s} h after) = space_passed e good at b s h ∙ at_tiles after
  at_tiles {at} (skips_comment line {s = s} stops after) =
      comment_passed e good at (line ++ s) ∙ rw (stops, drop-append_seam line s) (at_tiles after)
  at_tiles {at} (finds_token {kind = k} text {s = s} alone here after) =
      at_token e good at (text ++ s) k (length text) here ∙ rw (drop-append_seam text s, at_tiles after)
  at_tiles {at} {s} (meets_bad_byte h) = at_bad e good at s h
  at_tiles {at} {s} (meets_open_string h) = at_open e good at s h

  -- .. so of a source they are those of its scan
  pub tiles_scan : (s : List ℕ) (ts : List Token) (x : Ending) → Tiles e 0 s ts x → scan e s ≡ record { found = ts; ending = x }
  tiles_scan s ts x h = sym (scan_at_start e s) ∙ at_tiles h
