-- Where the tokens of a source stand: in increasing order and inside it, each the lexeme at its place, and none empty; and
-- where the first fault of a source stands. Assumes nothing.
use Prim.Native.Nat.{ℕ, zero, suc, ◌+◌, ◌<◌, ◌≤◌}
use mathlib.Core.Path.{◌≡◌, refl}
use mathlib.Core.Bool.{true}
use mathlib.Core.List.{List, [], ◌∷◌}
use mathlib.Core.Logic.{◌⊎◌, inl, inr}
use native.Mathlib.Nat.{le_refl, le_trans}
use native.Mathlib.Omega.{arith}
use lib.ListN.{length, drop, length-drop, drop_of_length-le}
use Rattle.lexer.specs.internal.Kinds.{first_kind, last_kind}
use Rattle.lexer.specs.Editions.{Edition}
use Rattle.lexer.specs.Lexemes.{Lexeme, End, Skipped, BadByte, OpenString, lexeme}
use Rattle.lexer.specs.Tokens.{Token, Ending, clean, fault}
use Rattle.lexer.specs.executable.Scans.{Scan, cleanly, with_token, scan}
use Rattle.lexer.proofs.Laws.Sizes.{of_token, of_skip, spelled, proper}
use Rattle.lexer.proofs.Laws.Scans.{scan_from, scan_from_start, scan_end, scan_skip, scan_token, scan_bad, scan_open}

-- a token of a source: it takes a byte at least, it ends inside the source, and its kind is one of the kinds
pub record Inside (s : List ℕ) (t : Token) : Type 0 where
  pub some : 0 < t.size
  pub within : t.start + t.size ≤ length s
  pub low : first_kind ≤ t.kind
  pub high : t.kind ≤ last_kind

-- tokens of a source in their places, the first no earlier than a place and each no earlier than the end of the one before
pub data Placed (e : Edition) (s : List ℕ) : ℕ → List Token → Type 0 where
  placed_none : {lo : ℕ} → lo ≤ length s → Placed e s lo []
  placed_more : {lo : ℕ} {t : Token} {ts : List Token} → lo ≤ t.start
      → lexeme e (drop t.start s) ≡ Lexeme.Token t.kind t.size → Inside s t
      → Placed e s (t.start + t.size) ts → Placed e s lo (t ∷ ts)

-- the fault of a source: a bad byte or an open string inside it
pub record Faulty (e : Edition) (s : List ℕ) (number place : ℕ) : Type 0 where
  pub inside : place < length s
  pub reason : ((number ≡ 3) × (lexeme e (drop place s) ≡ BadByte)) ⊎ ((number ≡ 4) × (lexeme e (drop place s) ≡ OpenString))

placed_earlier : {e : Edition} {s : List ℕ} {lo hi : ℕ} {ts : List Token} → lo ≤ hi → Placed e s hi ts → Placed e s lo ts
placed_earlier h (placed_none w) = placed_none (le_trans h w)
placed_earlier h (placed_more l x f r) = placed_more (le_trans h l) x f r

placed_few : {e : Edition} {s : List ℕ} {lo : ℕ} {ts : List Token} → Placed e s lo ts → lo + length ts ≤ length s
placed_few (placed_none w) = omega arith
placed_few (placed_more l x f r) = let m = placed_few r in omega arith

-- how a source ends: clean, or with a fault that is one
abbrev Ends : Edition → List ℕ → Ending → Type 0
Ends e s clean = Unit
Ends e s (fault number place) = Faulty e s number place

-- what a source is from a place on: tokens in their places, and an ending
record Stands (e : Edition) (s : List ℕ) (at : ℕ) (x : Scan) : Type 0 where
  placed : Placed e s at x.found
  ends : Ends e s x.ending

stands_earlier : (e : Edition) (s : List ℕ) (lo hi : ℕ) (x : Scan) → lo ≤ hi → Stands e s hi x → Stands e s lo x
stands_earlier e s lo hi x h p = record { placed = placed_earlier h p.placed; ends = p.ends }

stands_token : (e : Edition) (s : List ℕ) (t : Token) (x : Scan) → lexeme e (drop t.start s) ≡ Lexeme.Token t.kind t.size
    → Inside s t → Stands e s (t.start + t.size) x → Stands e s t.start (with_token t x)
unfolding with_token
stands_token e s t x l f p = record { placed = placed_more (le_refl t.start) l f p.placed; ends = p.ends }

-- past the last byte there is nothing, so that a place where something stands is inside the source
past : (e : Edition) (s : List ℕ) (at : ℕ) → length s ≤ at → lexeme e (drop at s) ≡ End
unfolding lexeme
past e s at done = rw (drop_of_length-le s done)

inside_by : (e : Edition) (s : List ℕ) (at : ℕ) → at ≤ length s → (lexeme e (drop at s) ≡ End → ⊥) → at < length s
inside_by e s at upto h =
    let ne : at ≡ length s → ⊥ = λ (q : at ≡ length s). h (past e s at (omega arith)) in
    omega arith

module _ (e : Edition) (good : spelled e.marks ≡ true) (s : List ℕ) where
  none_left : (at : ℕ) → at ≤ length s → Stands e s at (cleanly [])
  none_left at upto = record { placed = placed_none upto; ends = tt }

  -- the lexeme at a place, and what is so after it
  stands_by : (n at : ℕ) → length s ≤ suc n + at → at ≤ length s
      → ((to : ℕ) → length s ≤ n + to → to ≤ length s → Stands e s to (scan_from e s to))
      → (l : Lexeme) → lexeme e (drop at s) ≡ l → Stands e s at (scan_from e s at)
  stands_by n at near upto after End h = rw (scan_end e good s at h) (none_left at upto)
  stands_by n at near upto after (Skipped m) h =
      let p = of_skip (rw h at (proper e good (drop at s))) in
      let l = length-drop at s in
      let rest = after (at + m) (omega arith) (omega arith) in
      rw (scan_skip e good s at m h) (stands_earlier e s at (at + m) (scan_from e s (at + m)) (omega arith) rest)
  stands_by n at near upto after (Lexeme.Token k m) h =
      let p = of_token (rw h at (proper e good (drop at s))) in
      let l = length-drop at s in
      let t : Token = record { kind = k; start = at; size = m } in
      let f : Inside s t = record { some = p.some; within = omega arith; low = p.low; high = p.high } in
      let rest = after (at + m) (omega arith) (omega arith) in
      rw (scan_token e good s at k m h) (stands_token e s t (scan_from e s (at + m)) h f rest)
  stands_by n at near upto after BadByte h =
      let still = inside_by e s at upto (λ (q : lexeme e (drop at s) ≡ End). let z : ◌≡◌ {A = ℕ} 0 1 = cc in omega arith) in
      rw (scan_bad e good s at h) (record { placed = placed_none upto; ends = record { inside = still; reason = inl (refl, h) } })
  stands_by n at near upto after OpenString h =
      let still = inside_by e s at upto (λ (q : lexeme e (drop at s) ≡ End). let z : ◌≡◌ {A = ℕ} 0 1 = cc in omega arith) in
      rw (scan_open e good s at h) (record { placed = placed_none upto; ends = record { inside = still; reason = inr (refl, h) } })

  -- from any place on, where at most n bytes are left
  stands_from : (n at : ℕ) → length s ≤ n + at → at ≤ length s → Stands e s at (scan_from e s at)
  stands_from zero at near upto =
      let done : length s ≤ at = omega arith in
      rw (scan_end e good s at (past e s at done)) (none_left at upto)
  stands_from (suc n) at near upto = stands_by n at near upto (stands_from n) (lexeme e (drop at s)) refl

  stands : Stands e s 0 (scan e s)
  stands = rw (← scan_from_start e s) (stands_from (length s) 0 (omega arith) (omega arith))

  pub tokens_placed : (ts : List Token) → scan e s ≡ cleanly ts → Placed e s 0 ts
  tokens_placed ts h = rw h at stands.placed

  pub tokens_few : (ts : List Token) → scan e s ≡ cleanly ts → length ts ≤ length s
  tokens_few ts h = let m = placed_few (tokens_placed ts h) in omega arith

  pub fault-placed : (number place : ℕ) → (scan e s).ending ≡ fault number place → Faulty e s number place
  fault-placed number place h = rw h at stands.ends
