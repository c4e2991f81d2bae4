-- Lexemes taken out of the number that they are packed into. Assumes nothing.
use Prim.Native.Nat.{ℕ, ◌+◌, ◌-◌, ◌*◌, ◌/◌, ◌%◌, ◌<◌, ◌≤◌}
use mathlib.Core.Path.{◌≡◌, ◌∙◌}
use mathlib.Core.Bool.{true}
use mathlib.Core.List.{List}
use native.Mathlib.Omega.{arith}
use native.Mathlib.Nat.{add-zero, zero-div, zero-mod, div-eq_of_lt, mod-eq_of_lt, mul-add-div_right, mul-add-mod_self_right}
use lib.ListN.{length, drop, length-drop}
use Rattle.lexer.specs.Editions.{Edition}
use Rattle.lexer.specs.Lexemes.{Lexeme, End, Skipped, Token, BadByte, OpenString, lexeme}
use Rattle.lexer.specs.Table.{source_limit}
use Rattle.lexer.specs.internal.Kinds.{last_kind}
use Rattle.lexer.specs.internal.Packed.{packing, packed}
use Rattle.lexer.proofs.Laws.Sizes.{Proper, spelled, of_token, of_skip, proper}

-- a kind and a place below `packing` come out of the number that they make
module _ (k end : ℕ) (below : end < packing) where
  kind_out : (k * packing + end) / packing ≡ k
  kind_out = mul-add-div_right {m = packing} (omega arith) k end ∙ rw (div-eq_of_lt below) (add-zero k)

  end_out : (k * packing + end) % packing ≡ end
  end_out = mul-add-mod_self_right k packing end ∙ mod-eq_of_lt below

-- the token that a number tells, at a place of some bytes
pub record TokenTold (s : List ℕ) (at found : ℕ) (l : Lexeme) : Type 0 where
  pub is : l ≡ Token (found / packing) (found % packing - at)
  pub after : at < found % packing
  pub within : found % packing ≤ length s
  pub high : found / packing ≤ last_kind

-- .. the bytes that it tells to skip
pub record SkipTold (s : List ℕ) (at found : ℕ) (l : Lexeme) : Type 0 where
  pub is : l ≡ Skipped (found % packing - at)
  pub after : at < found % packing
  pub within : found % packing ≤ length s

-- .. and the lexemes after which there is none, which have the number 0
pub data Ends : Lexeme → Type 0 where
  ends_clean : Ends End
  ends_bad : Ends BadByte
  ends_open : Ends OpenString

-- what the packed number of a lexeme at a place tells
module _ (s : List ℕ) (at : ℕ) (inside : at ≤ length s) (short : length s ≤ source_limit) where
  token_by : (l : Lexeme) → Proper (drop at s) l → (packed at l / packing ≡ 0 → ⊥) → TokenTold s at (packed at l) l
  unfolding packed
  token_by End p some = absurd (some (zero-div packing))
  token_by (Skipped n) p some =
      let t = of_skip p in
      let l = length-drop at s in
      let below : at + n < packing = omega arith in
      absurd (some (div-eq_of_lt below))
  token_by (Token k n) p some =
      let t = of_token p in
      let l = length-drop at s in
      let below : at + n < packing = omega arith in
      let size : n ≡ at + n - at = omega arith in
      record {
        is = rw (kind_out k (at + n) below, end_out k (at + n) below, ← size);
        after = rw (end_out k (at + n) below) (omega arith);
        within = rw (end_out k (at + n) below) (omega arith);
        high = rw (kind_out k (at + n) below) t.high;
      }
  token_by BadByte p some = absurd (some (zero-div packing))
  token_by OpenString p some = absurd (some (zero-div packing))

  skip_by : (l : Lexeme) → Proper (drop at s) l → packed at l / packing ≡ 0 → (packed at l % packing ≡ 0 → ⊥)
      → SkipTold s at (packed at l) l
  unfolding packed
  skip_by End p none some = absurd (some (zero-mod packing))
  skip_by (Skipped n) p none some =
      let t = of_skip p in
      let l = length-drop at s in
      let below : at + n < packing = omega arith in
      let size : n ≡ at + n - at = omega arith in
      record {
        is = rw (mod-eq_of_lt below, ← size);
        after = rw (mod-eq_of_lt below) (omega arith);
        within = rw (mod-eq_of_lt below) (omega arith);
      }
  skip_by (Token k n) p none some =
      let t = of_token p in
      let l = length-drop at s in
      let below : at + n < packing = omega arith in
      let kind = kind_out k (at + n) below in
      absurd (omega arith)
  skip_by BadByte p none some = absurd (some (zero-mod packing))
  skip_by OpenString p none some = absurd (some (zero-mod packing))

  none_by : (l : Lexeme) → Proper (drop at s) l → packed at l / packing ≡ 0 → packed at l % packing ≡ 0 → Ends l
  unfolding packed
  none_by End p none zero = ends_clean
  none_by (Skipped n) p none zero =
      let t = of_skip p in
      let l = length-drop at s in
      let below : at + n < packing = omega arith in
      let end = mod-eq_of_lt below in
      absurd (omega arith)
  none_by (Token k n) p none zero =
      let t = of_token p in
      let l = length-drop at s in
      let below : at + n < packing = omega arith in
      let kind = kind_out k (at + n) below in
      absurd (omega arith)
  none_by BadByte p none zero = ends_bad
  none_by OpenString p none zero = ends_open

-- the lexeme at a place from its packed number, for any edition whose marks are spelled
module _ (e : Edition) (good : spelled e.marks ≡ true) (s : List ℕ) (at found : ℕ) (inside : at ≤ length s)
    (short : length s ≤ source_limit) (told : found ≡ packed at (lexeme e (drop at s))) where
  pub unpack_token : (found / packing ≡ 0 → ⊥) → TokenTold s at found (lexeme e (drop at s))
  unpack_token some = rw told (token_by s at inside short _ (proper e good (drop at s)) (rw told at some))

  pub unpack_skip : found / packing ≡ 0 → (found % packing ≡ 0 → ⊥) → SkipTold s at found (lexeme e (drop at s))
  unpack_skip none some = rw told (skip_by s at inside short _ (proper e good (drop at s)) (rw told at none) (rw told at some))

  pub unpack_none : found / packing ≡ 0 → found % packing ≡ 0 → Ends (lexeme e (drop at s))
  unpack_none none zero = none_by s at inside short _ (proper e good (drop at s)) (rw told at none) (rw told at zero)
