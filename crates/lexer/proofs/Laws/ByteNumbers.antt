-- What the number of a byte tells of the byte, by one computed test over all bytes, and of the tests of such a number. Assumes nothing.
use Prim.Native.Nat.{ℕ, ◌<◌, ◌≤◌}
use mathlib.Core.Path.{◌≡◌, refl}
use mathlib.Core.Bool.{Bool, true, false}
use native.Mathlib.Omega.{arith}
use lib.Dec.{T}
use borrow.Author.Tests.{le-leb, lt-leb}
use Rattle.lexer.specs.Tests.{and, or, between, among}
use Rattle.lexer.specs.Bytes.{is_digit, is_letter, is_space, is_word_byte}
use Rattle.lexer.specs.Spellings.{same, kind_of, reserved, spelled_marks}
use Rattle.lexer.specs.Words.{or_ident, word_kind}
use Rattle.lexer.specs.internal.Leaves.{byte_class}
use Rattle.lexer.specs.internal.ByteNumbers.{mark_entry, byte_entry, has_entry}
use Rattle.lexer.proofs.Laws.Tests.{and-false, between_range}
use Rattle.lexer.proofs.Laws.Computed.{all}
use Rattle.lexer.proofs.Laws.Classes.{agree, same_test}

-- an entry that is looked up, between two entries or not
module _ (low high b entry : ℕ) (looked : entry ≡ byte_entry b) where
  pub entry_within : low ≤ entry → entry ≤ high → has_entry low high b ≡ true
  unfolding between and
  entry_within above below = rw (← looked, le-leb low entry above, le-leb entry high below)

  pub entry-below : entry < low → has_entry low high b ≡ false
  unfolding between and
  entry-below below = rw (← looked, lt-leb low entry below)

  pub entry-above : high < entry → has_entry low high b ≡ false
  unfolding between
  entry-above above = rw (← looked, lt-leb entry high above, and-false)

-- .. one entry or another
module _ (n b entry : ℕ) (looked : entry ≡ byte_entry b) where
  pub entry-same : entry ≡ n → has_entry n n b ≡ true
  entry-same same = entry_within n n b entry looked (omega arith) (omega arith)

  pub entry_other : (entry ≡ n → ⊥) → has_entry n n b ≡ false
  entry_other other = by (has_entry n n b) refl
    where
      by : (t : Bool) → has_entry n n b ≡ t → has_entry n n b ≡ false
      by true h = let range = between_range n n (byte_entry b) h in absurd (other (omega arith))
      by false h = h

-- `byte_entry`, opened down to its parts, with the tests that it is held against: whoever computes entries unfolds this one name
unfoldable opened : ℕ → ℕ
unfolding and or between among agree is_digit is_letter is_space is_word_byte same kind_of reserved spelled_marks or_ident word_kind
    byte_class mark_entry byte_entry
opened b = byte_entry b

-- a test that passes at every byte
pub passes : (f : ℕ → Bool) → T (all (λ b. agree (f b) true) 256) → (b : ℕ) → b < 256 → f b ≡ true
passes f = same_test f (λ b. true)

-- some entries against one test
pub entry_test : (low high : ℕ) (f : ℕ → Bool) → T (all (λ b. agree (has_entry low high b) (f b)) 256)
    → (b : ℕ) → b < 256 → has_entry low high b ≡ f b
entry_test low high f = same_test (has_entry low high) f
