-- What the class of a byte tells of the tests that the lexical rules ask, each by one computed test over all bytes.
-- Assumes nothing.
use Prim.Native.Char.{code}
use Prim.Native.Nat.{ℕ, ◌<◌}
use mathlib.Core.Path.{◌≡◌, refl, ◌∙◌}
use mathlib.Core.Bool.{Bool, true, false}
use mathlib.Core.List.{[], ◌∷◌}
use lib.Dec.{T, eqb}
use borrow.Author.Tests.{ne_eqb}
use denote.Enum.Bare.{sameb}
use Rattle.lexer.specs.Tests.{and, or, between}
use Rattle.lexer.specs.Bytes.{is_digit, is_letter, is_space}
use Rattle.lexer.specs.internal.Leaves.{byte_class, class_number}
use Rattle.lexer.specs.contracts.bytes.ByteClass.{the_type}
use Rattle.lexer.specs.declared.bytes.ByteClass.{ByteClass}
use Rattle.lexer.specs.declared.bytes.ByteClass.TheVariants.{Digit, Letter, Space, Minus, Slash, Backtick, Other}
use Rattle.lexer.proofs.Laws.Computed.{all, all-at, None}

-- whether two tests agree
unfoldable pub agree : Bool → Bool → Bool
agree true b = b
agree false true = false
agree false false = true

pub agreed : (a b : Bool) → T (agree a b) → a ≡ b
unfolding agree
agreed true true t = refl
agreed true false t = absurd t
agreed false true t = absurd t
agreed false false t = refl

-- two tests that agree at every byte
pub same_test : (f g : ℕ → Bool) → T (all (λ b. agree (f b) (g b)) 256) → (b : ℕ) → b < 256 → f b ≡ g b
same_test f g t b h = agreed _ _ (all-at (λ b. agree (f b) (g b)) 256 t b h)

-- one class against one test
class_test : (k : ℕ) (f : ℕ → Bool) → T (all (λ b. agree (eqb (byte_class b) k) (f b)) 256)
    → (b : ℕ) → b < 256 → eqb (byte_class b) k ≡ f b
class_test k f = same_test (λ b. eqb (byte_class b) k) f

pub class_digit : (b : ℕ) → b < 256 → eqb (byte_class b) 0 ≡ is_digit b
unfolding agree byte_class and or between is_digit is_letter is_space
class_digit = class_test 0 is_digit tt

pub class_letter : (b : ℕ) → b < 256 → eqb (byte_class b) 1 ≡ is_letter b
unfolding agree byte_class and or between is_digit is_letter is_space
class_letter = class_test 1 is_letter tt

pub class_space : (b : ℕ) → b < 256 → eqb (byte_class b) 2 ≡ is_space b
unfolding agree byte_class and or between is_digit is_letter is_space
class_space = class_test 2 is_space tt

pub class_minus : (b : ℕ) → b < 256 → eqb (byte_class b) 3 ≡ eqb b (code "-")
unfolding agree byte_class and or between is_digit is_letter is_space
class_minus = class_test 3 (λ b. eqb b (code "-")) tt

pub class_slash : (b : ℕ) → b < 256 → eqb (byte_class b) 4 ≡ eqb b (code "/")
unfolding agree byte_class and or between is_digit is_letter is_space
class_slash = class_test 4 (λ b. eqb b (code "/")) tt

pub class_backtick : (b : ℕ) → b < 256 → eqb (byte_class b) 5 ≡ eqb b (code "`")
unfolding agree byte_class and or between is_digit is_letter is_space
class_backtick = class_test 5 (λ b. eqb b (code "`")) tt

-- a byte that is none of the four spaces
pub no_space : (b : ℕ) → None (13 ∷ 9 ∷ 10 ∷ 32 ∷ []) b → is_space b ≡ false
unfolding is_space or
no_space b h = rw (ne_eqb _ _ h.0.0.0.1, ne_eqb _ _ h.0.0.1, ne_eqb _ _ h.0.1, ne_eqb _ _ h.1)

-- whether the class found is that of letters
pub letter_told : (class : ByteClass) (b : ℕ) → b < 256 → class_number class ≡ byte_class b → sameb the_type class Letter ≡ is_letter b
letter_told class b h told = by class ∙ rw told (class_letter b h)
  where
    by : (class : ByteClass) → sameb the_type class Letter ≡ eqb (class_number class) 1
    by Digit = refl
    by Letter = refl
    by Space = refl
    by Minus = refl
    by Slash = refl
    by Backtick = refl
    by Other = refl
