-- `lexer::bytes::class_of` meets its contract: each arm by computation, each range by one computed test. Assumes nothing.
use Prim.Native.Nat.{zero-le}
use mathlib.Core.Path.{refl}
use mathlib.Core.Bool.{false}
use mathlib.Core.List.{[], ◌∷◌}
use mathlib.Core.Logic.{inl, inr}
use native.Mathlib.Omega.{arith}
use Rattle.lexer.specs.Tests.{and, or, between, among}
use Rattle.lexer.specs.Bytes.{is_digit, is_letter, is_space}
use Rattle.lexer.specs.internal.Leaves.{byte_class}
use Rattle.lexer.proofs.Laws.Computed.{none, elsewhere}
use Rattle.lexer.proofs.bytes.class_of.Goals as goal

pub returns-in-32 : goal.returns-in-32
unfolding byte_class is_digit is_letter is_space between and or among
returns-in-32 c = elim c.in-32.is [ inl e ↦ rw e | inr e ↦ rw e ]

pub returns-in-32-2 : goal.returns-in-32-2
unfolding byte_class is_digit is_letter is_space between and or among
returns-in-32-2 c = elsewhere byte_class 2 (λ b. false) 9 2 tt c.args.b (omega arith) (omega arith) refl

pub returns-in-97-to-122 : goal.returns-in-97-to-122
unfolding byte_class is_digit is_letter is_space between and or among
returns-in-97-to-122 c = elsewhere byte_class 1 (λ b. false) 95 1 tt c.args.b (omega arith) (omega arith) refl

pub returns-in-97-to-122-2 : goal.returns-in-97-to-122-2
unfolding byte_class is_digit is_letter is_space between and or among
returns-in-97-to-122-2 c = elsewhere byte_class 1 (λ b. false) 65 26 tt c.args.b (omega arith) (omega arith) refl

pub returns-in-97-to-122-3 : goal.returns-in-97-to-122-3
unfolding byte_class is_digit is_letter is_space between and or among
returns-in-97-to-122-3 c = elsewhere byte_class 1 (λ b. false) 97 26 tt c.args.b (omega arith) (omega arith) refl

pub returns-in-48-to-57 : goal.returns-in-48-to-57
unfolding byte_class is_digit is_letter is_space between and or among
returns-in-48-to-57 c = elsewhere byte_class 0 (λ b. false) 48 10 tt c.args.b (omega arith) (omega arith) refl

pub returns-in-45 : goal.returns-in-45
unfolding byte_class is_digit is_letter is_space between and or among
returns-in-45 c = rw c.in-45.is

pub returns-in-47 : goal.returns-in-47
unfolding byte_class is_digit is_letter is_space between and or among
returns-in-47 c = rw c.in-47.is

pub returns-in-96 : goal.returns-in-96
unfolding byte_class is_digit is_letter is_space between and or among
returns-in-96 c = rw c.in-96.is

-- what no arm is for lies below 9, between the others, or above 122
pub returns-in_default : goal.returns-in_default
unfolding byte_class is_digit is_letter is_space between and or among
returns-in_default c = elsewhere byte_class 6 (λ b. false) 0 9 tt c.args.b zero-le (omega arith) refl

pub returns-in_default-2 : goal.returns-in_default-2
unfolding byte_class is_digit is_letter is_space between and or among
returns-in_default-2 c = elsewhere byte_class 6 (among (13 ∷ 32 ∷ 45 ∷ [])) 11 36 tt c.args.b (omega arith) (omega arith)
    (none (13 ∷ 32 ∷ 45 ∷ []) c.args.b (((tt, λ q. grind arith), λ q. grind arith), λ q. grind arith))

pub returns-in_default-3 : goal.returns-in_default-3
unfolding byte_class is_digit is_letter is_space between and or among
returns-in_default-3 c = elsewhere byte_class 6 (λ b. false) 58 7 tt c.args.b (omega arith) (omega arith) refl

pub returns-in_default-4 : goal.returns-in_default-4
unfolding byte_class is_digit is_letter is_space between and or among
returns-in_default-4 c = elsewhere byte_class 6 (λ b. false) 91 4 tt c.args.b (omega arith) (omega arith) refl

pub returns-in_default-5 : goal.returns-in_default-5
unfolding byte_class is_digit is_letter is_space between and or among
returns-in_default-5 c = elsewhere byte_class 6 (λ b. false) 123 133 tt c.args.b (omega arith) c.ranges.b.fits refl
