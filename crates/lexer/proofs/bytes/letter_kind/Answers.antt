-- `lexer::bytes::letter_kind` meets its contract: each arm by computation, all other bytes by one computed test.
-- Assumes nothing.
use Prim.Native.Nat.{ℕ, zero-le}
use mathlib.Core.Path.{refl}
use mathlib.Core.Bool.{false}
use mathlib.Core.List.{List, [], ◌∷◌}
use mathlib.Core.Logic.{inl, inr}
use native.Mathlib.Omega.{arith}
use Rattle.lexer.specs.Tests.{and, or, among}
use Rattle.lexer.specs.internal.Kinds.{ident, keyword}
use Rattle.lexer.specs.Spellings.{same, kind_of, reserved}
use Rattle.lexer.specs.Words.{or_ident, word_kind}
use Rattle.lexer.specs.Text.{bytes}
use Rattle.lexer.proofs.Laws.Computed.{none, elsewhere}
use Rattle.lexer.proofs.bytes.letter_kind.Goals as goal

-- the bytes of the arms up to `s`
abbrev arms : List ℕ
arms = bytes "FTZbfis"

pub returns-in-105 : goal.returns-in-105
unfolding word_kind or_ident kind_of reserved same and
returns-in-105 c =
    elim c.in-105.is [ inl e ↦ rw e | inr r ↦ elim r [ inl e ↦ rw e | inr r ↦ elim r [ inl e ↦ rw e | inr e ↦ rw e ] ] ]

pub returns-in-105-2 : goal.returns-in-105-2
unfolding word_kind or_ident kind_of reserved same and or among bytes
returns-in-105-2 c = elsewhere (λ b. word_kind (b ∷ [])) keyword (λ b. false) 117 2 tt c.args.b (omega arith) (omega arith) refl

pub returns-in-84 : goal.returns-in-84
unfolding word_kind or_ident kind_of reserved same and
returns-in-84 c = elim c.in-84.is [ inl e ↦ rw e | inr e ↦ rw e ]

pub returns-in-90 : goal.returns-in-90
unfolding word_kind or_ident kind_of reserved same and
returns-in-90 c = rw c.in-90.is

pub returns-in_default : goal.returns-in_default
unfolding word_kind or_ident kind_of reserved same and or among bytes
returns-in_default c =
    elsewhere (λ b. word_kind (b ∷ [])) ident (among arms) 0 117 tt c.args.b zero-le (omega arith)
    (none arms c.args.b
    (((((((tt, λ q. grind arith), λ q. grind arith), λ q. grind arith), λ q. grind arith), λ q. grind arith), λ q. grind arith), λ q. grind arith))

pub returns-in_default-2 : goal.returns-in_default-2
unfolding word_kind or_ident kind_of reserved same and or among bytes
returns-in_default-2 c = elsewhere (λ b. word_kind (b ∷ [])) ident (λ b. false) 119 137 tt c.args.b (omega arith) c.ranges.b.fits refl
