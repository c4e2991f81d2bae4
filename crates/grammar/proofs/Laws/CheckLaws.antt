-- What the Boolean tests of a table say of one production, one class and one implication. Assumes nothing.
use Prim.Native.Nat.{ℕ, zero, suc, ◌<◌}
use mathlib.Core.Path.{◌≡◌, refl, subst, sym}
use mathlib.Core.Bool.{Bool, true, false}
use mathlib.Core.List.{List}
use native.Mathlib.Nat.{not-suc-le-zero}
use native.Mathlib.Omega.{arith}
use lib.Dec.{eqb}
use borrow.Author.Tests.{eqb-true, eqb-false}
use Rattle.lexer.specs.Tests.{and}
use Rattle.lexer.proofs.Laws.Tests.{and_left, and_right}
use Rattle.grammar.specs.Grammars.{Production}
use Rattle.grammar.specs.Derivations.{Has, here, there}
use Rattle.grammar.proofs.Laws.Checks.{implies, every, below}

pub and_both : (a b : Bool) → a ≡ true → b ≡ true → and a b ≡ true
unfolding and
and_both true b p q = q
and_both false b p q = p

-- one of two tests fails, where not both hold
pub and_else : {P : Type 0} (a b : Bool) → (a ≡ false → P) → (b ≡ false → P) → and a b ≡ false → P
unfolding and
and_else true b f k h = k h
and_else false b f k h = f refl

pub implies_true : (a b : Bool) → implies a b ≡ true → a ≡ true → b ≡ true
unfolding implies
implies_true true b h t = h
implies_true false b h t = let z : ◌≡◌ {A = ℕ} 0 1 = cc in absurd (omega arith)

pub implies_by : (a b : Bool) → (a ≡ true → b ≡ true) → implies a b ≡ true
unfolding implies
implies_by true b f = f refl
implies_by false b f = refl

-- an implication, the other way round
pub implies-false : (a b : Bool) → implies a b ≡ true → b ≡ false → a ≡ false
unfolding implies
implies-false true b h f = let z : ◌≡◌ {A = ℕ} 0 1 = cc in absurd (omega arith)
implies-false false b h f = refl

-- a test of every production holds of each
pub every_has : (test : Production → Bool) (g : List Production) (p : Production) → every test g ≡ true → Has g p → test p ≡ true
unfolding every
every_has test g p t (here {ps = ps}) = and_left (test p) (every test ps) t
every_has test g p t (there {q = q} {ps = ps} at) = every_has test ps p (and_right (test q) (every test ps) t) at

below_by : (test : ℕ → Bool) (n c : ℕ) → c < suc n → test n ≡ true → (c < n → test c ≡ true) → (t : Bool) → eqb c n ≡ t → test c ≡ true
below_by test n c h last later true e = subst (λ (m : ℕ). test m ≡ true) (sym (eqb-true c n e)) last
below_by test n c h last later false e = let ne = eqb-false c n e in later (omega arith)

-- a test of every number below a bound holds of each
pub below_at : (test : ℕ → Bool) (n c : ℕ) → below test n ≡ true → c < n → test c ≡ true
unfolding below
below_at test zero c t h = absurd (not-suc-le-zero h)
below_at test (suc n) c t h =
    below_by test n c h (and_left (test n) (below test n) t) (below_at test n c (and_right (test n) (below test n) t)) (eqb c n) refl
