-- `lexer::marks::pair_kind` meets its contract: the tests that led to each answer decide every comparison with a mark.
-- Assumes nothing.
use Prim.Native.Char.{code}
use Prim.Native.Nat.{ℕ}
use mathlib.Core.Path.{◌≡◌, refl, ◌∙◌, sym}
use mathlib.Core.List.{[], ◌∷◌}
use borrow.Author.Tests.{ne_eqb}
use Rattle.lexer.specs.Tests.{and, pick}
use Rattle.lexer.specs.Spellings.{same, kind_of, spelled_marks}
use Rattle.lexer.specs.Editions.{edition11}
use Rattle.lexer.specs.internal.Editions.{edition_of, has_shifts}
use Rattle.lexer.specs.declared.Edition.{Edition as NamedEdition}
use Rattle.lexer.specs.declared.Edition.TheVariants.{V11, V17}
use Rattle.lexer.proofs.Laws.Tests.{apart, pick_same}
use Rattle.lexer.proofs.Laws.Editions.{kind17, fits}
use Rattle.lexer.proofs.marks.pair_kind.Goals as goal

-- the kind of two bytes is that of 1.7 where the edition has shifts, and else that of 1.1
by-shifts : (edition : NamedEdition) (a b : ℕ)
    → kind_of (edition_of edition).marks (a ∷ b ∷ []) ≡ pick (has_shifts (edition_of edition)) (kind17 (a ∷ b ∷ [])) (kind_of edition11.marks (a ∷ b ∷ []))
unfolding and same kind_of spelled_marks
by-shifts V11 a b = refl
by-shifts V17 a b = refl

-- two bytes of the same kind in both
in_both : (edition : NamedEdition) (a b k : ℕ) → kind17 (a ∷ b ∷ []) ≡ k → kind_of edition11.marks (a ∷ b ∷ []) ≡ k
    → k ≡ kind_of (edition_of edition).marks (a ∷ b ∷ [])
in_both edition a b k p q = rw (by-shifts, p, q) (sym (pick_same (has_shifts (edition_of edition)) k))

pub returns-in-61 : goal.returns-in-61
unfolding and same kind_of spelled_marks
returns-in-61 c =
    let args = c.args in
    let if1 = c.if-second-eq61 in
    rw (if1.true, c.in-61.is) (in_both args.edition _ _ _ refl refl)

pub returns-in-33 : goal.returns-in-33
unfolding and same kind_of spelled_marks
returns-in-33 c =
    let args = c.args in
    let if1 = c.if-second-eq61 in
    rw (if1.true, c.in-33.is) (in_both args.edition _ _ _ refl refl)

pub returns-in-60 : goal.returns-in-60
unfolding and same kind_of spelled_marks
returns-in-60 c =
    let args = c.args in
    let if1 = c.if-second-eq61 in
    rw (if1.true, c.in-60.is) (in_both args.edition _ _ _ refl refl)

pub returns-in-62 : goal.returns-in-62
unfolding and same kind_of spelled_marks
returns-in-62 c =
    let args = c.args in
    let if1 = c.if-second-eq61 in
    rw (if1.true, c.in-62.is) (in_both args.edition _ _ _ refl refl)

pub returns-in_default : goal.returns-in_default
unfolding and same kind_of spelled_marks
returns-in_default c =
    let args = c.args in
    let if1 = c.if-second-eq61 in
    sym ((fits args.edition).two _ _
    (rw (
      if1.true,
      ne_eqb _ _ c.in_default.in_default-own.rest.0.0.0.1,
      ne_eqb _ _ c.in_default.in_default-own.rest.0.0.1,
      ne_eqb _ _ c.in_default.in_default-own.rest.0.1,
      ne_eqb _ _ c.in_default.in_default-own.rest.1,
    )))

pub returns-in-60-first : goal.returns-in-60-first
unfolding and same kind_of spelled_marks
returns-in-60-first c =
    let args = c.args in
    let if2 = c.if-first-second in
    rw (← if2.true, c.in-60-first.is) (c.shift_kind.ensures ∙ sym (by-shifts args.edition (code "<") (code "<")))

pub returns-in-62-first : goal.returns-in-62-first
unfolding and same kind_of spelled_marks
returns-in-62-first c =
    let args = c.args in
    let if2 = c.if-first-second in
    rw (← if2.true, c.in-62-first.is) (c.shift_kind-in-62-first.ensures ∙ sym (by-shifts args.edition (code ">") (code ">")))

pub returns-in-63 : goal.returns-in-63
unfolding and same kind_of spelled_marks
returns-in-63 c =
    let args = c.args in
    let if2 = c.if-first-second in
    rw (← if2.true, c.in-63.is) (in_both args.edition _ _ _ refl refl)

pub returns-in_default-first : goal.returns-in_default-first
unfolding and same kind_of spelled_marks
returns-in_default-first c =
    let args = c.args in
    let if1 = c.if-second-eq61 in
    let if2 = c.if-first-second in
    sym ((fits args.edition).two _ _
    (rw (
      ne_eqb _ _ if1.false,
      ← if2.true,
      ne_eqb _ _ c.in_default-first.in_default-first-own.rest.0.0.1,
      ne_eqb _ _ c.in_default-first.in_default-first-own.rest.0.1,
      ne_eqb _ _ c.in_default-first.in_default-first-own.rest.1,
    )))

pub returns : goal.returns
unfolding and same kind_of spelled_marks
returns c =
    let args = c.args in
    let if1 = c.if-second-eq61 in
    let a = args.first in
    let b = args.second in
    let other = c.if-first-second.false in
    sym ((fits args.edition).two a b
    (rw (ne_eqb _ _ if1.false, apart 63 a b other, apart 60 a b other, apart 62 a b other)))
