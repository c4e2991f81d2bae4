-- How far partial derivations come: for a table that passes the tests, within the same levels no further than the reading. Assumes
-- nothing.
use Prim.Native.Nat.{ℕ, zero, suc, ◌+◌, ◌-◌, ◌≤◌, ◌<◌}
use mathlib.Core.Path.{◌≡◌, refl}
use mathlib.Core.Bool.{Bool, true, false}
use mathlib.Core.List.{List, ◌∷◌}
use native.Mathlib.Omega.{arith}
use lib.Dec.{ltb}
use borrow.Author.Tests.{ltb-true, ltb-false}
use Rattle.lexer.specs.Tests.{and, or}
use Rattle.lexer.proofs.Laws.Tests.{or_left}
use Rattle.tree.specs.TreeTable.{Row}
use Rattle.grammar.specs.Grammars.{Symbol, token, derived, condition, Production, Names, View}
use Rattle.grammar.specs.Rows.{levels}
use Rattle.grammar.specs.Derivations.{Has, Derives, end, taken, held, entered}
use Rattle.grammar.specs.Reaches.{Reaches, stops, takes, meets, enters, leaves}
use Rattle.grammar.specs.executable.First.{skips, starts, can_begin, can_skip}
use Rattle.grammar.specs.executable.Reading.{Outcome, selected, ready, choice, enter, joined, read_within}
use Rattle.grammar.proofs.Laws.Checks.{Hints, implies, may, live, Closed}
use Rattle.grammar.proofs.Laws.CheckLaws.{and_both, implies_true}
use Rattle.grammar.proofs.Laws.Choices.{choice_is}
use Rattle.grammar.proofs.Laws.Follow.{Steady, passed_at, may_less, flows_less, allows-met, derives_ready, Flows, flows_part, flows_rest}
use Rattle.grammar.proofs.Laws.Follow.{flows_right, part_by, may_begin}
use Rattle.grammar.proofs.Laws.Complete.{Agrees, same, short, descend-below, taken-choice, complete}
use Rattle.grammar.proofs.Laws.Outcomes.{Ends, up_to, out, ends_each, ends_onward}
use Rattle.grammar.proofs.Laws.Sound.{comes}
use Rattle.grammar.proofs.Laws.Grows.{derives_wider}
use Rattle.grammar.proofs.Laws.Takes.{derives_forward}

-- one of two numbers is below the other, or not
by_order : {P : Type 0} (a b : ℕ) → (a < b → P) → (b ≤ a → P) → P
by_order {P = P} a b f k = cases (ltb a b) refl
  where
    cases : (t : Bool) → ltb a b ≡ t → P
    cases true e = f (ltb-true a b e)
    cases false e = k (ltb-false a b e)

module _ {g : List Production} {v : View} where
  -- a derivation is a partial one
  pub derives_reaches : {e : Names} {n i j said : ℕ} {ss : List Symbol} {rows : List Row} → Derives g v e n ss i j rows said
      → Reaches g v e n ss i j
  derives_reaches end = stops
  derives_reaches (taken t d) = takes t (derives_reaches d)
  derives_reaches (held t d) = meets t (derives_reaches d)
  derives_reaches (entered has of fits inner rest) = leaves has of fits inner (derives_reaches rest)

  -- a partial derivation never goes back
  pub reaches_forward : {e : Names} {n i p : ℕ} {ss : List Symbol} → Reaches g v e n ss i p → i ≤ p
  reaches_forward stops = omega arith
  reaches_forward (takes t r) = let after = reaches_forward r in omega arith
  reaches_forward (meets t r) = reaches_forward r
  reaches_forward (enters has of fits r) = reaches_forward r
  reaches_forward (leaves has of fits d r) =
      let within = derives_forward d in
      let after = reaches_forward r in
      omega arith

  -- one within some levels is one within more
  pub reaches_wider : {e : Names} {n i p : ℕ} {ss : List Symbol} (m : ℕ) → n ≤ m → Reaches g v e n ss i p → Reaches g v e m ss i p
  reaches_wider m h stops = stops
  reaches_wider m h (takes t r) = takes t (reaches_wider m h r)
  reaches_wider m h (meets t r) = meets t (reaches_wider m h r)
  reaches_wider m h (enters {n = n} {below = below} {q = q} has of fits r) =
      let room = m - levels q.makes in
      enters {n = m} {below = room} has of (omega arith) (reaches_wider room (omega arith) r)
  reaches_wider m h (leaves {n = n} {below = below} {q = q} has of fits d r) =
      let room = m - levels q.makes in
      leaves {n = m} {below = room} has of (omega arith) (derives_wider g v room (omega arith) d) (reaches_wider m h r)

  -- the conditions at the front of one that takes a token are met
  reaches_ready : {e : Names} {n i p : ℕ} {ss : List Symbol} → Reaches g v e n ss i p → i < p → ready v e i ss ≡ true
  unfolding ready
  reaches_ready stops l = absurd (omega arith)
  reaches_ready (takes t r) l = refl
  reaches_ready (meets t r) l = and_both _ _ t (reaches_ready r l)
  reaches_ready (enters has of fits r) l = refl
  reaches_ready (leaves has of fits d r) l = refl

-- an outcome at token p or later, or where the fuel is spent
abbrev pub From : ℕ → Outcome → Type 0
From p = Ends (λ (j : ℕ) (rows : List Row) (said : ℕ). p ≤ j) (λ (i : ℕ). p ≤ i) (λ (i : ℕ). p ≤ i) Unit

from_less : {p : ℕ} {o : Outcome} (q : ℕ) → q ≤ p → From p o → From q o
from_less q l o =
    ends_each o (λ (j : ℕ) (rows : List Row) (said : ℕ) h. omega arith) (λ (i : ℕ) h. omega arith) (λ (i : ℕ) h. omega arith)

-- the reading never goes back
from_start : (g : List Production) (v : View) (fuel : ℕ) (e : Names) (n : ℕ) (ss : List Symbol) (i p : ℕ) → p ≤ i
    → From p (read_within g v fuel e n ss i)
from_start g v fuel e n ss i p l =
    from_less p l (ends_each (comes g v fuel e n ss i) (λ (j : ℕ) (rows : List Row) (said : ℕ). derives_forward)
    (λ (q : ℕ). reaches_forward) (λ (q : ℕ). reaches_forward))

-- nothing is said to follow
abbrev Nothing : ℕ → Bool
Nothing c = false

module _ (g : List Production) (v : View) (h : Hints) (bound : ℕ) (good : Closed g h bound) (steady : Steady v h bound) where
  -- symbols among which what follows each part may follow it, whatever follows the last
  abbrev pub FlowsAlone : List Symbol → Type 0
  FlowsAlone = Flows g v h bound good steady Nothing

  pub flows_alone : (after : ℕ → Bool) (ss : List Symbol) → Flows g v h bound good steady after ss → FlowsAlone ss
  unfolding implies
  flows_alone after ss f c l = flows_less g h c false (after c) ss refl (f c l)

  right_alone : (p : Production) (x : ℕ) → Has g p → p.left ≡ x → FlowsAlone p.right
  right_alone p x has of = flows_alone (h.follow x) p.right (flows_right g v h bound good steady p x has of)

  -- Symbols of which a token is taken can begin with it: a part, by its production, ..
  part_opens : (e : Names) (i x : ℕ) (p : Production) (ss : List Symbol) → Has g p → p.left ≡ x
      → may g (v.class (v.inside x i e) i) false p.right ≡ true → may g (v.class e i) false (derived x ∷ ss) ≡ true
  unfolding implies
  part_opens e i x p ss has of m =
      let c = v.class e i in
      part_by g v h bound good steady p x c false ss (steady.classed e i) has of
      (may_less g c false (may g c false ss) p.right refl (rw (steady.first_same x i e) at m))

  -- what may begin after a part may follow it
  followed : {e : Names} {j : ℕ} (x : ℕ) (ss : List Symbol) → FlowsAlone (derived x ∷ ss)
      → may g (v.class e j) false ss ≡ true → h.follow x (v.class e j) ≡ true
  followed {e = e} {j = j} x ss f next =
      implies_true _ (h.follow x (v.class e j)) (flows_part g v h bound good steady Nothing x ss f (v.class e j) (steady.classed e j)) next

  -- .. or a part that is derived, before symbols that can begin with the token after it
  part_before : {e : Names} {below i j said : ℕ} {inner : List Row} (x : ℕ) (p : Production) (ss : List Symbol) → Has g p → p.left ≡ x
      → Derives g v (v.inside x i e) below p.right i j inner said → FlowsAlone (derived x ∷ ss)
      → may g (v.class e j) false ss ≡ true → may g (v.class e i) false (derived x ∷ ss) ≡ true
  part_before {e = e} {i = i} {j = j} x p ss has of d f next =
      let here : may g (v.class (v.inside x i e) j) false ss ≡ true = rw (steady.follow_same x i e j (followed x ss f next)) next in
      let begin = may_begin g v h bound good steady d (λ (c : ℕ). may g c false ss)
      (λ (c : ℕ) (l : c < bound). flows_less g h c (may g c false ss) (h.follow x c) p.right
      (flows_part g v h bound good steady Nothing x ss f c l) (flows_right g v h bound good steady p x has of c l)) here in
      part_by g v h bound good steady p x (v.class e i) false ss (steady.classed e i) has of (rw (steady.first_same x i e) at begin)

  derives_opens : {e : Names} {n i j said : ℕ} {ss : List Symbol} {rows : List Row} → Derives g v e n ss i j rows said → i < j
      → FlowsAlone ss → may g (v.class e i) false ss ≡ true
  unfolding may starts skips or and
  derives_opens end l f = absurd (omega arith)
  derives_opens (taken t d) l f = or_left _ _ t
  derives_opens (held {e = e} {i = i} {b = b} {q = q} {ss = ss} t d) l f =
      rw (allows-met v e i b q t) (derives_opens d l (flows_rest g v h bound good steady Nothing (condition b q) ss f))
  derives_opens (entered {e = e} {i = i} {j = j} {x = x} {p = p} {ss = ss} has of fits inner rest) l f =
      by_order i j (λ (k : i < j). part_opens e i x p ss has of (derives_opens inner k (right_alone p x has of)))
      (λ (k : j ≤ i). part_before x p ss has of inner f
      (derives_opens rest (omega arith) (flows_rest g v h bound good steady Nothing (derived x) ss f)))

  reaches_opens : {e : Names} {n i p : ℕ} {ss : List Symbol} → Reaches g v e n ss i p → i < p → FlowsAlone ss
      → may g (v.class e i) false ss ≡ true
  unfolding may starts skips or and
  reaches_opens stops l f = absurd (omega arith)
  reaches_opens (takes t r) l f = or_left _ _ t
  reaches_opens (meets {e = e} {i = i} {b = b} {q = q} {ss = ss} t r) l f =
      rw (allows-met v e i b q t) (reaches_opens r l (flows_rest g v h bound good steady Nothing (condition b q) ss f))
  reaches_opens (enters {e = e} {i = i} {x = x} {q = q} {ss = ss} has of fits r) l f = part_opens e i x q ss has of (reaches_opens r l (right_alone q x has of))
  reaches_opens (leaves {e = e} {i = i} {j = j} {p = p} {x = x} {q = q} {ss = ss} has of fits d r) l f =
      by_order j p (λ (k : j < p). part_before x q ss has of d f
      (reaches_opens r k (flows_rest g v h bound good steady Nothing (derived x) ss f)))
      (λ (k : p ≤ j). part_opens e i x q ss has of (derives_opens d (omega arith) (right_alone q x has of)))

  -- so the reading takes the production of a partial derivation that takes a token
  opening_choice : (e : Names) (i x : ℕ) (p : Production) → Has g p → p.left ≡ x → may g (v.class e i) false p.right ≡ true
      → ready v e i p.right ≡ true → choice g v e x i ≡ selected p
  unfolding live may can_begin can_skip implies
  opening_choice e i x p has of m r =
      let c = v.class e i in
      choice_is g h v e x i (passed_at g h bound c good (steady.classed e i)).exclude p has of
      (may_less g c false (h.follow p.left c) p.right refl m) r

  -- what is read of a part and what comes after it, given the production that the reading takes and how far its right side is read
  part_from : (fuel : ℕ) (e : Names) (n below i x p : ℕ) (q : Production) (ss : List Symbol) → choice g v (v.inside x i e) x i ≡ selected q
      → n ≡ levels q.makes + below → From p (read_within g v fuel (v.inside x i e) below q.right i)
      → From p (read_within g v (suc fuel) e n (derived x ∷ ss) i)
  unfolding read_within joined enter
  part_from fuel e n below i x p q ss c fits inner =
      rw (c, descend-below (levels q.makes) n below i _ fits)
      (ends_onward _ inner (λ (j : ℕ) (rows : List Row) (said : ℕ) (l : p ≤ j).
      ends_onward (joined q.makes i j rows said) (from_start g v fuel e n ss j p l)
      (λ (k : ℕ) (rest : List Row) (later : ℕ) (m : p ≤ k). up_to m)))

  -- .. or given that it is derived
  part_after : {j said : ℕ} {inner : List Row} (fuel : ℕ) (e : Names) (n below i x p : ℕ) (q : Production) (ss : List Symbol)
      → choice g v (v.inside x i e) x i ≡ selected q → n ≡ levels q.makes + below
      → Agrees j inner said (read_within g v fuel (v.inside x i e) below q.right i)
      → From p (read_within g v fuel e n ss j)
      → From p (read_within g v (suc fuel) e n (derived x ∷ ss) i)
  unfolding read_within joined enter
  part_after {j = j} {said = said} {inner = inner} fuel e n below i x p q ss c fits a rest =
      rw (c, descend-below (levels q.makes) n below i _ fits) (ends_onward _ (agreed a) (λ (k : ℕ) (rows : List Row) (later : ℕ) (s : k ≡ j).
      ends_onward (joined q.makes i k rows later) (rw s rest) (λ (k : ℕ) (rest : List Row) (later : ℕ) (m : p ≤ k). up_to m)))
    where
      agreed : {o : Outcome} → Agrees j inner said o → Ends (λ (k : ℕ) (rows : List Row) (later : ℕ). k ≡ j) (λ (i : ℕ). p ≤ i) (λ (i : ℕ). p ≤ i) Unit o
      agreed same = up_to refl
      agreed short = out tt

  -- No partial derivation within the levels comes further than the reading.
  pub no_further : (fuel : ℕ) {e : Names} {n i p : ℕ} {ss : List Symbol} → Reaches g v e n ss i p → FlowsAlone ss
      → From p (read_within g v fuel e n ss i)
  unfolding read_within
  no_further zero r f = out tt
  no_further (suc fuel) (stops {e = e} {n = n} {i = i} {ss = ss}) f = from_start g v (suc fuel) e n ss i i (omega arith)
  no_further (suc fuel) (takes {cs = cs} {ss = ss} t r) f =
      rw t (no_further fuel r (flows_rest g v h bound good steady Nothing (token cs) ss f))
  no_further (suc fuel) (meets {b = b} {q = q} {ss = ss} t r) f =
      rw t (no_further fuel r (flows_rest g v h bound good steady Nothing (condition b q) ss f))
  no_further (suc fuel) (enters {e = e} {n = n} {below = below} {i = i} {p = p} {x = x} {q = q} {ss = ss} has of fits r) f =
      by_order i p (λ (l : i < p).
      part_from fuel e n below i x p q ss (opening_choice (v.inside x i e) i x q has of (reaches_opens r l (right_alone q x has of)) (reaches_ready r l)) fits
      (no_further fuel r (right_alone q x has of)))
      (from_start g v (suc fuel) e n (derived x ∷ ss) i p)
  no_further (suc fuel) (leaves {e = e} {n = n} {below = below} {i = i} {j = j} {p = p} {x = x} {q = q} {ss = ss} has of fits d r) f =
      by_order j p
      (λ (l : j < p).
      let follow = followed x ss f (reaches_opens r l (flows_rest g v h bound good steady Nothing (derived x) ss f)) in
      let within : h.follow x (v.class (v.inside x i e) j) ≡ true = rw (steady.follow_same x i e j follow) follow in
      part_after fuel e n below i x p q ss (taken-choice g v h bound good steady x q has of d within) fits
      (complete g v h bound good steady d (h.follow x) (flows_right g v h bound good steady q x has of) within fuel)
      (no_further fuel r (flows_rest g v h bound good steady Nothing (derived x) ss f)))
      (λ (k : p ≤ j). by_order i j
      (λ (l : i < j).
      part_from fuel e n below i x p q ss (opening_choice (v.inside x i e) i x q has of (derives_opens d l (right_alone q x has of)) (derives_ready d)) fits
      (from_less p k (no_further fuel (derives_reaches d) (right_alone q x has of))))
      (λ (l : j ≤ i). from_start g v (suc fuel) e n (derived x ∷ ss) i p (omega arith)))
