-- Complete: what symbols derive from some tokens is what the reading gives, with exactly those rows, for a table that passes the
-- tests. Assumes nothing.
use Prim.Native.Nat.{ℕ, zero, suc, ◌+◌}
use mathlib.Core.Path.{◌≡◌, refl}
use mathlib.Core.Bool.{Bool, true}
use mathlib.Core.List.{List}
use native.Mathlib.Nat.{zero-add}
use native.Mathlib.Omega.{arith}
use Rattle.tree.specs.TreeTable.{Row}
use Rattle.grammar.specs.Grammars.{Symbol, token, derived, condition, Production, Names, View}
use Rattle.grammar.specs.Rows.{levels}
use Rattle.grammar.specs.Derivations.{Has, Derives, end, taken, held, entered}
use Rattle.grammar.specs.executable.First.{can_begin, can_skip}
use Rattle.grammar.specs.executable.Reading.{Outcome, ok, spent, selected, choice, onward, descend, enter, joined, read_within}
use Rattle.grammar.proofs.Laws.Checks.{Hints, may, live, Closed}
use Rattle.grammar.proofs.Laws.Choices.{choice_is}
use Rattle.grammar.proofs.Laws.Follow.{Steady, passed_at, derives_ready, Flows, flows_rest, flows_right, may_begin, part_followed}

-- an outcome that is this reading, or where the fuel is spent
pub data Agrees (j : ℕ) (rows : List Row) (said : ℕ) : Outcome → Type 0 where
  same : Agrees j rows said (ok j rows said)
  short : Agrees j rows said spent

pub agrees_ok : {j said : ℕ} {rows : List Row} {o : Outcome} → Agrees j rows said o → (o ≡ spent → ⊥) → o ≡ ok j rows said
agrees_ok same n = refl
agrees_ok short n = absurd (n refl)

agrees_onward : {j k said later : ℕ} {rows more : List Row} {o : Outcome} (rest : ℕ → List Row → ℕ → Outcome) → Agrees j rows said o
    → Agrees k more later (rest j rows said) → Agrees k more later (onward o rest)
unfolding onward
agrees_onward rest same a = a
agrees_onward rest short a = short

pub descend-below : (l n m i : ℕ) (below : ℕ → Outcome) → n ≡ l + m → descend l n i below ≡ below m
unfolding descend
descend-below zero n m i below h = rw h (rw zero-add refl)
descend-below (suc l) zero m i below h = absurd (omega arith)
descend-below (suc l) (suc n) m i below h = descend-below l n m i below (omega arith)

module _ (g : List Production) (v : View) (h : Hints) (bound : ℕ) (good : Closed g h bound) (steady : Steady v h bound) where
  -- the production that a derivation uses is the one that the reading takes
  pub taken-choice : {e : Names} {n i j said : ℕ} {rows : List Row} (x : ℕ) (p : Production) → Has g p → p.left ≡ x
      → Derives g v e n p.right i j rows said → h.follow x (v.class e j) ≡ true → choice g v e x i ≡ selected p
  unfolding live may can_begin can_skip
  taken-choice {e = e} {i = i} x p has left d f =
      let begin = may_begin g v h bound good steady d (h.follow x) (flows_right g v h bound good steady p x has left) f in
      choice_is g h v e x i (passed_at g h bound (v.class e i) good (steady.classed e i)).exclude p has left (rw left begin) (derives_ready d)

  pub complete : {e : Names} {n i j said : ℕ} {ss : List Symbol} {rows : List Row} → Derives g v e n ss i j rows said
      → (after : ℕ → Bool) → Flows g v h bound good steady after ss → after (v.class e j) ≡ true
      → (fuel : ℕ) → Agrees j rows said (read_within g v fuel e n ss i)
  unfolding read_within joined enter
  complete d after f t zero = short
  complete end after f t (suc fuel) = same
  complete {i = i} (taken {cs = cs} {ss = ss} m d) after f t (suc fuel) =
      rw m (complete {i = suc i} d after (flows_rest g v h bound good steady after (token cs) ss f) t fuel)
  complete (held {b = b} {q = q} {ss = ss} m d) after f t (suc fuel) =
      rw m (complete d after (flows_rest g v h bound good steady after (condition b q) ss f) t fuel)
  complete (entered {e = e} {n = n} {below = left} {i = i} {j = j} {x = x} {said = said} {p = p} {ss = ss} {inner = rows} has of fits inner rest)
      after f t (suc fuel) =
      let follow = part_followed g v h bound good steady x rest after f t in
      let within : h.follow x (v.class (v.inside x i e) j) ≡ true = rw (steady.follow_same x i e j follow) follow in
      rw (taken-choice x p has of inner within, descend-below (levels p.makes) n left i _ fits)
      (agrees_onward _ (complete {e = v.inside x i e} {n = left} inner (h.follow x) (flows_right g v h bound good steady p x has of) within fuel)
      (agrees_onward (joined p.makes i j rows said)
      (complete rest after (flows_rest g v h bound good steady after (derived x) ss f) t fuel) same))
