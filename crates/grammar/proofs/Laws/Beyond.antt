-- Where the reading is too deep, some partial derivation at another depth takes the token there, for a table that passes the tests.
-- Assumes nothing.
use Prim.Native.Nat.{ℕ, zero, suc, ◌+◌, ◌≤◌, ◌<◌, max}
use mathlib.Core.Path.{◌≡◌, refl, ◌∙◌, subst}
use mathlib.Core.Bool.{Bool, true, false}
use mathlib.Core.List.{List, [], ◌∷◌}
use native.Mathlib.Omega.{arith}
use lib.Dec.{eqb, ltb}
use lib.ListN.{length}
use borrow.Author.Tests.{eqb-true, lt-ltb}
use Rattle.lexer.specs.Tests.{and, or, among}
use Rattle.lexer.proofs.Laws.Tests.{and_left, and_right, or_else_lem}
use Rattle.tree.specs.TreeTable.{Row}
use Rattle.grammar.specs.Grammars.{end_of_tokens, next, query, Symbol, token, derived, condition, when, Production, Names, View, agrees}
use Rattle.grammar.specs.Grammars.{Condition, Makes, gives_row, row_of, gives_kind, no_row, asked, met}
use Rattle.grammar.specs.Rows.{levels}
use Rattle.grammar.specs.Derivations.{Has, here, there, Derives, end, taken, held, entered}
use Rattle.grammar.specs.Reaches.{Reaches, stops, takes, meets, enters, leaves}
use Rattle.grammar.specs.executable.First.{any_of, can_begin, can_skip}
use Rattle.grammar.specs.executable.Reading.{Outcome, deep, selected, choice, joined, read_within, whole}
use Rattle.grammar.proofs.Laws.Checks.{Hints, implies, every, takes_first, first_taken, row_begins, without, Passes}
use Rattle.grammar.proofs.Laws.CheckLaws.{implies_true, every_has, below_at}
use Rattle.grammar.proofs.Laws.Choices.{chosen, chosen_passes}
use Rattle.grammar.proofs.Laws.Follow.{Steady}
use Rattle.grammar.proofs.Laws.Outcomes.{Ends, Anywhere, up_to, out, ends_deep, ends_each, ends_pick, ends_onward, ends_enter}
use Rattle.grammar.proofs.Laws.Grows.{derives_wider}
use Rattle.grammar.proofs.Laws.Reaches.{reaches_wider}

not_both : (t : Bool) → agrees false t ≡ true → t ≡ true → ⊥
unfolding agrees
not_both true a h = let z : ◌≡◌ {A = ℕ} 0 1 = cc in absurd (omega arith)
not_both false a h = let z : ◌≡◌ {A = ℕ} 0 1 = cc in absurd (omega arith)

one_level : (m : Makes) → levels m ≤ 1
unfolding levels
one_level (gives_row kind) = omega arith
one_level row_of = omega arith
one_level (gives_kind kind) = omega arith
one_level no_row = omega arith

-- some partial derivation, at some depth, takes token q
pub data Beyond (g : List Production) (v : View) (e : Names) (ss : List Symbol) (i q : ℕ) : Type 0 where
  beyond : {m : ℕ} → Reaches g v e m ss i (suc q) → Beyond g v e ss i q

-- where some production of a nonterminal passes a test, it is one of the table
any_of_lem : {P : Type 0} (x : ℕ) (test : List Symbol → Bool) (ps : List Production)
    → ((p : Production) → Has ps p → p.left ≡ x → test p.right ≡ true → P) → any_of x test ps ≡ true → P
unfolding any_of
any_of_lem x test [] f t = let z : ◌≡◌ {A = ℕ} 0 1 = cc in absurd (omega arith)
any_of_lem x test (p ∷ ps) f t =
    or_else_lem (and (eqb p.left x) (test p.right)) (any_of x test ps)
    (λ (s : and (eqb p.left x) (test p.right) ≡ true).
    f p here (eqb-true p.left x (and_left (eqb p.left x) (test p.right) s)) (and_right (eqb p.left x) (test p.right) s))
    (any_of_lem x test ps (λ (q : Production) (has : Has ps q). f q (there has))) t

module _ {g : List Production} {v : View} where
  beyond-taken : {e : Names} {i q : ℕ} {cs : List ℕ} {ss : List Symbol} → among cs (v.class e i) ≡ true → Beyond g v e ss (suc i) q
      → Beyond g v e (token cs ∷ ss) i q
  beyond-taken t (beyond r) = beyond (takes t r)

  beyond-held : {e : Names} {i q : ℕ} {b : Bool} {c : Condition} {ss : List Symbol} → met v e i b c ≡ true → Beyond g v e ss i q
      → Beyond g v e (condition b c ∷ ss) i q
  beyond-held t (beyond r) = beyond (meets t r)

  beyond_into : {e : Names} {i q x : ℕ} {p : Production} {ss : List Symbol} → Has g p → p.left ≡ x
      → Beyond g v (v.inside x i e) p.right i q → Beyond g v e (derived x ∷ ss) i q
  beyond_into {p = p} has of (beyond {m = m} r) = beyond (enters {n = levels p.makes + m} has of refl r)

  beyond_after : {e : Names} {below i j q x said : ℕ} {p : Production} {ss : List Symbol} {inner : List Row} → Has g p → p.left ≡ x
      → Derives g v (v.inside x i e) below p.right i j inner said → Beyond g v e ss j q → Beyond g v e (derived x ∷ ss) i q
  beyond_after {below = below} {p = p} has of d (beyond {m = m} r) =
      let room = max below m in
      beyond (leaves {n = levels p.makes + room} has of refl (derives_wider g v room (omega arith) d)
      (reaches_wider (levels p.makes + room) (omega arith) r))

-- for a table g whose start is x and which passes the tests, and for the tokens of a view v
module _ (g : List Production) (h : Hints) (bound x : ℕ) (tests : Passes g h bound x) (v : View) (steady : Steady v h bound) where
  -- what takes a token of class c first does so at some depth, ..
  first-beyond : (c : ℕ) (first : ℕ → Bool)
      → ((y : ℕ) (ss : List Symbol) (e : Names) (i : ℕ) → v.class e i ≡ c → first y ≡ true → Beyond g v e (derived y ∷ ss) i i)
      → (ss : List Symbol) (e : Names) (i : ℕ) → v.class e i ≡ c → takes_first c first ss ≡ true → Beyond g v e ss i i
  unfolding takes_first met asked
  first-beyond c first known [] e i s t = let z : ◌≡◌ {A = ℕ} 0 1 = cc in absurd (omega arith)
  first-beyond c first known (token cs ∷ ss) e i s t =
      let first : among cs (v.class e i) ≡ true = rw s t in
      beyond {m = 0} (takes first stops)
  first-beyond c first known (derived y ∷ ss) e i s t = known y ss e i s t
  first-beyond c first known (condition b (next cs) ∷ ss) e i s t =
      beyond-held (rw s (and_left (agrees b (among cs c)) (takes_first c first ss) t))
      (first-beyond c first known ss e i s (and_right (agrees b (among cs c)) (takes_first c first ss) t))
  first-beyond c first known (condition b (query q) ∷ ss) e i s t = let z : ◌≡◌ {A = ℕ} 0 1 = cc in absurd (omega arith)

  -- .. and so does a nonterminal
  part_beyond : (d c y : ℕ) (ss : List Symbol) (e : Names) (i : ℕ) → v.class e i ≡ c → first_taken g d c y ≡ true
      → Beyond g v e (derived y ∷ ss) i i
  unfolding first_taken
  part_beyond zero c y ss e i s t = let z : ◌≡◌ {A = ℕ} 0 1 = cc in absurd (omega arith)
  part_beyond (suc d) c y ss e i s t =
      any_of_lem y (takes_first c (first_taken g d c)) g (λ (p : Production) (has : Has g p) (of : p.left ≡ y)
      (first : takes_first c (first_taken g d c) p.right ≡ true).
      beyond_into has of
      (first-beyond c (first_taken g d c) (part_beyond d c) p.right (v.inside y i e) i (steady.first_same y i e ∙ s) first)) t

  -- where a production that takes a level is chosen, of another nonterminal than the start, some depth has it take the token
  level_beyond : (e : Names) (y i : ℕ) (ss : List Symbol) (p : Production) → choice g v (v.inside y i e) y i ≡ selected p
      → agrees false (eqb y x) ≡ true → 1 ≤ levels p.makes → Beyond g v e (derived y ∷ ss) i i
  unfolding row_begins
  level_beyond e y i ss p c other l =
      let (has, of) = chosen g v (v.inside y i e) y i p c in
      let class = v.class (v.inside y i e) i in
      let passes = or (can_begin g class p) (can_skip g class p) in
      let first = takes_first class (first_taken g (length g) class) p.right in
      let test = every_has (row_begins g x class) g p (below_at (λ (c : ℕ). every (row_begins g x c) g) bound class tests.begun
      (steady.classed (v.inside y i e) i)) has in
      or_else_lem (eqb p.left x) (implies (ltb 0 (levels p.makes)) (implies passes first))
      (λ (s : eqb p.left x ≡ true). absurd (not_both (eqb p.left x) (rw of other) s))
      (λ (s : implies (ltb 0 (levels p.makes)) (implies passes first) ≡ true).
      let begun = implies_true passes first (implies_true (ltb 0 (levels p.makes)) (implies passes first) s
      (lt-ltb 0 (levels p.makes) l)) (chosen_passes g v (v.inside y i e) y i p c) in
      beyond_into has of (first-beyond class (first_taken g (length g) class) (part_beyond (length g) class) p.right (v.inside y i e) i refl begun))
      test

  -- where an outcome is too deep, some depth takes the token there
  abbrev Deepens : Names → ℕ → List Symbol → ℕ → Outcome → Type 0
  Deepens e n ss i = Ends (Derives g v e n ss i) Anywhere (Beyond g v e ss i) Unit

  -- what is read with so much fuel of symbols without the start
  abbrev AllDeepen : ℕ → Type 0
  AllDeepen f = (e : Names) (n : ℕ) (ss : List Symbol) (i : ℕ) → without x ss ≡ true → Deepens e n ss i (read_within g v f e n ss i)

  part_deepens : (f : ℕ) → AllDeepen f → (e : Names) (n y : ℕ) (ss : List Symbol) (i : ℕ) → without x ss ≡ true
      → ((p : Production) → choice g v (v.inside y i e) y i ≡ selected p → n < levels p.makes → Beyond g v e (derived y ∷ ss) i i)
      → Deepens e n (derived y ∷ ss) i (read_within g v (suc f) e n (derived y ∷ ss) i)
  unfolding read_within joined
  part_deepens f all e n y ss i a d =
      ends_enter (choice g v (v.inside y i e) y i) n i _ tt d (λ (p : Production) (below : ℕ) (c : choice g v (v.inside y i e) y i ≡ selected p)
      (fits : n ≡ levels p.makes + below).
      let (has, of) = chosen g v (v.inside y i e) y i p c in
      let apart = every_has (λ (q : Production). without x q.right) g p tests.apart has in
      ends_onward _ (ends_each (all (v.inside y i e) below p.right i apart) (λ (j : ℕ) (rows : List Row) (said : ℕ) r. r)
      (λ (q : ℕ) k. tt) (λ (q : ℕ). beyond_into has of))
      (λ (j : ℕ) (inner : List Row) (said : ℕ) (r : Derives g v (v.inside y i e) below p.right i j inner said).
      ends_onward (joined p.makes i j inner said) (ends_each (all e n ss j a) (λ (k : ℕ) (rows : List Row) (later : ℕ) s. s)
      (λ (q : ℕ) k. tt) (λ (q : ℕ). beyond_after has of r))
      (λ (k : ℕ) (rest : List Row) (later : ℕ) (s : Derives g v e n ss j k rest later). up_to (entered has of fits r s))))

  all_deepen : (f : ℕ) → AllDeepen f
  unfolding read_within without
  all_deepen zero e n ss i a = out tt
  all_deepen (suc f) e n [] i a = up_to end
  all_deepen (suc f) e n (token cs ∷ ss) i a =
      ends_pick (among cs (v.class e i)) (read_within g v f e n ss (suc i)) i tt (λ (t : among cs (v.class e i) ≡ true).
      ends_each (all_deepen f e n ss (suc i) a) (λ (j : ℕ) (rows : List Row) (said : ℕ). taken t) (λ (q : ℕ) k. tt) (λ (q : ℕ). beyond-taken t))
  all_deepen (suc f) e n (condition b q ∷ ss) i a =
      ends_pick (met v e i b q) (read_within g v f e n ss i) i tt (λ (t : met v e i b q ≡ true).
      ends_each (all_deepen f e n ss i a) (λ (j : ℕ) (rows : List Row) (said : ℕ). held t) (λ (q : ℕ) k. tt) (λ (q : ℕ). beyond-held t))
  all_deepen (suc f) e n (derived y ∷ ss) i a =
      let other = and_left (agrees false (eqb y x)) (without x ss) a in
      part_deepens f (all_deepen f) e n y ss i (and_right (agrees false (eqb y x)) (without x ss) a)
      (λ (p : Production) (c : choice g v (v.inside y i e) y i ≡ selected p) (l : n < levels p.makes). level_beyond e y i ss p c other (omega arith))

  -- the start, which takes at most one level, and then the end of the tokens
  pub deep-beyond : (fuel : ℕ) (e : Names) (n q : ℕ) → 1 ≤ n → read_within g v fuel e n (whole x) 0 ≡ deep q → Beyond g v e (whole x) 0 q
  unfolding read_within without
  deep-beyond zero e n q some r = let z : ◌≡◌ {A = ℕ} 0 1 = cc in absurd (omega arith)
  deep-beyond (suc f) e n q some r =
      ends_deep (subst (Deepens e n (whole x) 0) r (part_deepens f (all_deepen f) e n x (when (next (end_of_tokens ∷ [])) ∷ []) 0 refl
      (λ (p : Production) (c : choice g v (v.inside x 0 e) x 0 ≡ selected p) (l : n < levels p.makes).
      let most = one_level p.makes in
      absurd (omega arith))))
