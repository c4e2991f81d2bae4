-- What a derivation shows at its first token, where FIRST and FOLLOW are closed: the class there is one that the symbols can begin
-- with, or one that may follow them if they are empty. Assumes nothing.
use Prim.Native.Nat.{ℕ, ◌<◌}
use mathlib.Core.Path.{◌≡◌, refl}
use mathlib.Core.Bool.{Bool, true, false}
use mathlib.Core.List.{List, [], ◌∷◌}
use mathlib.Core.Logic.{◌⊎◌, inl, inr}
use native.Mathlib.Omega.{arith}
use Rattle.lexer.specs.Tests.{and, or}
use Rattle.lexer.proofs.Laws.Tests.{and_left, and_right, or_else_lem, or_left}
use Rattle.tree.specs.TreeTable.{Row}
use Rattle.grammar.specs.Grammars.{Condition, next, query, Symbol, token, derived, condition, Production, Names, View, asked, met}
use Rattle.grammar.specs.Derivations.{Has, Derives, end, taken, held, entered}
use Rattle.grammar.specs.executable.First.{allows, skips, starts, empty, first, can_begin, can_skip}
use Rattle.grammar.specs.executable.Reading.{ready}
use Rattle.grammar.proofs.Laws.Checks.{Hints, implies, every, may, first_closed, empty_closed, flows, follow_closed, exclusive}
use Rattle.grammar.proofs.Laws.Checks.{Closed}
use Rattle.grammar.proofs.Laws.CheckLaws.{and_both, implies_true, every_has, below_at}

-- what the theorems ask of a view: its classes are below a bound, and the names that a nonterminal adds change neither the class
-- of its first token nor the class of a token that may follow it
pub record Steady (v : View) (h : Hints) (bound : ℕ) : Type 0 where
  pub classed : (e : Names) (i : ℕ) → v.class e i < bound
  pub first_same : (x i : ℕ) (e : Names) → v.class (v.inside x i e) i ≡ v.class e i
  pub follow_same : (x i : ℕ) (e : Names) (j : ℕ) → h.follow x (v.class e j) ≡ true → v.class (v.inside x i e) j ≡ v.class e j

-- the tests of a table at one class
pub record Passed (g : List Production) (h : Hints) (c : ℕ) : Type 0 where
  pub firsts : every (first_closed g c) g ≡ true
  pub empties : every (empty_closed g c) g ≡ true
  pub follows : every (follow_closed g h c) g ≡ true
  pub exclude : exclusive g h c g ≡ true

pub passed_at : (g : List Production) (h : Hints) (bound c : ℕ) → Closed g h bound → c < bound → Passed g h c
passed_at g h bound c t l = record {
  firsts = below_at (λ (c : ℕ). every (first_closed g c) g) bound c t.firsts l;
  empties = below_at (λ (c : ℕ). every (empty_closed g c) g) bound c t.empties l;
  follows = below_at (λ (c : ℕ). every (follow_closed g h c) g) bound c t.follows l;
  exclude = below_at (λ (c : ℕ). exclusive g h c g) bound c t.exclude l;
}

-- less may follow
pub may_less : (g : List Production) (c : ℕ) (a b : Bool) (ss : List Symbol) → implies a b ≡ true → may g c a ss ≡ true → may g c b ss ≡ true
unfolding may implies or and
may_less g c true b ss h m = rw h m
may_less g c false b ss h m = cases (starts c (first g c) (empty g c) ss) (skips c (empty g c) ss) m
  where
    cases : (s k : Bool) → or s (and k false) ≡ true → or s (and k b) ≡ true
    cases true k m = refl
    cases false true m = let z : ◌≡◌ {A = ℕ} 0 1 = cc in absurd (omega arith)
    cases false false m = m

implies_less : (a b c : Bool) → (a ≡ true → b ≡ true) → implies b c ≡ true → implies a c ≡ true
unfolding implies
implies_less true b c f h = implies_true b c h (f refl)
implies_less false b c f h = refl

pub flows_less : (g : List Production) (h : Hints) (c : ℕ) (a b : Bool) (ss : List Symbol) → implies a b ≡ true
    → flows g h c b ss ≡ true → flows g h c a ss ≡ true
unfolding flows
flows_less g h c a b [] l f = refl
flows_less g h c a b (token cs ∷ ss) l f = flows_less g h c a b ss l f
flows_less g h c a b (derived x ∷ ss) l f =
    let now = and_left (implies (may g c b ss) (h.follow x c)) (flows g h c b ss) f in
    let later = and_right (implies (may g c b ss) (h.follow x c)) (flows g h c b ss) f in
    and_both _ _ (implies_less (may g c a ss) (may g c b ss) (h.follow x c) (may_less g c a b ss l) now) (flows_less g h c a b ss l later)
flows_less g h c a b (condition k q ∷ ss) l f = flows_less g h c a b ss l f

pub allows-met : (v : View) (e : Names) (i : ℕ) (b : Bool) (q : Condition) → met v e i b q ≡ true → allows (v.class e i) b q ≡ true
unfolding met asked allows
allows-met v e i b (next cs) h = h
allows-met v e i b (query q) h = refl

-- the conditions at the front of a derivation are met
pub derives_ready : {g : List Production} {v : View} {e : Names} {n i j said : ℕ} {ss : List Symbol} {rows : List Row}
    → Derives g v e n ss i j rows said → ready v e i ss ≡ true
unfolding ready
derives_ready end = refl
derives_ready (taken h d) = refl
derives_ready (held h d) = and_both _ _ h (derives_ready d)
derives_ready (entered has left fits inner rest) = refl

-- a part that begins with the class, or is empty before what may be next
may_part : (f e s k a : Bool) → (f ≡ true) ⊎ ((e ≡ true) × (or s (and k a) ≡ true)) → or (or f (and e s)) (and (and e k) a) ≡ true
unfolding or and
may_part f e s k a (inl p) = rw p
may_part f e s k a (inr (p, q)) = rw p (cases f q)
  where
    cases : (f : Bool) → or s (and k a) ≡ true → or (or f s) (and k a) ≡ true
    cases true m = refl
    cases false m = m

module _ (g : List Production) (v : View) (h : Hints) (bound : ℕ) (good : Closed g h bound) (steady : Steady v h bound) where
  -- symbols whose parts are followed by what may follow them, where `after` says what may follow the last
  abbrev pub Flows : (ℕ → Bool) → List Symbol → Type 0
  Flows after ss = (c : ℕ) → c < bound → flows g h c (after c) ss ≡ true

  -- what may come at the end of a part may follow it
  pub flows_part : (after : ℕ → Bool) (x : ℕ) (ss : List Symbol) → Flows after (derived x ∷ ss)
      → (c : ℕ) → c < bound → implies (may g c (after c) ss) (h.follow x c) ≡ true
  unfolding flows
  flows_part after x ss f c l = and_left (implies (may g c (after c) ss) (h.follow x c)) (flows g h c (after c) ss) (f c l)

  -- the symbols after the first
  pub flows_rest : (after : ℕ → Bool) (s : Symbol) (ss : List Symbol) → Flows after (s ∷ ss) → Flows after ss
  unfolding flows
  flows_rest after (token cs) ss f c l = f c l
  flows_rest after (derived x) ss f c l = and_right (implies (may g c (after c) ss) (h.follow x c)) (flows g h c (after c) ss) (f c l)
  flows_rest after (condition b q) ss f c l = f c l

  -- the symbols of a production, followed by what may follow its nonterminal
  pub flows_right : (p : Production) (x : ℕ) → Has g p → p.left ≡ x → Flows (h.follow x) p.right
  unfolding follow_closed
  flows_right p x has left c l =
      rw (← left) (every_has (follow_closed g h c) g p (passed_at g h bound c good l).follows has)

  -- a production that begins with a class, or is empty before it, gives a nonterminal that does
  pub part_by : (p : Production) (x c : ℕ) (a : Bool) (ss : List Symbol) → c < bound → Has g p → p.left ≡ x
      → may g c (may g c a ss) p.right ≡ true → may g c a (derived x ∷ ss) ≡ true
  unfolding may starts skips first_closed empty_closed can_begin can_skip
  part_by p x c a ss l has left m =
      let tests = passed_at g h bound c good l in
      let begin : first g c p.left ≡ true → first g c x ≡ true = λ (t : first g c p.left ≡ true). rw (← left) t in
      let skip : empty g c p.left ≡ true → empty g c x ≡ true = λ (t : empty g c p.left ≡ true). rw (← left) t in
      may_part (first g c x) (empty g c x) (starts c (first g c) (empty g c) ss) (skips c (empty g c) ss) a
      (or_else_lem (starts c (first g c) (empty g c) p.right) _
      (λ (t : starts c (first g c) (empty g c) p.right ≡ true).
      inl (begin (implies_true _ _ (every_has (first_closed g c) g p tests.firsts has) t)))
      (λ (t : and (skips c (empty g c) p.right) (may g c a ss) ≡ true).
      inr (skip (implies_true _ _ (every_has (empty_closed g c) g p tests.empties has) (and_left _ _ t)), and_right _ _ t))
      m)

  pub may_begin : {e : Names} {n i j said : ℕ} {ss : List Symbol} {rows : List Row} → Derives g v e n ss i j rows said
      → (after : ℕ → Bool) → Flows after ss → after (v.class e j) ≡ true
      → may g (v.class e i) (after (v.class e i)) ss ≡ true
  unfolding may starts skips or and
  may_begin end after f t = t
  may_begin (taken m d) after f t = or_left _ _ m
  may_begin (held {e = e} {i = i} {b = b} {q = q} {ss = ss} m d) after f t =
      rw (allows-met v e i b q m) (may_begin d after (flows_rest after (condition b q) ss f) t)
  may_begin (entered {e = e} {i = i} {j = j} {x = x} {p = p} {ss = ss} has left fits inner rest) after f t =
      let next = may_begin rest after (flows_rest after (derived x) ss f) t in
      let l = steady.classed e j in
      let follow = implies_true _ (h.follow x (v.class e j)) (flows_part after x ss f (v.class e j) l) next in
      let here : may g (v.class (v.inside x i e) j) (after (v.class (v.inside x i e) j)) ss ≡ true =
      rw (steady.follow_same x i e j follow) next in
      let begin = may_begin inner (λ (c : ℕ). may g c (after c) ss)
      (λ (c : ℕ) (l : c < bound). flows_less g h c (may g c (after c) ss) (h.follow x c) p.right (flows_part after x ss f c l)
      (flows_right p x has left c l)) here in
      part_by p x (v.class e i) (after (v.class e i)) ss (steady.classed e i) has left (rw (steady.first_same x i e) at begin)

  -- what comes after a part may follow it
  pub part_followed : {e : Names} {n j k said : ℕ} {ss : List Symbol} {rows : List Row} (x : ℕ) → Derives g v e n ss j k rows said
      → (after : ℕ → Bool) → Flows after (derived x ∷ ss) → after (v.class e k) ≡ true → h.follow x (v.class e j) ≡ true
  part_followed {e = e} {j = j} {ss = ss} x rest after f t =
      implies_true _ (h.follow x (v.class e j)) (flows_part after x ss f (v.class e j) (steady.classed e j))
      (may_begin rest after (flows_rest after (derived x) ss f) t)
