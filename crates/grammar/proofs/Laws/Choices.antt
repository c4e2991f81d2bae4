-- Which production a reading takes: one of the table, and where the tests of the table pass, the one that a derivation uses.
-- Assumes nothing.
use Prim.Native.Nat.{ℕ}
use mathlib.Core.Path.{◌≡◌, refl, ◌∙◌, sym, subst, ap}
use mathlib.Core.Bool.{Bool, true, false}
use mathlib.Core.List.{List, [], ◌∷◌}
use native.Mathlib.Omega.{arith}
use lib.Dec.{eqb}
use borrow.Author.Tests.{eqb-true, eq-eqb}
use Rattle.lexer.specs.Tests.{and, or, pick, among}
use Rattle.lexer.proofs.Laws.Tests.{and_left, and_right, or_else_lem, or_left, or_right}
use Rattle.grammar.specs.Grammars.{next, query, Symbol, token, derived, condition, Production, Names, View, agrees, asked, met}
use Rattle.grammar.specs.Derivations.{Has, here, there}
use Rattle.grammar.specs.executable.First.{can_begin, can_skip}
use Rattle.grammar.specs.executable.Reading.{ready, Choice, none, selected, find, otherwise, choice}
use Rattle.grammar.proofs.Laws.Checks.{Hints, implies, every, live, asks, opposed, excludes, exclusive}
use Rattle.grammar.proofs.Laws.CheckLaws.{and_both, implies_true, every_has}

-- the production that is found is one of the table, of the nonterminal that is asked for, and passes the test
pub record Found (ps : List Production) (x : ℕ) (test : Production → Bool) (p : Production) : Type 0 where
  pub has : Has ps p
  pub of : p.left ≡ x
  pub passes : test p ≡ true

module _ (v : View) (e : Names) (i x : ℕ) (test : Production → Bool) where
  found_by : (q : Production) (ps : List Production) (p : Production) (t : Bool)
      → and (eqb q.left x) (and (test q) (ready v e i q.right)) ≡ t
      → (find v e i x test ps ≡ selected p → Found ps x test p)
      → pick t (selected q) (find v e i x test ps) ≡ selected p → Found (q ∷ ps) x test p
  found_by q ps p true m later f =
      let same : q ≡ p = cc in
      let left = and_left (eqb q.left x) (and (test q) (ready v e i q.right)) m in
      let both = and_right (eqb q.left x) (and (test q) (ready v e i q.right)) m in
      subst (λ (r : Production). Found (q ∷ ps) x test r) same
      (record { has = here; of = eqb-true q.left x left; passes = and_left (test q) (ready v e i q.right) both })
  found_by q ps p false m later f =
      let l = later f in
      record { has = there l.has; of = l.of; passes = l.passes }

  pub found : (g : List Production) (p : Production) → find v e i x test g ≡ selected p → Found g x test p
  unfolding find
  found [] p f = let z : ◌≡◌ {A = ℕ} 0 1 = cc in absurd (omega arith)
  found (q ∷ ps) p f = found_by q ps p (and (eqb q.left x) (and (test q) (ready v e i q.right))) refl (found ps p) f

-- a production that one or else the other choice gives
or_found : {P : Type 0} (a b : Choice) (p : Production) → (a ≡ selected p → P) → (b ≡ selected p → P) → otherwise a b ≡ selected p → P
unfolding otherwise
or_found none b p f k c = k c
or_found (selected q) b p f k c = f c

-- the production that is chosen is one of the table, of the nonterminal that is asked for ..
pub chosen : (g : List Production) (v : View) (e : Names) (x i : ℕ) (p : Production) → choice g v e x i ≡ selected p
    → (Has g p) × (p.left ≡ x)
unfolding choice
chosen g v e x i p c =
    let class = v.class e i in
    or_found (find v e i x (can_begin g class) g) (find v e i x (can_skip g class) g) p
    (λ (f : find v e i x (can_begin g class) g ≡ selected p). let l = found v e i x (can_begin g class) g p f in (l.has, l.of))
    (λ (f : find v e i x (can_skip g class) g ≡ selected p). let l = found v e i x (can_skip g class) g p f in (l.has, l.of)) c

-- .. and can begin with the token there, or derive none before it
pub chosen_passes : (g : List Production) (v : View) (e : Names) (x i : ℕ) (p : Production) → choice g v e x i ≡ selected p
    → or (can_begin g (v.class e i) p) (can_skip g (v.class e i) p) ≡ true
unfolding choice
chosen_passes g v e x i p c =
    let class = v.class e i in
    or_found (find v e i x (can_begin g class) g) (find v e i x (can_skip g class) g) p
    (λ (f : find v e i x (can_begin g class) g ≡ selected p).
    or_left (can_begin g class p) (can_skip g class p) (found v e i x (can_begin g class) g p f).passes)
    (λ (f : find v e i x (can_skip g class) g ≡ selected p).
    or_right (can_begin g class p) (can_skip g class p) (found v e i x (can_skip g class) g p f).passes) c

-- opposite conditions at the front are not both met
module _ (v : View) (e : Names) (i : ℕ) where
  agrees-same : (a b t : Bool) → agrees b a ≡ true → agrees a t ≡ true → agrees b t ≡ true
  unfolding agrees
  agrees-same true true t s h = h
  agrees-same true false t s h = let z : ◌≡◌ {A = ℕ} 0 1 = cc in absurd (omega arith)
  agrees-same false true t s h = let z : ◌≡◌ {A = ℕ} 0 1 = cc in absurd (omega arith)
  agrees-same false false t s h = h

  agrees_not : (b t : Bool) → agrees b t ≡ true → agrees (agrees b false) t ≡ true → ⊥
  unfolding agrees
  agrees_not true true h k = let z : ◌≡◌ {A = ℕ} 0 1 = cc in absurd (omega arith)
  agrees_not true false h k = let z : ◌≡◌ {A = ℕ} 0 1 = cc in absurd (omega arith)
  agrees_not false true h k = let z : ◌≡◌ {A = ℕ} 0 1 = cc in absurd (omega arith)
  agrees_not false false h k = let z : ◌≡◌ {A = ℕ} 0 1 = cc in absurd (omega arith)

  asks-met : (b : Bool) (q : ℕ) (ss : List Symbol) → asks b q ss ≡ true → ready v e i ss ≡ true → agrees b (v.holds q i) ≡ true
  unfolding asks ready met asked
  asks-met b q [] h r = let z : ◌≡◌ {A = ℕ} 0 1 = cc in absurd (omega arith)
  asks-met b q (token cs ∷ ss) h r = let z : ◌≡◌ {A = ℕ} 0 1 = cc in absurd (omega arith)
  asks-met b q (derived x ∷ ss) h r = let z : ◌≡◌ {A = ℕ} 0 1 = cc in absurd (omega arith)
  asks-met b q (condition a (next cs) ∷ ss) h r = asks-met b q ss h (and_right (agrees a (among cs (v.class e i))) (ready v e i ss) r)
  asks-met b q (condition a (query k) ∷ ss) h r =
      or_else_lem (and (eqb q k) (agrees b a)) (asks b q ss)
      (λ (s : and (eqb q k) (agrees b a) ≡ true).
      let same = eqb-true q k (and_left (eqb q k) (agrees b a) s) in
      rw same (agrees-same a b (v.holds k i) (and_right (eqb q k) (agrees b a) s) (and_left (agrees a (v.holds k i)) (ready v e i ss) r)))
      (λ (s : asks b q ss ≡ true). asks-met b q ss s (and_right (agrees a (v.holds k i)) (ready v e i ss) r))
      h

  opposed_apart : (ss ts : List Symbol) → opposed ss ts ≡ true → ready v e i ss ≡ true → ready v e i ts ≡ true → ⊥
  unfolding opposed ready met asked
  opposed_apart [] ts h r k = let z : ◌≡◌ {A = ℕ} 0 1 = cc in absurd (omega arith)
  opposed_apart (token cs ∷ ss) ts h r k = let z : ◌≡◌ {A = ℕ} 0 1 = cc in absurd (omega arith)
  opposed_apart (derived x ∷ ss) ts h r k = let z : ◌≡◌ {A = ℕ} 0 1 = cc in absurd (omega arith)
  opposed_apart (condition b (next cs) ∷ ss) ts h r k =
      opposed_apart ss ts h (and_right (agrees b (among cs (v.class e i))) (ready v e i ss) r) k
  opposed_apart (condition b (query q) ∷ ss) ts h r k =
      or_else_lem (asks (agrees b false) q ts) (opposed ss ts)
      (λ (s : asks (agrees b false) q ts ≡ true).
      agrees_not b (v.holds q i) (and_left (agrees b (v.holds q i)) (ready v e i ss) r) (asks-met (agrees b false) q ts s k))
      (λ (s : opposed ss ts ≡ true). opposed_apart ss ts s (and_right (agrees b (v.holds q i)) (ready v e i ss) r) k)
      h

-- A nonterminal x at a token of class c, and a production p of it that may have to be taken there and whose conditions are met.
-- Where the alternatives exclude each other, no other production of x passes a test that only such ones pass.
module _ (g : List Production) (h : Hints) (c : ℕ) (v : View) (e : Names) (i x : ℕ) where
  -- two productions of x that exclude each other are not both possible here
  excluded : (p q : Production) → p.left ≡ x → q.left ≡ x → excludes g h c p q ≡ true → live g h c q ≡ true
      → ready v e i p.right ≡ true → ready v e i q.right ≡ true → ⊥
  unfolding excludes
  excluded p q lp lq t alive rp rq =
      let same = and_both (eqb p.left q.left) (live g h c q) (eq-eqb p.left q.left (lp ∙ sym lq)) alive in
      opposed_apart v e i p.right q.right (implies_true (and (eqb p.left q.left) (live g h c q)) _ t same) rp rq

  module _ (test : Production → Bool) (alive : (q : Production) → q.left ≡ x → test q ≡ true → live g h c q ≡ true) where
    -- what a production that is found shows
    fits : (q : Production) → and (eqb q.left x) (and (test q) (ready v e i q.right)) ≡ true
        → (q.left ≡ x) × ((live g h c q ≡ true) × (ready v e i q.right ≡ true))
    fits q t =
        let left = eqb-true q.left x (and_left (eqb q.left x) (and (test q) (ready v e i q.right)) t) in
        let both = and_right (eqb q.left x) (and (test q) (ready v e i q.right)) t in
        (left, (alive q left (and_left (test q) (ready v e i q.right) both), and_right (test q) (ready v e i q.right) both))

    none_by : (p q : Production) (ps : List Production) → p.left ≡ x → ready v e i p.right ≡ true → excludes g h c p q ≡ true
        → find v e i x test ps ≡ none → (t : Bool) → and (eqb q.left x) (and (test q) (ready v e i q.right)) ≡ t
        → pick t (selected q) (find v e i x test ps) ≡ none
    none_by p q ps lp rp out later true s =
        let f = fits q s in
        absurd (excluded p q lp f.0 out f.1.0 rp f.1.1)
    none_by p q ps lp rp out later false s = later

    -- all productions of a list are excluded by p
    none_found : (p : Production) (ps : List Production) → p.left ≡ x → ready v e i p.right ≡ true
        → every (excludes g h c p) ps ≡ true → find v e i x test ps ≡ none
    unfolding find every
    none_found p [] lp rp out = refl
    none_found p (q ∷ ps) lp rp out =
        none_by p q ps lp rp (and_left (excludes g h c p q) (every (excludes g h c p) ps) out)
        (none_found p ps lp rp (and_right (excludes g h c p q) (every (excludes g h c p) ps) out)) _ refl

    here_by : (p : Production) (ps : List Production) → p.left ≡ x → ready v e i p.right ≡ true
        → every (excludes g h c p) ps ≡ true → (t : Bool) → test p ≡ t
        → pick (and (eqb p.left x) (and t (ready v e i p.right))) (selected p) (find v e i x test ps) ≡ pick t (selected p) none
    unfolding and
    here_by p ps lp rp out true s = rw (eq-eqb p.left x lp, rp)
    here_by p ps lp rp out false s = rw (eq-eqb p.left x lp) (none_found p ps lp rp out)

    there_by : (p q : Production) (ps : List Production) → p.left ≡ x → live g h c p ≡ true → ready v e i p.right ≡ true
        → implies (live g h c q) (every (excludes g h c q) ps) ≡ true → Has ps p
        → find v e i x test ps ≡ pick (test p) (selected p) none
        → (t : Bool) → and (eqb q.left x) (and (test q) (ready v e i q.right)) ≡ t
        → pick t (selected q) (find v e i x test ps) ≡ pick (test p) (selected p) none
    there_by p q ps lp ap rp out has later true s =
        let f = fits q s in
        let all = implies_true (live g h c q) (every (excludes g h c q) ps) out f.1.0 in
        absurd (excluded q p f.0 lp (every_has (excludes g h c q) ps p all has) ap f.1.1 rp)
    there_by p q ps lp ap rp out has later false s = later

    sole : (ps : List Production) (p : Production) → exclusive g h c ps ≡ true → Has ps p → p.left ≡ x → live g h c p ≡ true
        → ready v e i p.right ≡ true → find v e i x test ps ≡ pick (test p) (selected p) none
    unfolding find exclusive
    sole ps p out (here {ps = qs}) lp ap rp =
        let all = implies_true (live g h c p) (every (excludes g h c p) qs) (and_left _ (exclusive g h c qs) out) ap in
        here_by p qs lp rp all (test p) refl
    sole ps p out (there {q = q} {ps = qs} has) lp ap rp =
        there_by p q qs lp ap rp (and_left _ (exclusive g h c qs) out) has
        (sole qs p (and_right _ (exclusive g h c qs) out) has lp ap rp) _ refl

-- the reading takes the production that may have to be taken and whose conditions are met
module _ (g : List Production) (h : Hints) (v : View) (e : Names) (x i : ℕ) (out : exclusive g h (v.class e i) g ≡ true) where
  choice_by : (p : Production) → Has g p → p.left ≡ x → live g h (v.class e i) p ≡ true → ready v e i p.right ≡ true
      → (t : Bool) → can_begin g (v.class e i) p ≡ t → choice g v e x i ≡ selected p
  unfolding choice live otherwise or
  choice_by p has lp ap rp true s =
      let begin = sole g h (v.class e i) v e i x (can_begin g (v.class e i))
      (λ (q : Production) (l : q.left ≡ x) (t : can_begin g (v.class e i) q ≡ true). or_left _ _ t) g p out has lp ap rp in
      rw (begin, s)
  choice_by p has lp ap rp false s =
      let begin = sole g h (v.class e i) v e i x (can_begin g (v.class e i))
      (λ (q : Production) (l : q.left ≡ x) (t : can_begin g (v.class e i) q ≡ true). or_left _ _ t) g p out has lp ap rp in
      let both : and (can_skip g (v.class e i) p) (h.follow p.left (v.class e i)) ≡ true = rw s at ap in
      let after = and_right (can_skip g (v.class e i) p) (h.follow p.left (v.class e i)) both in
      let skip = sole g h (v.class e i) v e i x (can_skip g (v.class e i))
      (λ (q : Production) (l : q.left ≡ x) (t : can_skip g (v.class e i) q ≡ true).
      or_right (can_begin g (v.class e i) q) _ (and_both _ _ t (rw (l, ← lp) after))) g p out has lp ap rp in
      rw (begin, s, skip, and_left (can_skip g (v.class e i) p) _ both)

  pub choice_is : (p : Production) → Has g p → p.left ≡ x → live g h (v.class e i) p ≡ true → ready v e i p.right ≡ true
      → choice g v e x i ≡ selected p
  choice_is p has lp ap rp = choice_by p has lp ap rp (can_begin g (v.class e i) p) refl
