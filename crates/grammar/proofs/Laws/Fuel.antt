-- How far a reading comes, and that its fuel always suffices, for a table that passes the test `falls`. Assumes nothing.
use Prim.Native.Nat.{ℕ, zero, suc, ◌+◌, ◌*◌, ◌-◌, ◌≤◌, ◌<◌, max}
use mathlib.Core.Path.{◌≡◌, refl, ◌∙◌, subst}
use mathlib.Core.Bool.{Bool, true, false}
use mathlib.Core.List.{List, [], ◌∷◌}
use native.Mathlib.Nat.{mul-le-mul_right, sub-zero}
use native.Mathlib.Omega.{arith}
use lib.Dec.{leb}
use borrow.Author.Tests.{leb-true}
use Rattle.lexer.specs.Tests.{and, pick, among}
use Rattle.lexer.proofs.Laws.Tests.{and_left, and_right}
use Rattle.tree.specs.TreeTable.{Row}
use Rattle.grammar.specs.Grammars.{Condition, Symbol, token, derived, condition, Production, Names, View, agrees, met}
use Rattle.grammar.specs.Rows.{levels}
use Rattle.grammar.specs.executable.Reading.{Outcome, spent, selected, choice, joined, read_within, breadth, whole, reading}
use Rattle.grammar.proofs.Laws.CheckLaws.{and_else, implies-false, every_has}
use Rattle.grammar.proofs.Laws.Choices.{chosen}
use Rattle.grammar.proofs.Laws.Outcomes.{Ends, Anywhere, up_to, out, ends_spent, ends_each, ends_both, ends_pick, ends_onward}
use Rattle.grammar.proofs.Laws.Outcomes.{ends_enter}
use Rattle.grammar.proofs.Laws.Checks.{Hints, implies, every, has_no_end, vanishes, needs, bounded, falls}

-- what holds of the token that is read up to, or where the fuel is spent
abbrev UpTo : (ℕ → Type 0) → Type 0 → Outcome → Type 0
UpTo P S = Ends (λ (j : ℕ) (rows : List Row) (said : ℕ). P j) Anywhere Anywhere S

-- how far symbols are read from token i on: up to j
pub record Advances (h : Hints) (v : View) (ss : List Symbol) (i j : ℕ) : Type 0 where
  pub forth : i ≤ j
  -- some token is taken, if the symbols do not vanish
  pub some : vanishes h ss ≡ false → i < j
  -- none is taken, if the class at i is 0
  pub stays : has_no_end ss ≡ true → ((e : Names) → v.class e i ≡ 0) → j ≡ i

-- what `falls` says of a production of a nonterminal
pub record Falls (h : Hints) (w x : ℕ) (p : Production) : Type 0 where
  pub no_end : has_no_end p.right ≡ true
  takes : h.nullable x ≡ false → vanishes h p.right ≡ false
  light : needs h p.right ≤ h.weight x
  bound : bounded h w p.right ≡ true

pub falls_of : (h : Hints) (w : ℕ) (p : Production) → falls h w p ≡ true → Falls h w p.left p
unfolding falls
falls_of h w p t =
    let a = has_no_end p.right in
    let b = implies (vanishes h p.right) (h.nullable p.left) in
    let c = leb (needs h p.right) (h.weight p.left) in
    let d = bounded h w p.right in
    let u = and_right a (and b (and c d)) t in
    let r = and_right b (and c d) u in
    record {
      no_end = and_left a (and b (and c d)) t;
      takes = implies-false (vanishes h p.right) (h.nullable p.left) (and_left b (and c d) u);
      light = leb-true (needs h p.right) (h.weight p.left) (and_left c d r);
      bound = and_right c d r;
    }

-- a token that is taken is not of class 0
pub not_end : (cs : List ℕ) (c : ℕ) → agrees false (among cs 0) ≡ true → among cs c ≡ true → c ≡ 0 → ⊥
unfolding agrees
not_end cs c a t z =
    let u : among cs 0 ≡ true = rw z at t in
    let m : ◌≡◌ {A = ℕ} 0 1 = cc in
    absurd (omega arith)

-- how far symbols are read, by the first of them
module _ (h : Hints) (v : View) where
  advances_none : (i : ℕ) → Advances h v [] i i
  unfolding vanishes
  advances_none i = record {
    forth = omega arith;
    some = λ (f : true ≡ false). let z : ◌≡◌ {A = ℕ} 0 1 = cc in absurd (omega arith);
    stays = λ n c. refl;
  }

  advances_token : (cs : List ℕ) (ss : List Symbol) (e : Names) (i j : ℕ) → among cs (v.class e i) ≡ true
      → Advances h v ss (suc i) j → Advances h v (token cs ∷ ss) i j
  unfolding has_no_end
  advances_token cs ss e i j t a =
      let forth = a.forth in
      record {
        forth = omega arith;
        some = λ f. omega arith;
        stays = λ n c. absurd (not_end cs (v.class e i) (and_left (agrees false (among cs 0)) (has_no_end ss) n) t (c e));
      }

  advances_condition : (b : Bool) (q : Condition) (ss : List Symbol) (i j : ℕ) → Advances h v ss i j
      → Advances h v (condition b q ∷ ss) i j
  unfolding has_no_end vanishes
  advances_condition b q ss i j a = record { forth = a.forth; some = a.some; stays = a.stays }

  advances_part : (x w : ℕ) (p : Production) (ss : List Symbol) (i j k : ℕ) → Falls h w x p
      → Advances h v p.right i j → Advances h v ss j k → Advances h v (derived x ∷ ss) i k
  unfolding has_no_end vanishes
  advances_part x w p ss i j k l a b =
      let first = a.forth in
      let then = b.forth in
      record {
        forth = omega arith;
        some = and_else (h.nullable x) (vanishes h ss)
            (λ (m : h.nullable x ≡ false). let more = a.some (l.takes m) in omega arith)
            (λ (m : vanishes h ss ≡ false). let more = b.some m in omega arith);
        stays = λ n c.
            let same = a.stays l.no_end c in
            b.stays n (λ (e : Names). rw same (c e)) ∙ same;
      }

module _ (g : List Production) (v : View) (h : Hints) (w : ℕ) (good : every (falls h w) g ≡ true) where
  chosen_falls : (e : Names) (x i : ℕ) (p : Production) → choice g v e x i ≡ selected p → Falls h w x p
  chosen_falls e x i p c =
      let (at, same) = chosen g v e x i p c in
      subst (λ (y : ℕ). Falls h w y p) same (falls_of h w p (every_has (falls h w) g p good at))

  advances_within : (f : ℕ) (e : Names) (n : ℕ) (ss : List Symbol) (i : ℕ) → UpTo (Advances h v ss i) Unit (read_within g v f e n ss i)
  unfolding read_within joined
  advances_within zero e n ss i = out tt
  advances_within (suc f) e n [] i = up_to (advances_none h v i)
  advances_within (suc f) e n (token cs ∷ ss) i =
      ends_pick (among cs (v.class e i)) (read_within g v f e n ss (suc i)) i tt (λ (t : among cs (v.class e i) ≡ true).
      ends_each (advances_within f e n ss (suc i)) (λ (j : ℕ) (rows : List Row) (said : ℕ). advances_token h v cs ss e i j t)
      (λ (q : ℕ) k. tt) (λ (q : ℕ) k. tt))
  advances_within (suc f) e n (condition b q ∷ ss) i =
      ends_pick (met v e i b q) (read_within g v f e n ss i) i tt (λ (t : met v e i b q ≡ true).
      ends_each (advances_within f e n ss i) (λ (j : ℕ) (rows : List Row) (said : ℕ). advances_condition h v b q ss i j)
      (λ (p : ℕ) k. tt) (λ (p : ℕ) k. tt))
  advances_within (suc f) e n (derived x ∷ ss) i =
      ends_enter (choice g v (v.inside x i e) x i) n i _ tt (λ p c l. tt) (λ (p : Production) (below : ℕ) (c : choice g v (v.inside x i e) x i ≡ selected p)
      (fit : n ≡ levels p.makes + below).
      ends_onward _ (advances_within f (v.inside x i e) below p.right i)
      (λ (j : ℕ) (inner : List Row) (said : ℕ) (a : Advances h v p.right i j).
      ends_onward (joined p.makes i j inner said) (advances_within f e n ss j)
      (λ (k : ℕ) (rest : List Row) (later : ℕ) (b : Advances h v ss j k).
      up_to (advances_part h v x w p ss i j k (chosen_falls (v.inside x i e) x i p c) a b))))

-- symbols need some fuel, and at most the bound
needs_some : (h : Hints) (ss : List Symbol) → 1 ≤ needs h ss
unfolding needs
needs_some h [] = omega arith
needs_some h (token cs ∷ ss) = omega arith
needs_some h (derived x ∷ ss) = omega arith
needs_some h (condition b q ∷ ss) = omega arith

bounded-needs : (h : Hints) (w : ℕ) (ss : List Symbol) → bounded h w ss ≡ true → needs h ss ≤ w
unfolding bounded needs
bounded-needs h w [] b = leb-true 1 w b
bounded-needs h w (s ∷ ss) b = leb-true (needs h (s ∷ ss)) w (and_left (leb (needs h (s ∷ ss)) w) (bounded h w ss) b)

bounded_rest : (h : Hints) (w : ℕ) (s : Symbol) (ss : List Symbol) → bounded h w (s ∷ ss) ≡ true → bounded h w ss ≡ true
unfolding bounded
bounded_rest h w s ss b = and_right (leb (needs h (s ∷ ss)) w) (bounded h w ss) b

-- the fuel for the tokens that are left: w for each
left_less : (count w i j : ℕ) → i ≤ j → (count - j) * w ≤ (count - i) * w
left_less count w i j m = mul-le-mul_right w (omega arith)

left_free : (count w i j : ℕ) → i < j → ¬ (count ≤ i) → (count - j) * w + w ≤ (count - i) * w
left_free count w i j m n =
    let less : suc (count - j) ≤ count - i = omega arith in
    omega (arith, mul-le-mul_right w less)

module _ (g : List Production) (v : View) (h : Hints) (w count : ℕ) (good : every (falls h w) g ≡ true)
    (past : (e : Names) (i : ℕ) → count ≤ i → v.class e i ≡ 0) where
  -- the fuel suffices for what comes after a part
  enough_after : (x : ℕ) (p : Production) (ss : List Symbol) (f i j : ℕ) (t : Bool) → h.nullable x ≡ t
      → Falls h w x p → Advances h v p.right i j → needs h ss ≤ w
      → (count - i) * w + suc (max (h.weight x) (pick t (needs h ss) 0)) ≤ suc f → (count - j) * w + needs h ss ≤ f
  enough_after x p ss f i j true m l a b u = let less = left_less count w i j a.forth in omega arith
  enough_after x p ss f i j false m l a b u =
      let moved = a.some (l.takes m) in
      let inside : ¬ (count ≤ i) = λ (z : count ≤ i). let same = a.stays l.no_end (λ (e : Names). past e i z) in omega arith in
      let less = left_free count w i j moved inside in
      omega arith

  -- the fuel is not spent, by induction on it
  unspent : (f : ℕ) (e : Names) (n : ℕ) (ss : List Symbol) (i : ℕ) → has_no_end ss ≡ true → bounded h w ss ≡ true
      → (count - i) * w + needs h ss ≤ f → UpTo (λ (j : ℕ). Unit {0}) ⊥ (read_within g v f e n ss i)
  unfolding read_within joined has_no_end needs
  unspent zero e n ss i a b u = let some = needs_some h ss in absurd (omega arith)
  unspent (suc f) e n [] i a b u = up_to tt
  unspent (suc f) e n (token cs ∷ ss) i a b u =
      ends_pick (among cs (v.class e i)) (read_within g v f e n ss (suc i)) i tt (λ (t : among cs (v.class e i) ≡ true).
      let inside : ¬ (count ≤ i) = λ (z : count ≤ i).
      not_end cs (v.class e i) (and_left (agrees false (among cs 0)) (has_no_end ss) a) t (past e i z) in
      let rest = bounded_rest h w (token cs) ss b in
      let enough = bounded-needs h w ss rest in
      let less = left_free count w i (suc i) (omega arith) inside in
      unspent f e n ss (suc i) (and_right (agrees false (among cs 0)) (has_no_end ss) a) rest (omega arith))
  unspent (suc f) e n (condition c q ∷ ss) i a b u =
      ends_pick (met v e i c q) (read_within g v f e n ss i) i tt (λ (t : met v e i c q ≡ true).
      unspent f e n ss i a (bounded_rest h w (condition c q) ss b) (omega arith))
  unspent (suc f) e n (derived x ∷ ss) i a b u =
      let rest = bounded_rest h w (derived x) ss b in
      ends_enter (choice g v (v.inside x i e) x i) n i _ tt (λ p c l. tt) (λ (p : Production) (below : ℕ) (c : choice g v (v.inside x i e) x i ≡ selected p)
      (fit : n ≡ levels p.makes + below).
      let l = chosen_falls g v h w good (v.inside x i e) x i p c in
      let light = l.light in
      ends_onward _ (ends_both (advances_within g v h w good f (v.inside x i e) below p.right i)
      (unspent f (v.inside x i e) below p.right i l.no_end l.bound (omega arith)))
      (λ (j : ℕ) (inner : List Row) (said : ℕ) (r : Advances h v p.right i j).
      ends_onward (joined p.makes i j inner said)
      (unspent f e n ss j a rest (enough_after x p ss f i j (h.nullable x) refl l r (bounded-needs h w ss rest) u))
      (λ (k : ℕ) (more : List Row) (later : ℕ) (z : Unit {0}). up_to tt)))

  -- the fuel suffices that is w for each token left and what the symbols need
  pub never_spent_within : (f : ℕ) (e : Names) (n : ℕ) (ss : List Symbol) (i : ℕ) → has_no_end ss ≡ true → bounded h w ss ≡ true
      → (count - i) * w + needs h ss ≤ f → read_within g v f e n ss i ≡ spent → ⊥
  never_spent_within f e n ss i a b u r = ends_spent (subst (UpTo (λ (j : ℕ). Unit {0}) ⊥) r (unspent f e n ss i a b u))

-- the fuel of a reading suffices
pub never_spent : (g : List Production) (v : View) (h : Hints) (count : ℕ)
    → ((e : Names) (i : ℕ) → count ≤ i → v.class e i ≡ 0)
    → (x : ℕ) → bounded h (suc (breadth g)) (whole x) ≡ true → every (falls h (suc (breadth g))) g ≡ true
    → (e : Names) (n : ℕ) → reading g v count e n x ≡ spent → ⊥
unfolding reading has_no_end
never_spent g v h count past x start good e n =
    let w = suc (breadth g) in
    let enough = bounded-needs h w (whole x) start in
    never_spent_within g v h w count good past (suc count * w) e n (whole x) 0 refl start (rw sub-zero (omega arith))
