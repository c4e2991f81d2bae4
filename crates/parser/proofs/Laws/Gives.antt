-- What the leftmost reading gives from some fuel on, symbol by symbol, and what it gives of two lists of symbols, one after the other.
-- Assumes nothing, and asks nothing of the table.
use Prim.Native.Nat.{ℕ, zero, suc, ◌+◌, ◌-◌, ◌≤◌}
use mathlib.Core.Path.{◌≡◌, refl, sym, ◌∙◌}
use mathlib.Core.Bool.{Bool, true, false}
use mathlib.Core.List.{List, [], ◌∷◌, ◌++◌, append_assoc, append-nil}
use native.Mathlib.Omega.{arith}
use native.Mathlib.Nat.{zero-add, suc-add}
use lib.ListN.{length}
use Rattle.lexer.specs.Tests.{pick, among}
use Rattle.tree.specs.TreeTable.{Row}
use Rattle.grammar.specs.Grammars.{Condition, Symbol, token, derived, condition, Makes, no_row, Production, Names, View, met}
use Rattle.grammar.specs.Rows.{made, passed, first_said, levels}
use Rattle.grammar.specs.executable.Reading.{Outcome, ok, stuck, deep, spent, Choice, none, selected, choice, onward, descend, enter}
use Rattle.grammar.specs.executable.Reading.{joined, read_within}
use Rattle.grammar.proofs.Laws.Grows.{Way, by_fuel, Grows, same, from_spent, grows_onward, grows_pick, grows_descend, grows_enter}
use Rattle.grammar.proofs.Laws.Grows.{more_fuel}
use Rattle.parser.specs.internal.Readings.{Gives}

-- an outcome after these rows and what is said with them
unfoldable pub after : List Row → ℕ → Outcome → Outcome
after rows said o = onward o (λ (j : ℕ) (others : List Row) (later : ℕ). ok j (rows ++ others) (first_said said later))

-- the outcome of a production from token i on, below whose row these rows are read already, given that of what is left of it
unfoldable pub wrapped : Makes → ℕ → List Row → Outcome → Outcome
wrapped m i rows o = onward o (λ (j : ℕ) (others : List Row) (said : ℕ). ok j (made m i j said (rows ++ others)) (passed m said))

-- an outcome, and then what is read from its end on
unfoldable pub followed : Outcome → (ℕ → Outcome) → Outcome
followed o rest = onward o (λ (j : ℕ) (rows : List Row) (said : ℕ). after rows said (rest j))

after_nothing : (o : Outcome) → after [] 0 o ≡ o
unfolding after onward first_said
after_nothing (ok j rows said) = refl
after_nothing (stuck i) = refl
after_nothing (deep i) = refl
after_nothing spent = refl

first_said_assoc : (a b c : ℕ) → first_said (first_said a b) c ≡ first_said a (first_said b c)
unfolding first_said
first_said_assoc zero b c = refl
first_said_assoc (suc a) b c = refl

first_said-zero : (a : ℕ) → first_said a 0 ≡ a
unfolding first_said
first_said-zero zero = refl
first_said-zero (suc a) = refl

after-after : (rows others : List Row) (said later : ℕ) (o : Outcome)
    → after (rows ++ others) (first_said said later) o ≡ after rows said (after others later o)
unfolding after onward
after-after rows others said later (ok j more last) = rw (append_assoc, first_said_assoc)
after-after rows others said later (stuck i) = refl
after-after rows others said later (deep i) = refl
after-after rows others said later spent = refl

followed-after : (rows : List Row) (said : ℕ) (o : Outcome) (rest : ℕ → Outcome)
    → followed (after rows said o) rest ≡ after rows said (followed o rest)
unfolding followed after onward
followed-after rows said (ok j others later) rest = after-after rows others said later (rest j)
followed-after rows said (stuck i) rest = refl
followed-after rows said (deep i) rest = refl
followed-after rows said spent rest = refl

followed_nothing : (i : ℕ) (rest : ℕ → Outcome) → followed (ok i [] 0) rest ≡ rest i
unfolding followed onward
followed_nothing i rest = after_nothing (rest i)

followed-pick : (t : Bool) (o : Outcome) (i : ℕ) (rest : ℕ → Outcome)
    → followed (pick t o (stuck i)) rest ≡ pick t (followed o rest) (stuck i)
unfolding followed onward
followed-pick true o i rest = refl
followed-pick false o i rest = refl

followed-onward : (o : Outcome) (first second : ℕ → List Row → ℕ → Outcome) (rest : ℕ → Outcome)
    → ((j : ℕ) (rows : List Row) (said : ℕ) → followed (first j rows said) rest ≡ second j rows said)
    → followed (onward o first) rest ≡ onward o second
unfolding followed onward
followed-onward (ok j rows said) first second rest f = f j rows said
followed-onward (stuck i) first second rest f = refl
followed-onward (deep i) first second rest f = refl
followed-onward spent first second rest f = refl

followed-descend : (l left i : ℕ) (below more : ℕ → Outcome) (rest : ℕ → Outcome) → ((n : ℕ) → followed (below n) rest ≡ more n)
    → followed (descend l left i below) rest ≡ descend l left i more
unfolding followed descend onward
followed-descend zero left i below more rest f = f left
followed-descend (suc l) zero i below more rest f = refl
followed-descend (suc l) (suc left) i below more rest f = followed-descend l left i below more rest f

followed-enter : (c : Choice) (left i : ℕ) (within more : Production → ℕ → Outcome) (rest : ℕ → Outcome)
    → ((p : Production) (below : ℕ) → followed (within p below) rest ≡ more p below)
    → followed (enter c left i within) rest ≡ enter c left i more
unfolding followed enter onward
followed-enter none left i within more rest f = refl
followed-enter (selected p) left i within more rest f = followed-descend (levels p.makes) left i (within p) (more p) rest (f p)

grows_after : {w : Way} {o p : Outcome} (rows : List Row) (said : ℕ) → Grows w o p → Grows w (after rows said o) (after rows said p)
unfolding after
grows_after rows said h = grows_onward _ _ h (λ (j : ℕ) (others : List Row) (later : ℕ). same)

-- between two readings that give an outcome lies only that outcome
between : {o x y z : Outcome} → Grows by_fuel x y → Grows by_fuel y z → x ≡ o → z ≡ o → y ≡ o
between same k a b = a
between from_spent same a b = b
between from_spent from_spent a b = a

from_nothing : {o : Outcome} (rest : ℕ → Outcome) → Grows by_fuel (followed spent rest) o
unfolding followed onward
from_nothing rest = from_spent

-- enough levels are left
descend-below : (l below i : ℕ) (within : ℕ → Outcome) → descend l (l + below) i within ≡ within below
unfolding descend
descend-below zero below i within = rw zero-add
descend-below (suc l) below i within = rw suc-add (descend-below l below i within)

-- a production that makes no row takes no level ..
no_level : (m : Makes) (n : ℕ) → m ≡ no_row → n ≡ levels m + n
unfolding levels
no_level m n is = rw is (omega arith)

-- .. and adds nothing to what it reads
inlines : (m : Makes) (i : ℕ) (o : Outcome) (rest : ℕ → Outcome) → m ≡ no_row
    → onward o (λ (j : ℕ) (inner : List Row) (said : ℕ). after (made m i j said inner) (passed m said) (rest j)) ≡ followed o rest
unfolding followed made passed
inlines m i o rest is = rw is

module _ (g : List Production) (v : View) (e : Names) where
  -- what a nonterminal reads, and then its rest
  entered : (x i n f : ℕ) (rest : ℕ → Outcome) → Outcome
  entered x i n f rest =
      enter (choice g v (v.inside x i e) x i) n i (λ (p : Production) (below : ℕ).
      onward (read_within g v f (v.inside x i e) below p.right i) (λ (j : ℕ) (inner : List Row) (said : ℕ).
      after (made p.makes i j said inner) (passed p.makes said) (rest j)))

  reads_part : (f n x i : ℕ) (ss : List Symbol) → read_within g v (suc f) e n (derived x ∷ ss) i ≡ entered x i n f (read_within g v f e n ss)
  unfolding read_within joined after entered
  reads_part f n x i ss = refl

  followed_part : (x i n f : ℕ) (first rest : ℕ → Outcome)
      → followed (entered x i n f first) rest ≡ entered x i n f (λ (j : ℕ). followed (first j) rest)
  unfolding entered
  followed_part x i n f first rest =
      followed-enter (choice g v (v.inside x i e) x i) n i _ _ rest (λ (p : Production) (below : ℕ).
      followed-onward (read_within g v f (v.inside x i e) below p.right i) _ _ rest (λ (j : ℕ) (inner : List Row) (said : ℕ).
      followed-after (made p.makes i j said inner) (passed p.makes said) (first j) rest))

  grows_part : (x i n f h : ℕ) (first second : ℕ → Outcome) → f ≤ h → ((j : ℕ) → Grows by_fuel (first j) (second j))
      → Grows by_fuel (entered x i n f first) (entered x i n h second)
  unfolding entered
  grows_part x i n f h first second le grows =
      grows_enter (choice g v (v.inside x i e) x i) n n i _ _ (λ (p : Production).
      grows_descend (levels p.makes) n i _ _ (λ (below : ℕ).
      grows_onward _ _ (more_fuel g v f h le (v.inside x i e) below p.right i) (λ (j : ℕ) (inner : List Row) (said : ℕ).
      grows_after (made p.makes i j said inner) (passed p.makes said) (grows j))))

  -- two lists of symbols one after the other read no more than both in turn, ..
  append_apart : (f h : ℕ) → f ≤ h → (n : ℕ) (a b : List Symbol) (i : ℕ)
      → Grows by_fuel (read_within g v f e n (a ++ b) i) (followed (read_within g v f e n a i) (read_within g v h e n b))
  unfolding read_within
  append_apart zero h le n a b i = from_spent
  append_apart (suc f) h le n [] b i =
      rw (followed_nothing i (read_within g v h e n b)) (more_fuel g v (suc f) h le e n b i)
  append_apart (suc f) h le n (token cs ∷ a) b i =
      rw followed-pick (grows_pick (among cs (v.class e i)) _ _ i (append_apart f h (omega arith) n a b (suc i)))
  append_apart (suc f) h le n (condition t q ∷ a) b i =
      rw followed-pick (grows_pick (met v e i t q) _ _ i (append_apart f h (omega arith) n a b i))
  append_apart (suc f) h le n (derived x ∷ a) b i =
      rw (reads_part f n x i (a ++ b), reads_part f n x i a, followed_part)
      (grows_part x i n f f _ _ (omega arith) (λ (j : ℕ). append_apart f h (omega arith) n a b j))

  -- .. and no less, with the fuel of both
  append_joined : (f h more : ℕ) (n : ℕ) (a b : List Symbol) (i : ℕ) → f ≤ more → h + length a ≤ more
      → Grows by_fuel (followed (read_within g v f e n a i) (read_within g v h e n b)) (read_within g v more e n (a ++ b) i)
  unfolding read_within
  append_joined zero h more n a b i le fits = from_nothing (read_within g v h e n b)
  append_joined (suc f) h zero n a b i le fits = absurd (omega arith)
  append_joined (suc f) h (suc more) n [] b i le fits =
      rw (followed_nothing i (read_within g v h e n b)) (more_fuel g v h (suc more) (omega arith) e n b i)
  append_joined (suc f) h (suc more) n (token cs ∷ a) b i le fits =
      rw followed-pick (grows_pick (among cs (v.class e i)) _ _ i (append_joined f h more n a b (suc i) (omega arith) (omega arith)))
  append_joined (suc f) h (suc more) n (condition t q ∷ a) b i le fits =
      rw followed-pick (grows_pick (met v e i t q) _ _ i (append_joined f h more n a b i (omega arith) (omega arith)))
  append_joined (suc f) h (suc more) n (derived x ∷ a) b i le fits =
      rw (reads_part f n x i a, reads_part more n x i (a ++ b), followed_part)
      (grows_part x i n f more _ _ (omega arith) (λ (j : ℕ). append_joined f h more n a b j (omega arith) (omega arith)))

  -- what is given holds for every fuel that suffices ..
  gives_from : {n i : ℕ} {ss : List Symbol} {o : Outcome} (d : Gives g v e n ss i o) (f : ℕ) → d.fuel ≤ f
      → read_within g v f e n ss i ≡ o
  gives_from d f le =
      let at : f - d.fuel + d.fuel ≡ f = omega arith in
      rw at at (d.reads (f - d.fuel))

  -- .. and what holds for each of those is given
  gives_at : {n i : ℕ} {ss : List Symbol} {o : Outcome} (fuel : ℕ)
      → ((f : ℕ) → fuel ≤ f → read_within g v f e n ss i ≡ o) → Gives g v e n ss i o
  gives_at fuel f = record { fuel = fuel; reads = λ (more : ℕ). f (more + fuel) (omega arith) }

  gives_suc : {n i : ℕ} {ss : List Symbol} {o : Outcome} (fuel : ℕ)
      → ((f : ℕ) → fuel ≤ f → read_within g v (suc f) e n ss i ≡ o) → Gives g v e n ss i o
  gives_suc {n} {i} {ss} {o} fuel f = gives_at (suc fuel) by_fuel_lem where
    by_fuel_lem : (h : ℕ) → suc fuel ≤ h → read_within g v h e n ss i ≡ o
    by_fuel_lem zero le = absurd (omega arith)
    by_fuel_lem (suc h) le = f h (omega arith)

  -- only one outcome is given
  gives_once : {n i : ℕ} {ss : List Symbol} {o p : Outcome} → Gives g v e n ss i o → Gives g v e n ss i p → o ≡ p
  gives_once c d = sym (gives_from c (c.fuel + d.fuel) (omega arith)) ∙ gives_from d (c.fuel + d.fuel) (omega arith)

  -- two lists of symbols one after the other give what both give in turn
  gives_joined : {n i : ℕ} {o : Outcome} (a b : List Symbol) (fuel : ℕ)
      → ((f : ℕ) → fuel ≤ f → followed (read_within g v f e n a i) (read_within g v f e n b) ≡ o) → Gives g v e n (a ++ b) i o
  gives_joined {n} {i} a b fuel f =
      gives_at (fuel + length a) (λ (h : ℕ) (le : fuel + length a ≤ h).
      between (append_joined (h - length a) (h - length a) h n a b i (omega arith) (omega arith)) (append_apart h h (omega arith) n a b i)
      (f (h - length a) (omega arith)) (f h (omega arith)))

  gives_apart : {n i : ℕ} {o : Outcome} (a b : List Symbol) (d : Gives g v e n (a ++ b) i o) (f : ℕ) → d.fuel ≤ f
      → followed (read_within g v f e n a i) (read_within g v f e n b) ≡ o
  gives_apart {n} {i} a b d f le =
      between (append_apart f f (omega arith) n a b i) (append_joined f f (f + length a) n a b i (omega arith) (omega arith))
      (gives_from d f le) (gives_from d (f + length a) (omega arith))

  -- nothing is left to read
  pub gives_end : (n i : ℕ) → Gives g v e n [] i (ok i [] 0)
  unfolding read_within
  gives_end n i = gives_suc 0 (λ (f : ℕ) (le : 0 ≤ f). refl)

  -- a token, and one that cannot be taken
  pub gives_token : {n i : ℕ} {cs : List ℕ} {ss : List Symbol} {o : Outcome} → among cs (v.class e i) ≡ true
      → Gives g v e n ss (suc i) o → Gives g v e n (token cs ∷ ss) i o
  unfolding read_within
  gives_token t d = gives_suc d.fuel (λ (f : ℕ) (le : d.fuel ≤ f). rw t (gives_from d f le))

  pub gives_token-stuck : (n i : ℕ) (cs : List ℕ) (ss : List Symbol) → among cs (v.class e i) ≡ false
      → Gives g v e n (token cs ∷ ss) i (stuck i)
  unfolding read_within
  gives_token-stuck n i cs ss t = gives_suc 0 (λ (f : ℕ) (le : 0 ≤ f). rw t)

  -- a condition that is met, and one that is not
  pub gives_held : {n i : ℕ} {b : Bool} {q : Condition} {ss : List Symbol} {o : Outcome} → met v e i b q ≡ true
      → Gives g v e n ss i o → Gives g v e n (condition b q ∷ ss) i o
  unfolding read_within
  gives_held t d = gives_suc d.fuel (λ (f : ℕ) (le : d.fuel ≤ f). rw t (gives_from d f le))

  pub gives_unheld : (n i : ℕ) (b : Bool) (q : Condition) (ss : List Symbol) → met v e i b q ≡ false
      → Gives g v e n (condition b q ∷ ss) i (stuck i)
  unfolding read_within
  gives_unheld n i b q ss t = gives_suc 0 (λ (f : ℕ) (le : 0 ≤ f). rw t)

  -- after a part that is read, what is left
  pub gives_then : {n i j said x : ℕ} {rows : List Row} {ss : List Symbol} {o : Outcome} → Gives g v e n (derived x ∷ []) i (ok j rows said)
      → Gives g v e n ss j o → Gives g v e n (derived x ∷ ss) i (after rows said o)
  unfolding followed onward
  gives_then {x = x} {ss = ss} c d =
      gives_joined (derived x ∷ []) ss (c.fuel + d.fuel) (λ (f : ℕ) (le : c.fuel + d.fuel ≤ f).
      rw (gives_from c f (omega arith), gives_from d f (omega arith)))

  pub gives_then_stuck : {n i place x : ℕ} (ss : List Symbol) → Gives g v e n (derived x ∷ []) i (stuck place)
      → Gives g v e n (derived x ∷ ss) i (stuck place)
  unfolding followed onward
  gives_then_stuck {x = x} ss c =
      gives_joined (derived x ∷ []) ss c.fuel (λ (f : ℕ) (le : c.fuel ≤ f). rw (gives_from c f le))

  pub gives_then_deep : {n i place x : ℕ} (ss : List Symbol) → Gives g v e n (derived x ∷ []) i (deep place)
      → Gives g v e n (derived x ∷ ss) i (deep place)
  unfolding followed onward
  gives_then_deep {x = x} ss c =
      gives_joined (derived x ∷ []) ss c.fuel (λ (f : ℕ) (le : c.fuel ≤ f). rw (gives_from c f le))

  -- what nothing more is read after
  wraps : (m : Makes) (n i f : ℕ) → 1 ≤ f → (o : Outcome)
      → onward o (λ (j : ℕ) (inner : List Row) (said : ℕ). after (made m i j said inner) (passed m said) (read_within g v f e n [] j))
      ≡ wrapped m i [] o
  unfolding wrapped read_within after onward
  wraps m n i zero le o = absurd (omega arith)
  wraps m n i (suc f) le (ok j rows said) = rw (append-nil, first_said-zero)
  wraps m n i (suc f) le (stuck j) = refl
  wraps m n i (suc f) le (deep j) = refl
  wraps m n i (suc f) le spent = refl

-- where no nonterminal changes the names in force
module _ (g : List Production) (v : View) (e : Names) (fixed : (x i : ℕ) → v.inside x i e ≡ e) where
  entered-none : (x i n f : ℕ) (rest : ℕ → Outcome) → choice g v e x i ≡ none → entered g v e x i n f rest ≡ stuck i
  unfolding entered enter
  entered-none x i n f rest c = rw (fixed x i, c)

  entered-deep : (x i f : ℕ) (p : Production) (rest : ℕ → Outcome) → choice g v e x i ≡ selected p → levels p.makes ≡ 1
      → entered g v e x i 0 f rest ≡ deep i
  unfolding entered enter descend
  entered-deep x i f p rest c l = rw (fixed x i, c, l)

  entered_one : (x i n below f : ℕ) (p : Production) (rest : ℕ → Outcome) → choice g v e x i ≡ selected p → n ≡ levels p.makes + below
      → entered g v e x i n f rest
      ≡ onward (read_within g v f e below p.right i) (λ (j : ℕ) (inner : List Row) (said : ℕ).
      after (made p.makes i j said inner) (passed p.makes said) (rest j))
  unfolding entered enter
  entered_one x i n below f p rest c at = rw (fixed x i, c, at) (descend-below (levels p.makes) below i _)

  -- no production can be taken
  pub gives_none : (n x i : ℕ) (ss : List Symbol) → choice g v e x i ≡ none → Gives g v e n (derived x ∷ ss) i (stuck i)
  gives_none n x i ss c =
      gives_suc g v e 0 (λ (f : ℕ) (le : 0 ≤ f). reads_part g v e f n x i ss ∙ entered-none x i n f (read_within g v f e n ss) c)

  -- a row is called for and no level is left
  pub gives_deep : (x i : ℕ) (p : Production) (ss : List Symbol) → choice g v e x i ≡ selected p → levels p.makes ≡ 1
      → Gives g v e 0 (derived x ∷ ss) i (deep i)
  gives_deep x i p ss c l =
      gives_suc g v e 0 (λ (f : ℕ) (le : 0 ≤ f). reads_part g v e f 0 x i ss ∙ entered-deep x i f p (read_within g v f e 0 ss) c l)

  -- a nonterminal alone is what its production gives, with its row
  pub gives_within : {n below x i : ℕ} {o : Outcome} (p : Production) → choice g v e x i ≡ selected p → n ≡ levels p.makes + below
      → Gives g v e below p.right i o → Gives g v e n (derived x ∷ []) i (wrapped p.makes i [] o)
  gives_within {n} {below} {x} {i} {o} p c at d =
      gives_suc g v e (suc d.fuel) (λ (f : ℕ) (le : suc d.fuel ≤ f).
      reads_part g v e f n x i [] ∙ entered_one x i n below f p (read_within g v f e n []) c at
      ∙ rw (gives_from g v e d f (omega arith)) (wraps g v e p.makes n i f (omega arith) o))

  -- a nonterminal whose production makes no row is what that gives, with what is left
  pub gives_inlined : {n y i : ℕ} {ss : List Symbol} {o : Outcome} (q : Production) → choice g v e y i ≡ selected q → q.makes ≡ no_row
      → Gives g v e n (q.right ++ ss) i o → Gives g v e n (derived y ∷ ss) i o
  unfolding followed
  gives_inlined {n} {y} {i} {ss} {o} q c m d =
      gives_suc g v e d.fuel (λ (f : ℕ) (le : d.fuel ≤ f).
      reads_part g v e f n y i ss ∙ entered_one y i n n f q (read_within g v f e n ss) c (no_level q.makes n m)
      ∙ inlines q.makes i (read_within g v f e n q.right i) (read_within g v f e n ss) m ∙ gives_apart g v e q.right ss d f le)

-- the symbols cannot go on at this token
pub data Barred (g : List Production) (v : View) (e : Names) : List Symbol → ℕ → Type 0 where
  barred_token : {cs : List ℕ} {ss : List Symbol} {i : ℕ} → among cs (v.class e i) ≡ false → Barred g v e (token cs ∷ ss) i
  barred_part : {x i : ℕ} {ss : List Symbol} → choice g v e x i ≡ none → Barred g v e (derived x ∷ ss) i
  barred_condition : {b : Bool} {q : Condition} {ss : List Symbol} {i : ℕ} → Barred g v e ss i → Barred g v e (condition b q ∷ ss) i
  barred_skip : {x i : ℕ} {ss : List Symbol} (p : Production) → choice g v e x i ≡ selected p → p.makes ≡ no_row → p.right ≡ []
      → Barred g v e ss i → Barred g v e (derived x ∷ ss) i

-- the reading takes q at this token, or takes nothing where q could not go on either
pub data Takes (g : List Production) (v : View) (e : Names) (y : ℕ) (q : Production) (i : ℕ) : Type 0 where
  takes : choice g v e y i ≡ selected q → Takes g v e y q i
  vain : choice g v e y i ≡ none → Barred g v e q.right i → Takes g v e y q i

module _ (g : List Production) (v : View) (e : Names) (fixed : (x i : ℕ) → v.inside x i e ≡ e) where
  gives_whether : (n i : ℕ) (b : Bool) (q : Condition) (ss : List Symbol) → Gives g v e n ss i (stuck i) → (t : Bool) → met v e i b q ≡ t
      → Gives g v e n (condition b q ∷ ss) i (stuck i)
  gives_whether n i b q ss d true t = gives_held g v e t d
  gives_whether n i b q ss d false t = gives_unheld g v e n i b q ss t

  barred_gives : {ss : List Symbol} {i : ℕ} (n : ℕ) (us : List Symbol) → Barred g v e ss i → Gives g v e n (ss ++ us) i (stuck i)
  barred_gives n us (barred_token {cs = cs} {ss = ss} {i = i} t) = gives_token-stuck g v e n i cs (ss ++ us) t
  barred_gives n us (barred_part {x = x} {i = i} {ss = ss} c) = gives_none g v e fixed n x i (ss ++ us) c
  barred_gives n us (barred_condition {b = b} {q = q} {ss = ss} {i = i} d) =
      gives_whether n i b q (ss ++ us) (barred_gives n us d) (met v e i b q) refl
  barred_gives n us (barred_skip {ss = ss} p c m r d) = gives_inlined g v e fixed p c m (rw r (barred_gives n us d))

  -- what cannot go on is stuck, whatever comes after it
  pub barred_stuck : {n i : ℕ} {ss : List Symbol} {o : Outcome} (us : List Symbol) → Barred g v e ss i → Gives g v e n (ss ++ us) i o
      → o ≡ stuck i
  barred_stuck {n} us d given = gives_once g v e given (barred_gives n us d)

  -- whether taken or in vain, the nonterminal gives what the production gives, with what is left
  pub takes_inlined : {n y i : ℕ} {ss : List Symbol} {o : Outcome} {q : Production} → Takes g v e y q i → q.makes ≡ no_row
      → Gives g v e n (q.right ++ ss) i o → Gives g v e n (derived y ∷ ss) i o
  takes_inlined {q = q} (takes c) m d = gives_inlined g v e fixed q c m d
  takes_inlined {n} {y} {i} {ss} (vain c b) m d = rw (barred_stuck ss b d) (gives_none g v e fixed n y i ss c)
