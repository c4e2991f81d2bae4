-- A reading that is under way: so much is read below a row, and these symbols are left; whatever they read from here on, the whole
-- reads. A reader's proof is a chain of these laws. They know nothing of the code, and of the grammar only what they ask for.
-- Assumes nothing.
use Prim.Native.Nat.{ℕ, suc, ◌+◌, ◌-◌, ◌*◌, ◌<◌, ◌≤◌}
use mathlib.Core.Path.{◌≡◌, refl, sym, ◌∙◌}
use mathlib.Core.Bool.{Bool, true, false}
use mathlib.Core.List.{List, [], ◌∷◌, ◌++◌, append_assoc, append-nil}
use native.Mathlib.Numerals.{add-one}
use native.Mathlib.Omega.{arith}
use native.Mathlib.Nat.{zero-add}
use lib.ListN.{length, length-append}
use Rattle.lexer.specs.Tests.{pick, among}
use Rattle.lexer.specs.Table.{source_limit, token_room}
use Rattle.tree.specs.TreeTable.{Row}
use Rattle.tree.specs.internal.Trees.{put, put_row}
use Rattle.tree.proofs.Laws.Trees.{put_append, length-put, put_parent}
use Rattle.grammar.specs.Grammars.{Condition, Symbol, token, derived, condition, Makes, gives_row, row_of, gives_kind, no_row, Production}
use Rattle.grammar.specs.Grammars.{Names, View, met}
use Rattle.grammar.specs.Rows.{above, made, passed, first_said, levels}
use Rattle.grammar.specs.executable.Reading.{Outcome, ok, stuck, deep, spent, none, selected, choice, onward}
use Rattle.grammar.specs.internal.Productions.{rule_of}
use Rattle.parser.specs.internal.Readings.{Gives, Reads, read, refused6, refused7}
use Rattle.parser.specs.internal.Steps.{Within, inside, elsewhere, Spans, spans, from_refused, to_refused, Small, small, over}
use Rattle.parser.specs.internal.Steps.{refused_at, taken_by, opened, row_left, closed}
use Rattle.parser.specs.internal.Steps.{Step}
use Rattle.parser.specs.internal.Steps.{Read, Refused}
use Rattle.parser.specs.internal.Readings as readings
use Rattle.parser.proofs.Laws.Gives.{after, wrapped, Takes, takes, vain, gives_end, gives_token, gives_token-stuck, gives_held}
use Rattle.parser.proofs.Laws.Gives.{gives_none, gives_within, gives_then, gives_then_stuck, gives_then_deep, takes_inlined}
use Rattle.parser.proofs.Laws.Gives.{gives_unheld, barred_stuck}

-- `After g v count e n below m least more ts ss s table s' table'`: of the symbols ts, read with n levels from the step s and the table
-- on, a production that makes m is begun and its symbols ss are left, with so many levels below it; s' and table' are what is reached
pub data After (g : List Production) (v : View) (count : ℕ) (e : Names) (n below : ℕ) (m : Makes) (least more : ℕ) (ts ss : List Symbol)
    : Step → List ℕ → Step → List ℕ → Type 0 where
  going : {i r j k : ℕ} {table current : List ℕ} (rows : List Row)
      → ((o : Outcome) → Gives g v e below ss j o → Gives g v e n ts i (wrapped m i rows o))
      → k ≡ levels m + r + length rows → current ≡ put (levels m + r) rows table
      → i + least ≤ j → j ≤ count → k ≤ 2 * j + more
      → After g v count e n below m least more ts ss (Read i r) table (Read j k) current
  stopped6 : {i r place : ℕ} {table current : List ℕ} → Gives g v e n ts i (stuck place) → length current ≡ length table
      → After g v count e n below m least more ts ss (Read i r) table (Refused 6 place) current
  stopped7 : {i r place : ℕ} {table current : List ℕ} → Gives g v e n ts i (deep place) → length current ≡ length table
      → After g v count e n below m least more ts ss (Read i r) table (Refused 7 place) current
  passed_on : {number place : ℕ} {table current : List ℕ} → length current ≡ length table
      → After g v count e n below m least more ts ss (Refused number place) table (Refused number place) current

-- no row and nothing before
wrapped_nothing : (i : ℕ) (o : Outcome) → wrapped no_row i [] o ≡ o
unfolding wrapped onward made passed
wrapped_nothing i (ok j rows said) = refl
wrapped_nothing i (stuck j) = refl
wrapped_nothing i (deep j) = refl
wrapped_nothing i spent = refl

-- more rows before
wrapped-after : (m : Makes) (i : ℕ) (rows others : List Row) (o : Outcome)
    → wrapped m i rows (after others 0 o) ≡ wrapped m i (rows ++ others) o
unfolding wrapped after onward first_said
wrapped-after m i rows others (ok j more said) = rw append_assoc
wrapped-after m i rows others (stuck j) = refl
wrapped-after m i rows others (deep j) = refl
wrapped-after m i rows others spent = refl

-- a kind that a part says
wrapped_says : (i j kind : ℕ) (rows : List Row) (o : Outcome)
    → wrapped row_of i rows (wrapped (gives_kind kind) j [] o) ≡ wrapped (gives_row kind) i rows o
unfolding wrapped onward made passed
wrapped_says i j kind rows (ok k others said) = refl
wrapped_says i j kind rows (stuck k) = refl
wrapped_says i j kind rows (deep k) = refl
wrapped_says i j kind rows spent = refl

says_level : (m : Makes) (kind n : ℕ) → m ≡ gives_kind kind → n ≡ levels m + n
unfolding levels
says_level m kind n is = rw is (omega arith)

-- what is put into a table keeps its length
put-length : (r : ℕ) (rows : List Row) (table current : List ℕ) → current ≡ put r rows table → length current ≡ length table
put-length r rows table current is = rw is (length-put r rows table)

-- more rows are put after some
put-more : (r k : ℕ) (rows others : List Row) (t t' t'' : List ℕ) → k ≡ r + length rows → t' ≡ put r rows t → t'' ≡ put k others t'
    → t'' ≡ put r (rows ++ others) t
put-more r k rows others t t' t'' at is is' = is' ∙ rw (at, is) (sym (put_append r rows others t))

-- a row is put above some
put-above : (kind i j r k : ℕ) (rows : List Row) (t t' : List ℕ) → k ≡ 1 + r + length rows → t' ≡ put (1 + r) rows t
    → put_row r (record { kind = kind; first = i; cover = j - i; count = k - r }) t' ≡ put r (above kind i j rows) t
put-above kind i j r k rows t t' at is =
    let size : k - r ≡ suc (length rows) = omega arith in
    let parent : 1 + r ≡ suc r = omega arith in
    rw (size, is, parent) (sym (put_parent r _ rows t))

put_zero : (r : ℕ) (rows : List Row) (t t' : List ℕ) → t' ≡ put (0 + r) rows t → t' ≡ put r rows t
put_zero r rows t t' is = is ∙ rw zero-add

module _ (g : List Production) (v : View) (tokens : List ℕ) (e : Names) (fixed : (x i : ℕ) → v.inside x i e ≡ e) where
  -- nothing is read yet
  pub start : {n more : ℕ} {ts : List Symbol} {s : Step} {t : List ℕ} → Within tokens more s
      → After g v (token_room tokens) e n n no_row 0 more ts ts s t s t
  unfolding levels put
  start {n} {more} {ts} (inside {at = i} {row = r} a b) =
      going {i = i} {r = r} {j = i} {k = r} [] (λ (o : Outcome) (d : Gives g v e n ts i o). rw wrapped_nothing d)
      (omega arith) refl (omega arith) a b
  start elsewhere = passed_on refl

  -- a production that makes a row is begun, and the token taken that it begins with
  pub begun : {n below x : ℕ} {m : Makes} {cs : List ℕ} {ss : List Symbol} {s : Step} {t : List ℕ}
      → Within tokens 1 s → n ≡ suc below → levels m ≡ 1
      → ((i r : ℕ) → s ≡ Read i r → choice g v e x i ≡ selected (record { left = x; makes = m; right = token cs ∷ ss }))
      → ((i r : ℕ) → s ≡ Read i r → among cs (v.class e i) ≡ true)
      → ((i r : ℕ) → s ≡ Read i r → i < token_room tokens)
      → After g v (token_room tokens) e n below m 1 0 (derived x ∷ []) ss s t (opened s) t
  unfolding opened put
  begun {n} {below} {x} {m} {cs} {ss} (inside {at = i} {row = r} a b) at level chosen first room =
      let few = room i r refl in
      going {i = i} {r = r} {j = i + 1} {k = r + 1} [] (λ (o : Outcome) (d : Gives g v e below ss (i + 1) o).
      gives_within g v e fixed (record { left = x; makes = m; right = token cs ∷ ss }) (chosen i r refl) (omega arith)
      (gives_token g v e (first i r refl) (rw add-one at d))) (omega arith) refl (omega arith) (omega arith) (omega arith)
  begun elsewhere at level chosen first room = passed_on refl

  -- a production that makes a row is begun, and no token taken
  pub begun_part : {n below x : ℕ} {m : Makes} {ss : List Symbol} {s : Step} {t : List ℕ}
      → Within tokens 0 s → n ≡ suc below → levels m ≡ 1
      → ((i r : ℕ) → s ≡ Read i r → choice g v e x i ≡ selected (record { left = x; makes = m; right = ss }))
      → After g v (token_room tokens) e n below m 0 1 (derived x ∷ []) ss s t (row_left s) t
  unfolding row_left put
  begun_part {n} {below} {x} {m} {ss} (inside {at = i} {row = r} a b) at level chosen =
      going {i = i} {r = r} {j = i} {k = r + 1} [] (λ (o : Outcome) (d : Gives g v e below ss i o).
      gives_within g v e fixed (record { left = x; makes = m; right = ss }) (chosen i r refl) (omega arith) d)
      (omega arith) refl (omega arith) a (omega arith)
  begun_part elsewhere at level chosen = passed_on refl

  took_by : {n below more i r j k : ℕ} (least : ℕ) {m : Makes} {cs : List ℕ} {ts ss : List Symbol} {t t' : List ℕ} (rows : List Row)
      → ((o : Outcome) → Gives g v e below (token cs ∷ ss) j o → Gives g v e n ts i (wrapped m i rows o))
      → k ≡ levels m + r + length rows → t' ≡ put (levels m + r) rows t → i + least ≤ j → k ≤ 2 * j + more
      → (b : Bool) → among cs (v.class e j) ≡ b → (b ≡ true → j < token_room tokens)
      → After g v (token_room tokens) e n below m (least + 1) more ts ss (Read i r) t (pick b (Read (j + 1) k) (Refused 6 j)) t'
  unfolding wrapped onward
  took_by {n} {below} {i = i} {r = r} {j = j} {k = k} least {ss = ss} rows f at is from to true class room =
      let few = room refl in
      going {i = i} {r = r} {j = j + 1} {k = k} rows (λ (o : Outcome) (d : Gives g v e below ss (j + 1) o).
      f o (gives_token g v e class (rw add-one at d))) at is (omega arith) (omega arith) (omega arith)
  took_by {below = below} {r = r} {j = j} least {m = m} {cs = cs} {ss = ss} {t = t} {t' = t'} rows f at is from to false class room =
      stopped6 (f (stuck j) (gives_token-stuck g v e below j cs ss class)) (put-length (levels m + r) rows t t' is)

  -- a token that passes a test
  pub took : {n below least more : ℕ} (test : ℕ → Bool) {m : Makes} {cs : List ℕ} {ts ss : List Symbol} {s s' : Step} {t t' : List ℕ}
      → After g v (token_room tokens) e n below m least more ts (token cs ∷ ss) s t s' t'
      → ((j : ℕ) → among cs (v.class e j) ≡ test j) → ((j : ℕ) → test j ≡ true → j < token_room tokens)
      → After g v (token_room tokens) e n below m (least + 1) more ts ss s t (taken_by test s') t'
  unfolding taken_by
  took {least = least} test (going {j = j} rows f at is from few to) class room =
      took_by least rows f at is from to (test j) (class j) (room j)
  took test (stopped6 d l) class room = stopped6 d l
  took test (stopped7 d l) class room = stopped7 d l
  took test (passed_on l) class room = passed_on l

  -- a part that a reader read
  pub went : {n below least more least' more' y : ℕ} {m : Makes} {ts ss : List Symbol} {s s' s'' : Step} {t t' t'' : List ℕ}
      → After g v (token_room tokens) e n below m least more ts (derived y ∷ ss) s t s' t'
      → Reads g v (token_room tokens) e below least' more' (derived y ∷ []) s' t' s'' t''
      → After g v (token_room tokens) e n below m (least + least') more' ts ss s t s'' t''
  unfolding wrapped onward
  went {n} {below} {m = m} {ts = ts} {ss = ss} (going {i = i} {r = r} {j = j} {k = k} {table = t} {current = t'} rows f at is from few to)
      (read {j = j'} {k = k'} {rows = others} {after = t''} c at' is' from' few' to') =
      let whole : length (rows ++ others) ≡ length rows + length others = length-append rows others in
      going {i = i} {r = r} {j = j'} {k = k'} (rows ++ others) (λ (o : Outcome) (d : Gives g v e below ss j' o).
      rw (← wrapped-after m i rows others o) (f (after others 0 o) (gives_then g v e c d)))
      (omega arith) (put-more (levels m + r) k rows others t t' t'' at is is') (omega arith) few' to'
  went {m = m} {ss = ss} (going {r = r} {table = t} {current = t'} rows f at is from few to) (refused6 {place = place} c l) =
      stopped6 (f (stuck place) (gives_then_stuck g v e ss c)) (l ∙ put-length (levels m + r) rows t t' is)
  went {m = m} {ss = ss} (going {r = r} {table = t} {current = t'} rows f at is from few to) (refused7 {place = place} c l) =
      stopped7 (f (deep place) (gives_then_deep g v e ss c)) (l ∙ put-length (levels m + r) rows t t' is)
  went (stopped6 d l) (readings.refused_before l') = stopped6 d (l' ∙ l)
  went (stopped7 d l) (readings.refused_before l') = stopped7 d (l' ∙ l)
  went (passed_on l) (readings.refused_before l') = passed_on (l' ∙ l)

  -- all is read
  pub done : {n least more : ℕ} {ts : List Symbol} {s s' : Step} {t t' : List ℕ}
      → After g v (token_room tokens) e n n no_row least more ts [] s t s' t' → Reads g v (token_room tokens) e n least more ts s t s' t'
  unfolding levels wrapped onward made passed
  done {n} {ts = ts} (going {i = i} {r = r} {j = j} {k = k} {table = t} {current = t'} rows f at is from few to) =
      let all = rw append-nil at (f (ok j [] 0) (gives_end g v e n j)) in
      read {i = i} {r = r} {j = j} {k = k} {rows = rows} all (omega arith) (put_zero r rows t t' is) from few to
  done (stopped6 d l) = refused6 d l
  done (stopped7 d l) = refused7 d l
  done (passed_on l) = readings.refused_before l

  -- all below a row is read, and the row is put above it
  pub closes : {n below kind least more x : ℕ} {s s' : Step} {t t' : List ℕ}
      → After g v (token_room tokens) e n below (gives_row kind) least more (derived x ∷ []) [] s t s' t'
      → Reads g v (token_room tokens) e n least more (derived x ∷ []) s t s' (closed kind s s' t')
  unfolding levels wrapped onward made passed closed
  closes {n} {below} {kind} {x = x} (going {i = i} {r = r} {j = j} {k = k} {table = t} {current = t'} rows f at is from few to) =
      let all = rw append-nil at (f (ok j [] 0) (gives_end g v e below j)) in
      read {i = i} {r = r} {j = j} {k = k} {rows = above kind i j rows} all (omega arith)
      (put-above kind i j r k rows t t' at is) from few to
  closes (stopped6 d l) = refused6 d l
  closes (stopped7 d l) = refused7 d l
  closes (passed_on l) = readings.refused_before l

  -- a nonterminal that makes no row is looked through: what is left are its production's symbols
  pub looked : {n below least more y : ℕ} {m : Makes} {q : Production} {ts ss : List Symbol} {s s' : Step} {t t' : List ℕ}
      → After g v (token_room tokens) e n below m least more ts (derived y ∷ ss) s t s' t'
      → ((j k : ℕ) → s' ≡ Read j k → Takes g v e y q j) → q.makes ≡ no_row
      → After g v (token_room tokens) e n below m least more ts (q.right ++ ss) s t s' t'
  looked {below = below} {q = q} {ss = ss} (going {j = j} {k = k} rows f at is from few to) chosen rowless =
      going rows (λ (o : Outcome) (d : Gives g v e below (q.right ++ ss) j o).
      f o (takes_inlined g v e fixed (chosen j k refl) rowless d)) at is from few to
  looked (stopped6 d l) chosen rowless = stopped6 d l
  looked (stopped7 d l) chosen rowless = stopped7 d l
  looked (passed_on l) chosen rowless = passed_on l

  takes_said : {n y i kind : ℕ} {o : Outcome} {q : Production} → Takes g v e y q i → q.makes ≡ gives_kind kind
      → Gives g v e n q.right i o → Gives g v e n (derived y ∷ []) i (wrapped (gives_kind kind) i [] o)
  unfolding wrapped onward
  takes_said {n} {y} {i} {kind} {o} {q} (takes c) m d =
      rw m at (gives_within g v e fixed q c (says_level q.makes kind n m) d)
  takes_said {n} {y} {i} {o = o} {q = q} (vain c b) m d =
      let alone : Gives g v e n (q.right ++ []) i o = rw append-nil d in
      rw (barred_stuck g v e fixed [] b alone) (gives_none g v e fixed n y i [] c)

  -- the last part of a production says the kind of its row
  pub spoken : {n below least more y kind : ℕ} {q : Production} {ts : List Symbol} {s s' : Step} {t t' : List ℕ}
      → After g v (token_room tokens) e n below row_of least more ts (derived y ∷ []) s t s' t'
      → ((j k : ℕ) → s' ≡ Read j k → Takes g v e y q j) → q.makes ≡ gives_kind kind
      → After g v (token_room tokens) e n below (gives_row kind) least more ts q.right s t s' t'
  unfolding levels
  spoken {below = below} {kind = kind} {q = q} (going {i = i} {r = r} {j = j} {k = k} {table = t} {current = t'} rows f at is from few to)
      chosen said =
      going {i = i} {r = r} {j = j} {k = k} {table = t} {current = t'} rows (λ (o : Outcome) (d : Gives g v e below q.right j o).
      rw (← wrapped_says i j kind rows o) (f (wrapped (gives_kind kind) j [] o) (takes_said (chosen j k refl) said d))) at is from few to
  spoken (stopped6 d l) chosen said = stopped6 d l
  spoken (stopped7 d l) chosen said = stopped7 d l
  spoken (passed_on l) chosen said = passed_on l

  -- a condition that is met
  pub held : {n below least more : ℕ} {m : Makes} {b : Bool} {q : Condition} {ts ss : List Symbol} {s s' : Step} {t t' : List ℕ}
      → After g v (token_room tokens) e n below m least more ts (condition b q ∷ ss) s t s' t'
      → ((j k : ℕ) → s' ≡ Read j k → met v e j b q ≡ true)
      → After g v (token_room tokens) e n below m least more ts ss s t s' t'
  held {below = below} {ss = ss} (going {j = j} {k = k} rows f at is from few to) meets =
      going rows (λ (o : Outcome) (d : Gives g v e below ss j o). f o (gives_held g v e (meets j k refl) d)) at is from few to
  held (stopped6 d l) meets = stopped6 d l
  held (stopped7 d l) meets = stopped7 d l
  held (passed_on l) meets = passed_on l

  -- a condition that is not met: the token is refused
  pub unheld : {n below least more : ℕ} {m : Makes} {b : Bool} {q : Condition} {ts ss us : List Symbol} {s s' : Step} {t t' : List ℕ}
      → After g v (token_room tokens) e n below m least more ts (condition b q ∷ ss) s t s' t'
      → ((j k : ℕ) → s' ≡ Read j k → met v e j b q ≡ false)
      → After g v (token_room tokens) e n below m least more ts us s t (refused_at 6 s') t'
  unfolding refused_at wrapped onward
  unheld {below = below} {m = m} {b = b} {q = q} {ss = ss}
      (going {r = r} {j = j} {k = k} {table = t} {current = t'} rows f at is from few to) fails =
      stopped6 (f (stuck j) (gives_unheld g v e below j b q ss (fails j k refl))) (put-length (levels m + r) rows t t' is)
  unheld (stopped6 d l) fails = stopped6 d l
  unheld (stopped7 d l) fails = stopped7 d l
  unheld (passed_on l) fails = passed_on l

  -- a part that cannot be read here: the token is refused
  pub barred : {n below least more y : ℕ} {m : Makes} {ts ss us : List Symbol} {s s' : Step} {t t' : List ℕ}
      → After g v (token_room tokens) e n below m least more ts (derived y ∷ ss) s t s' t'
      → ((j k : ℕ) → s' ≡ Read j k → choice g v e y j ≡ none)
      → After g v (token_room tokens) e n below m least more ts us s t (refused_at 6 s') t'
  unfolding refused_at wrapped onward
  barred {below = below} {y = y} {m = m} {ss = ss} (going {r = r} {j = j} {k = k} {table = t} {current = t'} rows f at is from few to)
      out =
      stopped6 (f (stuck j) (gives_none g v e fixed below y j ss (out j k refl))) (put-length (levels m + r) rows t t' is)
  barred (stopped6 d l) out = stopped6 d l
  barred (stopped7 d l) out = stopped7 d l
  barred (passed_on l) out = passed_on l

  -- fewer tokens are asked for, and more rows allowed
  pub wider : {n below least more least' more' : ℕ} {m : Makes} {ts ss : List Symbol} {s s' : Step} {t t' : List ℕ}
      → After g v (token_room tokens) e n below m least more ts ss s t s' t' → least' ≤ least → more ≤ more'
      → After g v (token_room tokens) e n below m least' more' ts ss s t s' t'
  wider (going {i = i} {r = r} {j = j} {k = k} rows f at is from few to) a b =
      going {i = i} {r = r} {j = j} {k = k} rows f at is (omega arith) few (omega arith)
  wider (stopped6 d l) a b = stopped6 d l
  wider (stopped7 d l) a b = stopped7 d l
  wider (passed_on l) a b = passed_on l

  -- no more rows than the step that is reached allows
  pub fewer : {n below least more more' : ℕ} {m : Makes} {ts ss : List Symbol} {s s' : Step} {t t' : List ℕ}
      → After g v (token_room tokens) e n below m least more ts ss s t s' t' → Within tokens more' s'
      → After g v (token_room tokens) e n below m least more' ts ss s t s' t'
  fewer (going rows f at is from few to) (inside few' to') = going rows f at is from few' to'
  fewer (stopped6 d l) elsewhere = stopped6 d l
  fewer (stopped7 d l) elsewhere = stopped7 d l
  fewer (passed_on l) elsewhere = passed_on l

  -- one more of a list
  pub list_more : {n below least more x y : ℕ} {m : Makes} {ts ss : List Symbol} {s s' s'' : Step} {t t' t'' : List ℕ}
      → After g v (token_room tokens) e n below m least more ts (derived x ∷ ss) s t s' t'
      → ((j k : ℕ) → s' ≡ Read j k → choice g v e x j ≡ selected (rule_of x no_row (derived y ∷ derived x ∷ [])))
      → Reads g v (token_room tokens) e below 1 0 (derived y ∷ []) s' t' s'' t''
      → After g v (token_room tokens) e n below m least more ts (derived x ∷ ss) s t s'' t''
  list_more {x = x} {y = y} {s' = s'} a chosen d =
      let next = looked {q = rule_of x no_row (derived y ∷ derived x ∷ [])} a
      (λ (j k : ℕ) (is : s' ≡ Read j k). takes (chosen j k is)) refl in
      wider (went next d) (omega arith) (omega arith)

  -- the end of a list
  pub list_done : {n below least more x : ℕ} {m : Makes} {ts ss : List Symbol} {s s' : Step} {t t' : List ℕ}
      → After g v (token_room tokens) e n below m least more ts (derived x ∷ ss) s t s' t'
      → ((j k : ℕ) → s' ≡ Read j k → choice g v e x j ≡ selected (rule_of x no_row []))
      → After g v (token_room tokens) e n below m least more ts ss s t s' t'
  list_done {x = x} {s' = s'} a chosen =
      looked {q = rule_of x no_row []} a (λ (j k : ℕ) (is : s' ≡ Read j k). takes (chosen j k is)) refl

  -- what is reached lies after where it began, ..
  pub after-spans : {n below least more : ℕ} {m : Makes} {ts ss : List Symbol} {s s' : Step} {t t' : List ℕ} → levels m ≡ 1
      → After g v (token_room tokens) e n below m least more ts ss s t s' t' → Spans s s'
  after-spans level (going {i = i} {r = r} {j = j} {k = k} rows f at is from few to) =
      spans {at = i} {row = r} {next = j} {last = k} (omega arith) (omega arith)
  after-spans level (stopped6 d l) = to_refused
  after-spans level (stopped7 d l) = to_refused
  after-spans level (passed_on l) = from_refused

  -- .. at a token of the table, with no more rows than are allowed
  pub after_within : {n below least more : ℕ} {m : Makes} {ts ss : List Symbol} {s s' : Step} {t t' : List ℕ}
      → After g v (token_room tokens) e n below m least more ts ss s t s' t' → Within tokens more s'
  after_within (going rows f at is from few to) = inside few to
  after_within (stopped6 d l) = elsewhere
  after_within (stopped7 d l) = elsewhere
  after_within (passed_on l) = elsewhere

  -- no production of the nonterminal can be taken here: the token is refused
  pub stuck_at : {n least more x : ℕ} (s : Step) {t : List ℕ} → ((j k : ℕ) → s ≡ Read j k → choice g v e x j ≡ none)
      → Reads g v (token_room tokens) e n least more (derived x ∷ []) s t (refused_at 6 s) t
  unfolding refused_at
  stuck_at {n} {x = x} (Read j k) out = refused6 (gives_none g v e fixed n x j [] (out j k refl)) refl
  stuck_at (Refused number place) out = readings.refused_before refl

  -- no level is left here: it is too deep
  pub deep-at : {n least more x : ℕ} (s : Step) {t : List ℕ} → ((j k : ℕ) → s ≡ Read j k → Gives g v e n (derived x ∷ []) j (deep j))
      → Reads g v (token_room tokens) e n least more (derived x ∷ []) s t (refused_at 7 s) t
  unfolding refused_at
  deep-at (Read j k) out = refused7 (out j k refl) refl
  deep-at (Refused number place) out = readings.refused_before refl

  -- what a reader reaches is at a token of the table, with no more rows than are allowed
  pub reads_within : {n least more : ℕ} {ts : List Symbol} {s s' : Step} {t t' : List ℕ}
      → Reads g v (token_room tokens) e n least more ts s t s' t' → Within tokens more s'
  reads_within (read d at is from few to) = inside few to
  reads_within (refused6 d l) = elsewhere
  reads_within (refused7 d l) = elsewhere
  reads_within (readings.refused_before l) = elsewhere

module _ (tokens : List ℕ) where
  -- more rows are allowed
  pub within_wider : {more more' : ℕ} {s : Step} → Within tokens more s → more ≤ more' → Within tokens more' s
  within_wider (inside {at = i} {row = r} few to) h = inside {at = i} {row = r} few (omega arith)
  within_wider elsewhere h = elsewhere

  -- the tokens and rows of a reading of a source have numbers of 32 bits
  pub within_small : {more : ℕ} {s : Step} → token_room tokens ≤ source_limit → more ≤ 1 → Within tokens more s → Small s
  within_small all h (inside {at = i} {row = r} few to) = small {at = i} {row = r} (omega arith) (omega arith)
  within_small all h elsewhere = over
