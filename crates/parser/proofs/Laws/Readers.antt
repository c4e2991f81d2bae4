-- The laws of a reading under way, for the tokens of a table and grammar 1.7: which production is taken is said by the kind of the
-- next token, as the readers ask for it. Assumes nothing.
use Prim.Native.Nat.{ℕ, suc, ◌+◌, ◌-◌, ◌<◌, ◌≤◌}
use mathlib.Core.Path.{◌≡◌, refl, ◌∙◌, sym, ap}
use mathlib.Core.Bool.{Bool, true, false}
use mathlib.Core.List.{List, [], ◌∷◌, ◌++◌}
use native.Mathlib.Omega.{arith}
use lib.Dec.{eqb, leb, ltb}
use lib.ListN.{replicate}
use borrow.Author.Tests.{eqb-true, eq-eqb, lt-ltb, ltb-true, ltb-false, le-leb, leb-true}
use Rattle.lexer.specs.Tests.{and, or, between, pick, among}
use Rattle.lexer.specs.internal.Kinds.{ident, last_kind}
use Rattle.lexer.specs.Table.{token_room}
use Rattle.lexer.specs.internal.TokenRows.{rows_of, kind_at}
use Rattle.lexer.proofs.Laws.Tests.{and_left, and_right, between_range}
use Rattle.grammar.specs.Grammars.{Symbol, token, derived, Makes, gives_row, row_of, no_row, gives_kind, Production, Names, View, agrees}
use Rattle.grammar.specs.Rows.{levels}
use Rattle.grammar.specs.executable.Reading.{deep, Choice, none, selected, choice}
use Rattle.grammar.specs.internal.Classes.{name, any_word, declared_word}
use Rattle.grammar.specs.Nurl.{productions}
use Rattle.grammar.specs.internal.Productions.{rule_of}
use Rattle.grammar.specs.Languages.{language17}
use Rattle.grammar.specs.Sources.{view_of}
use Rattle.grammar.specs.internal.Alternatives.{kind_of_class, kind_alternative, nth}
use Rattle.grammar.proofs.Laws.Checks.{below, implies}
use Rattle.grammar.proofs.Laws.CheckLaws.{implies_true, implies_by, below_at}
use Rattle.grammar.proofs.Laws.Views.{classes}
use Rattle.grammar.proofs.Laws.Alternatives.{kind_past}
use Rattle.grammar.proofs.Laws.Groups17.{kind_number, kind_same}
use Rattle.parser.specs.internal.Readings.{Gives, Reads}
use Rattle.parser.specs.internal.Steps.{Tokens, Within, inside, elsewhere, Small, Spans, next_kind, begins_part, refused_at, taken_by}
use Rattle.parser.specs.internal.Steps.{taken_kind, word_kinds, taken_word, opened, closed}
use Rattle.parser.specs.internal.Steps.{Step}
use Rattle.parser.specs.internal.Steps.{Read, Refused}
use Rattle.parser.proofs.Laws.Gives.{gives_deep, takes}
use Rattle.parser.proofs.Laws.After.{After, begun, took, went, looked, spoken, wider, closes, after-spans, after_within, stuck_at}
use Rattle.parser.proofs.Laws.After.{deep-at, within_small, start, done}
use Rattle.parser.proofs.Laws.Kinds.{word-inside}
use Rattle.parser.proofs.Laws.Views.{kind-inside, class-kind, class_shows, names_fixed}

-- a token of these classes is one of this kind
unfoldable pub marks : List ℕ → ℕ → Bool
unfolding below
marks cs kind = and (ltb 0 kind) (below (λ (c : ℕ). agrees (among cs c) (eqb (kind_of_class c) kind)) classes)

-- a token whose kind passes the test is of these classes
unfoldable pub opens_with : (ℕ → Bool) → List ℕ → Bool
unfolding below
opens_with test cs = below (λ (c : ℕ). implies (test (kind_of_class c)) (and (among cs c) (ltb 0 (kind_of_class c)))) classes

pub agrees-same : (a b : Bool) → agrees a b ≡ true → a ≡ b
unfolding agrees
agrees-same true b h = sym h
agrees-same false true h = h
agrees-same false false h = refl

-- the classes of words are those of the kinds of words
words17 : (keywords : Bool)
    → below (λ (c : ℕ). agrees (among (pick keywords any_word declared_word) c) (among (word_kinds keywords) (kind_of_class c))) classes ≡ true
unfolding below and or agrees among word_kinds
words17 true = refl
words17 false = refl

-- a mark is a class of its own
marks17 : below (λ (k : ℕ). implies (between 2 last_kind k) (marks (k ∷ []) k)) classes ≡ true
unfolding below implies between and or agrees among marks
marks17 = refl

pub mark_marks : (kind : ℕ) → between 2 last_kind kind ≡ true → marks (kind ∷ []) kind ≡ true
mark_marks kind is =
    let range = (between_range 2 last_kind kind is).1 in
    implies_true (between 2 last_kind kind) _
    (below_at (λ (k : ℕ). implies (between 2 last_kind k) (marks (k ∷ []) k)) classes kind marks17 (omega arith)) is

openings17 : below (λ (k : ℕ). implies (between 2 last_kind k) (opens_with (λ (n : ℕ). eqb n k) (k ∷ []))) classes ≡ true
unfolding below implies between and or among opens_with
openings17 = refl

mark_opens : (kind : ℕ) → between 2 last_kind kind ≡ true → opens_with (λ (n : ℕ). eqb n kind) (kind ∷ []) ≡ true
mark_opens kind is =
    let range = (between_range 2 last_kind kind is).1 in
    implies_true (between 2 last_kind kind) _
    (below_at (λ (k : ℕ). implies (between 2 last_kind k) (opens_with (λ (n : ℕ). eqb n k) (k ∷ []))) classes kind openings17
    (omega arith)) is

-- any IDENT is a name
pub name-marks : marks name ident ≡ true
unfolding below and or agrees among marks
name-marks = refl

-- a number that is not the lowest is higher
pub beyond : {m n : ℕ} → m ≤ n → (n ≡ m → ⊥) → suc m ≤ n
beyond low not = omega arith

-- the levels below one that is left
pub level_below : {n : ℕ} → 0 < n → n ≡ suc (n - 1)
level_below some = omega arith

-- where one level more is left than there are below
pub one_below : {n below : ℕ} → n ≡ below + 1 → n ≡ suc below
one_below level = omega (arith, level)

-- what begins something has an alternative
pub begins_some : (x : ℕ) (tokens : List ℕ) (s : Step) → begins_part x tokens s ≡ true
    → kind_alternative x (next_kind tokens s) ≡ suc (kind_alternative x (next_kind tokens s) - 1)
unfolding begins_part
begins_some x tokens s h = let some = ltb-true 0 (kind_alternative x (next_kind tokens s)) h in omega arith

pub begins-none : (x : ℕ) (tokens : List ℕ) (s : Step) → begins_part x tokens s ≡ false → kind_alternative x (next_kind tokens s) ≡ 0
unfolding begins_part
begins-none x tokens s h = let few = ltb-false 0 (kind_alternative x (next_kind tokens s)) h in omega arith

-- a token that is taken is one of the table, and allows for two rows
pub taken_fewer : {more : ℕ} {s : Step} (tokens : List ℕ) (test : ℕ → Bool) → ((j : ℕ) → test j ≡ true → j < token_room tokens)
    → Within tokens (more + 2) s → Within tokens more (taken_by test s)
unfolding taken_by
taken_fewer {more} tokens test room (inside {at = i} {row = r} few to) = within_by (test i) (room i)
  where
    within_by : (b : Bool) → (b ≡ true → i < token_room tokens) → Within tokens more (pick b (Read (i + 1) r) (Refused 6 i))
    within_by true here = let some = here refl in inside {at = i + 1} {row = r} (omega arith) (omega arith)
    within_by false here = elsewhere
taken_fewer tokens test room elsewhere = elsewhere

-- a token of a kind is one of the table
pub kind_room : (tokens : List ℕ) (kind : ℕ) → 0 < kind → (j : ℕ) → eqb (kind_at tokens j) kind ≡ true → j < token_room tokens
kind_room tokens kind some j h = kind-inside tokens j kind (eqb-true (kind_at tokens j) kind h) some

-- whether a production that makes a row is chosen
unfoldable pub rowed : Choice → Bool
rowed none = false
rowed (selected p) = ltb 0 (levels p.makes)

level_one : (m : Makes) → ltb 0 (levels m) ≡ true → levels m ≡ 1
unfolding levels
level_one (gives_row kind) h = refl
level_one row_of h = refl
level_one (gives_kind kind) h = let z : ◌≡◌ {A = ℕ} 0 1 = cc in absurd (omega arith)
level_one no_row h = let z : ◌≡◌ {A = ℕ} 0 1 = cc in absurd (omega arith)

-- .. and no level is left for it
pub rowed-deep : (g : List Production) (v : View) (e : Names) (fixed : (x i : ℕ) → v.inside x i e ≡ e) (x j : ℕ) (c : Choice)
    → choice g v e x j ≡ c → rowed c ≡ true → Gives g v e 0 (derived x ∷ []) j (deep j)
unfolding rowed
rowed-deep g v e fixed x j none is h = let z : ◌≡◌ {A = ℕ} 0 1 = cc in absurd (omega arith)
rowed-deep g v e fixed x j (selected p) is h = gives_deep g v e fixed x j p [] is (level_one p.makes h)

-- what a computed test says of the alternative that a kind begins, where it is one of the grammar
pub alternative_shows : (x : ℕ) (test : ℕ → ℕ → Bool) → below (λ (k : ℕ). test k (kind_number x k)) classes ≡ true
    → ((k : ℕ) → test k 0 ≡ true) → (k : ℕ) → test k (kind_alternative x k) ≡ true
alternative_shows x test all past k = by (ltb last_kind k) refl
  where
    by : (b : Bool) → ltb last_kind k ≡ b → test k (kind_alternative x k) ≡ true
    by true h = rw (kind_past x k (ltb-true last_kind k h)) (past k)
    by false h =
        let low = ltb-false last_kind k h in
        rw (← kind_same) (below_at (λ (k : ℕ). test k (kind_number x k)) classes k all (omega arith))

-- where every alternative of a nonterminal from some number on makes a row, each that some token begins does
pub some_rowed : (x low : ℕ)
    → below (λ (k : ℕ). implies (ltb low (kind_number x k)) (rowed (nth x (kind_number x k) productions))) classes ≡ true
    → (k : ℕ) → low < kind_alternative x k → rowed (nth x (kind_alternative x k) productions) ≡ true
some_rowed x low rows k some =
    implies_true (ltb low (kind_alternative x k)) _
    (alternative_shows x (λ (k n : ℕ). implies (ltb low n) (rowed (nth x n productions))) rows
    (λ (k : ℕ). implies_by (ltb low 0) _ (λ (h : ltb low 0 ≡ true). let no = ltb-true low 0 h in absurd (omega arith))) k)
    (lt-ltb low (kind_alternative x k) some)

-- the alternatives of a nonterminal have no higher number
pub few_numbers : (x most : ℕ) → below (λ (k : ℕ). leb (kind_number x k) most) classes ≡ true → (k : ℕ) → kind_alternative x k ≤ most
few_numbers x most all k =
    leb-true (kind_alternative x k) most
    (alternative_shows x (λ (k n : ℕ). leb n most) all (λ (k : ℕ). le-leb 0 most (omega arith)) k)

-- what is closed, and what is asked for that
module _ (g : List Production) (v : View) (tokens : List ℕ) (e : Names) (fixed : (x i : ℕ) → v.inside x i e ≡ e) where
  pub closing_with : {n below least more kind : ℕ} {ts ss : List Symbol} {s s' : Step} {t t' : List ℕ} → more ≤ 1 → Tokens tokens
      → Within tokens 1 s → After g v (token_room tokens) e n below (gives_row kind) least more ts ss s t s' t'
      → (Small s) × ((Small s') × (Spans s s'))
  unfolding levels
  closing_with rows good within a =
      let few = good.few in (
        within_small tokens few (omega arith) within,
        (within_small tokens few rows (after_within g v tokens e fixed a), after-spans g v tokens e fixed refl a),
      )

  pub closing : {n below least kind : ℕ} {ts ss : List Symbol} {s s' : Step} {t t' : List ℕ} → Tokens tokens → Within tokens 1 s
      → After g v (token_room tokens) e n below (gives_row kind) least 0 ts ss s t s' t' → (Small s) × ((Small s') × (Spans s s'))
  closing = closing_with (omega arith)

  pub closed_by : {n below least kind x : ℕ} {s s' r : Step} {t t' after : List ℕ}
      → After g v (token_room tokens) e n below (gives_row kind) least 0 (derived x ∷ []) [] s t s' t' → 1 ≤ least
      → r ≡ s' → after ≡ closed kind s s' t' → Reads g v (token_room tokens) e n 1 0 (derived x ∷ []) s t r after
  closed_by a enough answer table =
      rw (answer, table) (closes g v tokens e fixed (wider g v tokens e fixed a enough (omega arith)))

  -- one of several operands is read
  pub operand : {n below least y : ℕ} (count done : ℕ) {m : Makes} {ts : List Symbol} {s s' s'' : Step} {t t' t'' : List ℕ} → done < count
      → After g v (token_room tokens) e n below m least 0 ts (replicate (count - done) (derived y)) s t s' t'
      → Reads g v (token_room tokens) e below 1 0 (derived y ∷ []) s' t' s'' t''
      → After g v (token_room tokens) e n below m least 0 ts (replicate (count - (done + 1)) (derived y)) s t s'' t''
  operand {n} {below} {least} {y} count done {m} {ts} {s} {s'} {t = t} {t' = t'} some a d =
      let next : count - done ≡ suc (count - (done + 1)) = omega arith in
      let first : After g v (token_room tokens) e n below m least 0 ts (derived y ∷ replicate (count - (done + 1)) (derived y)) s t s' t' =
      rw next at a in
      wider g v tokens e fixed (went g v tokens e fixed first d) (omega arith) (omega arith)

module _ (source tokens : List ℕ) (good : Tokens tokens) (e : Names) where
  abbrev v : View
  v = view_of language17 source (rows_of tokens)

  abbrev class : ℕ → ℕ
  class j = v.class e j

  -- a step that has come to a token
  pub reached : (s : Step) (j k : ℕ) → s ≡ Read j k → kind_of_class (class j) ≡ next_kind tokens s
  unfolding next_kind
  reached s j k is = rw is (class-kind source tokens good e j)

  -- what begins there, or does not, ..
  pub begins_there : (x : ℕ) (s : Step) → begins_part x tokens s ≡ true → (j k : ℕ) → s ≡ Read j k
      → kind_alternative x (kind_of_class (class j)) ≡ suc (kind_alternative x (next_kind tokens s) - 1)
  begins_there x s is j k read = ap (kind_alternative x) (reached s j k read) ∙ begins_some x tokens s is

  pub none_there : (x : ℕ) (s : Step) → begins_part x tokens s ≡ false → (j k : ℕ) → s ≡ Read j k
      → kind_alternative x (kind_of_class (class j)) ≡ 0
  none_there x s is j k read = ap (kind_alternative x) (reached s j k read) ∙ begins-none x tokens s is

  -- .. and which alternative
  pub alternative_is : {a : ℕ} (x : ℕ)
      → ((j : ℕ) → choice productions v e x j ≡ nth x (kind_alternative x (kind_of_class (class j))) productions)
      → (s : Step) → kind_alternative x (next_kind tokens s) ≡ a
      → (j : ℕ) → kind_of_class (class j) ≡ next_kind tokens s → choice productions v e x j ≡ nth x a productions
  alternative_is x chosen s is j k = chosen j ∙ ap (λ (n : ℕ). nth x n productions) (ap (kind_alternative x) k ∙ is)

  -- no token begins this: it is refused
  pub none_stuck : {n x : ℕ} (s : Step) {t : List ℕ}
      → ((j : ℕ) → kind_of_class (class j) ≡ next_kind tokens s → choice productions v e x j ≡ none)
      → Reads productions v (token_room tokens) e n 1 0 (derived x ∷ []) s t (refused_at 6 s) t
  none_stuck s chosen =
      stuck_at productions v tokens e (names_fixed source tokens good e) s (λ (j k : ℕ) (is : s ≡ Read j k). chosen j (reached s j k
      is))

  -- a row is called for and no level is left: it is too deep
  pub row-deep : {n x : ℕ} (s : Step) {t : List ℕ} (c : Choice) → n ≡ 0 → rowed c ≡ true
      → ((j : ℕ) → kind_of_class (class j) ≡ next_kind tokens s → choice productions v e x j ≡ c)
      → Reads productions v (token_room tokens) e n 1 0 (derived x ∷ []) s t (refused_at 7 s) t
  row-deep {x = x} s c spent rows chosen =
      let fixed = names_fixed source tokens good e in
      rw spent (deep-at productions v tokens e fixed s (λ (j k : ℕ) (is : s ≡ Read j k).
      rowed-deep productions v e fixed x j c (chosen j (reached s j k is)) rows))

  opened_both : (test : ℕ → Bool) (cs : List ℕ) (s : Step) → opens_with test cs ≡ true → test (next_kind tokens s) ≡ true
      → (j k : ℕ) → s ≡ Read j k → and (among cs (class j)) (ltb 0 (kind_of_class (class j))) ≡ true
  unfolding opens_with
  opened_both test cs s opens passes j k is =
      implies_true (test (kind_of_class (class j))) _
      (class_shows source tokens good e (λ (c : ℕ). implies (test (kind_of_class c)) (and (among cs c) (ltb 0 (kind_of_class c)))) opens j)
      (ap test (reached s j k is) ∙ passes)

  opened_inside : (test : ℕ → Bool) (cs : List ℕ) (s : Step) → opens_with test cs ≡ true → test (next_kind tokens s) ≡ true
      → (j k : ℕ) → s ≡ Read j k → j < token_room tokens
  opened_inside test cs s opens passes j k is =
      let both = opened_both test cs s opens passes j k is in
      let some = ltb-true 0 (kind_of_class (class j)) (and_right (among cs (class j)) _ both) in
      kind-inside tokens j (kind_of_class (class j)) (sym (class-kind source tokens good e j)) some

  -- a production that makes a row is begun with its token
  pub begun_by : {n below x : ℕ} {m : Makes} {cs : List ℕ} {ss : List Symbol} {s s₀ : Step} {t : List ℕ} (test : ℕ → Bool)
      → opens_with test cs ≡ true
      → ((j : ℕ) → test (kind_of_class (class j)) ≡ true → choice productions v e x j ≡ selected (rule_of x m (token cs ∷ ss)))
      → test (next_kind tokens s) ≡ true → Within tokens 1 s → n ≡ suc below → levels m ≡ 1 → s₀ ≡ opened s
      → After productions v (token_room tokens) e n below m 1 0 (derived x ∷ []) ss s t s₀ t
  begun_by {cs = cs} {s = s} test opens chosen passes within level makes to =
      rw to (begun productions v tokens e (names_fixed source tokens good e) within level makes
      (λ (i r : ℕ) (is : s ≡ Read i r). chosen i (ap test (reached s i r is) ∙ passes))
      (λ (i r : ℕ) (is : s ≡ Read i r). and_left (among cs (class i)) _ (opened_both test cs s opens passes i r is))
      (opened_inside test cs s opens passes))

  -- .. which is a mark, ..
  pub begun_mark : {n below x : ℕ} (kind : ℕ) {m : Makes} {ss : List Symbol} {s s₀ : Step} {t : List ℕ} → between 2 last_kind kind ≡ true
      → ((j : ℕ) → kind_of_class (class j) ≡ kind → choice productions v e x j ≡ selected (rule_of x m (token (kind ∷ []) ∷ ss)))
      → next_kind tokens s ≡ kind → Within tokens 1 s → n ≡ suc below → levels m ≡ 1 → s₀ ≡ opened s
      → After productions v (token_room tokens) e n below m 1 0 (derived x ∷ []) ss s t s₀ t
  begun_mark kind is chosen begins =
      begun_by (λ (k : ℕ). eqb k kind) (mark_opens kind is)
      (λ (j : ℕ) (h : eqb (kind_of_class (class j)) kind ≡ true). chosen j (eqb-true _ _ h)) (eq-eqb _ _ begins)

  -- .. by the number of its alternative
  pub begun_at : {n below x number : ℕ} {m : Makes} {cs : List ℕ} {ss : List Symbol} {s s₀ : Step} {t : List ℕ}
      → ((j : ℕ) → choice productions v e x j ≡ nth x (kind_alternative x (kind_of_class (class j))) productions)
      → nth x number productions ≡ selected (rule_of x m (token cs ∷ ss)) → opens_with (λ (k : ℕ). eqb (kind_alternative x k) number) cs ≡ true
      → kind_alternative x (next_kind tokens s) ≡ number → Within tokens 1 s → n ≡ suc below → levels m ≡ 1 → s₀ ≡ opened s
      → After productions v (token_room tokens) e n below m 1 0 (derived x ∷ []) ss s t s₀ t
  begun_at {x = x} {number = number} chosen is opens begins within level makes to =
      begun_by (λ (k : ℕ). eqb (kind_alternative x k) number) opens
      (λ (j : ℕ) (h : eqb (kind_alternative x (kind_of_class (class j))) number ≡ true).
      chosen j ∙ ap (λ (n : ℕ). nth x n productions) (eqb-true _ _ h) ∙ is)
      (eq-eqb _ _ begins) within level makes to

  -- the classes of a kind
  pub class-marks : (kind : ℕ) (cs : List ℕ) → marks cs kind ≡ true → (j : ℕ) → among cs (class j) ≡ eqb (kind_of_class (class j)) kind
  unfolding marks
  class-marks kind cs is j =
      agrees-same _ _ (class_shows source tokens good e (λ (c : ℕ). agrees (among cs c) (eqb (kind_of_class c) kind))
      (and_right (ltb 0 kind) _ is) j)

  -- a token of a kind is taken
  pub took_kind : {n below least more : ℕ} (kind : ℕ) {m : Makes} {cs : List ℕ} {ts ss : List Symbol} {s s' s'' : Step} {t t' : List ℕ}
      → After productions v (token_room tokens) e n below m least more ts (token cs ∷ ss) s t s' t' → marks cs kind ≡ true
      → s'' ≡ taken_kind tokens kind s' → After productions v (token_room tokens) e n below m (least + 1) more ts ss s t s'' t'
  unfolding marks
  took_kind kind {cs = cs} a is to =
      rw to (took productions v tokens e (names_fixed source tokens good e) (λ (j : ℕ). eqb (kind_at tokens j) kind) a
      (λ (j : ℕ). class-marks kind cs is j ∙ ap (λ (n : ℕ). eqb n kind) (class-kind source tokens good e j))
      (kind_room tokens kind (ltb-true 0 kind (and_left (ltb 0 kind) _ is))))

  -- .. a mark, ..
  pub took_mark : {n below least more : ℕ} (kind : ℕ) {m : Makes} {ts ss : List Symbol} {s s' s'' : Step} {t t' : List ℕ}
      → After productions v (token_room tokens) e n below m least more ts (token (kind ∷ []) ∷ ss) s t s' t'
      → between 2 last_kind kind ≡ true
      → s'' ≡ taken_kind tokens kind s' → After productions v (token_room tokens) e n below m (least + 1) more ts ss s t s'' t'
  took_mark kind a is = took_kind kind a (mark_marks kind is)

  -- .. a name
  pub took_name : {n below least more : ℕ} {m : Makes} {ts ss : List Symbol} {s s' s'' : Step} {t t' : List ℕ}
      → After productions v (token_room tokens) e n below m least more ts (token name ∷ ss) s t s' t'
      → s'' ≡ taken_kind tokens ident s' → After productions v (token_room tokens) e n below m (least + 1) more ts ss s t s'' t'
  took_name a = took_kind ident a name-marks

  -- .. or a word
  pub took_word : {n below least more : ℕ} (keywords : Bool) {m : Makes} {ts ss : List Symbol} {s s' s'' : Step} {t t' : List ℕ}
      → After productions v (token_room tokens) e n below m least more ts (token (pick keywords any_word declared_word) ∷ ss) s t s' t'
      → s'' ≡ taken_word tokens keywords s' → After productions v (token_room tokens) e n below m (least + 1) more ts ss s t s'' t'
  took_word keywords a to =
      rw to (took productions v tokens e (names_fixed source tokens good e) (λ (j : ℕ). among (word_kinds keywords) (kind_at tokens j)) a
      (λ (j : ℕ).
      agrees-same _ _ (class_shows source tokens good e
      (λ (c : ℕ). agrees (among (pick keywords any_word declared_word) c) (among (word_kinds keywords) (kind_of_class c))) (words17 keywords) j)
      ∙ ap (among (word_kinds keywords)) (class-kind source tokens good e j))
      (word-inside keywords tokens))

  -- a nonterminal that makes no row is looked through ..
  pub looked_by : {n below least more y : ℕ} {m : Makes} (q : Production) {ts ss : List Symbol} {s s' : Step} {t t' : List ℕ}
      → After productions v (token_room tokens) e n below m least more ts (derived y ∷ ss) s t s' t'
      → ((j : ℕ) → kind_of_class (class j) ≡ next_kind tokens s' → choice productions v e y j ≡ selected q) → q.makes ≡ no_row
      → After productions v (token_room tokens) e n below m least more ts (q.right ++ ss) s t s' t'
  looked_by q {s' = s'} a chosen rowless =
      looked productions v tokens e (names_fixed source tokens good e) a
      (λ (j k : ℕ) (is : s' ≡ Read j k). takes (chosen j (reached s' j k is))) rowless

  -- .. or says the kind of the row
  pub spoken_by : {n below least more y kind : ℕ} (q : Production) {ts : List Symbol} {s s' : Step} {t t' : List ℕ}
      → After productions v (token_room tokens) e n below row_of least more ts (derived y ∷ []) s t s' t'
      → ((j : ℕ) → kind_of_class (class j) ≡ next_kind tokens s' → choice productions v e y j ≡ selected q) → q.makes ≡ gives_kind kind
      → After productions v (token_room tokens) e n below (gives_row kind) least more ts q.right s t s' t'
  spoken_by q {s' = s'} a chosen speaks =
      spoken productions v tokens e (names_fixed source tokens good e) a
      (λ (j k : ℕ) (is : s' ≡ Read j k). takes (chosen j (reached s' j k is))) speaks

  -- an alternative that is another nonterminal is what that is
  pub passes_on : {n y number : ℕ} (x : ℕ) {s s' : Step} {t t' : List ℕ}
      → ((j : ℕ) → choice productions v e x j ≡ nth x (kind_alternative x (kind_of_class (class j))) productions)
      → nth x number productions ≡ selected (rule_of x no_row (derived y ∷ []))
      → kind_alternative x (next_kind tokens s) ≡ number → Within tokens 1 s
      → Reads productions v (token_room tokens) e n 1 0 (derived y ∷ []) s t s' t'
      → Reads productions v (token_room tokens) e n 1 0 (derived x ∷ []) s t s' t'
  passes_on {y = y} x {s = s} chosen is begins within d =
      let fixed = names_fixed source tokens good e in
      let a = looked_by (rule_of x no_row (derived y ∷ [])) (start productions v tokens e fixed within)
      (λ j k. alternative_is x chosen s begins j k ∙ is) refl in
      done productions v tokens e fixed (went productions v tokens e fixed a d)
