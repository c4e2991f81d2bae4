-- The productions of blocks and statements, read step by step. Assumes nothing.
use Prim.Native.Nat.{ℕ, zero, suc, ◌+◌, ◌<◌, ◌≤◌}
use mathlib.Core.Path.{◌≡◌, refl, ap, ◌∙◌}
use mathlib.Core.Bool.{Bool, true, false}
use mathlib.Core.List.{List, [], ◌∷◌}
use native.Mathlib.Omega.{arith}
use lib.Dec.{eqb, leb, ltb}
use borrow.Author.Tests.{eqb-true}
use Rattle.std.specs.Prelude.{Some}
use Rattle.lexer.specs.Tests.{and, between}
use Rattle.lexer.specs.internal.Kinds.{ident, dot, tilde, left_brace, right_brace}
use Rattle.lexer.specs.Table.{token_room}
use Rattle.lexer.specs.internal.TokenRows.{rows_of, kind_at}
use Rattle.lexer.proofs.Laws.Tests.{and_left}
use Rattle.tree.specs.internal.RowKinds.{block_row, let_row, set_name_row, set_element_row, defer_row, while_row, foreach_row, complement_row}
use Rattle.grammar.specs.Grammars.{query, Symbol, token, derived, unless, Makes, gives_row, row_of, gives_kind, no_row, Names, View, asked, met}
use Rattle.grammar.specs.Rows.{levels}
use Rattle.grammar.specs.executable.Reading.{selected, choice}
use Rattle.grammar.specs.declared.forms.StatementForm.{StatementForm}
use Rattle.grammar.specs.declared.forms.StatementForm.TheVariants.{Expression, Let, Assignment, Defer, Tilde}
use Rattle.grammar.specs.internal.Forms.{statement_form_number}
use Rattle.grammar.specs.internal.Nonterminals.{block, statements, statement, binding, assignment, tilde_statement, loop_or_complement}
use Rattle.grammar.specs.internal.Nonterminals.{expression, type}
use Rattle.grammar.specs.internal.Classes.{name}
use Rattle.grammar.specs.Nurl.{productions, plain_name}
use Rattle.grammar.specs.Languages.{language17}
use Rattle.grammar.specs.Sources.{view_of}
use Rattle.grammar.specs.internal.Alternatives.{kind_of_class, kind_alternative, nth}
use Rattle.grammar.specs.internal.Productions.{rule_of, a_tilde, a_brace, two_names, kind_token}
use Rattle.grammar.proofs.Laws.Checks.{below, implies}
use Rattle.grammar.proofs.Laws.Views.{classes}
use Rattle.grammar.proofs.Laws.Groups17.{kind_number, kind_same}
use Rattle.grammar.proofs.Laws.Alternatives17.{expression_at, statement_at, statement_let, statement_assignment, statement_defer}
use Rattle.grammar.proofs.Laws.Alternatives17.{statement_tilde, block_one, block_none, statements_more, statements_done, mutable_some}
use Rattle.grammar.proofs.Laws.Alternatives17.{mutable_none, binding_named, binding_typed, binding_none, assignment_set_name}
use Rattle.grammar.proofs.Laws.Alternatives17.{assignment_set_element, assignment_none, tilde_statement_foreach, tilde_statement_other}
use Rattle.grammar.proofs.Laws.Alternatives17.{tilde_statement_none, loop_or_complement_some, loop_or_complement_none}
use Rattle.grammar.proofs.Laws.Alternatives17 as alternatives
use Rattle.parser.specs.internal.Readings.{Reads}
use Rattle.parser.specs.internal.Steps.{Tokens, Within, next_kind, begins_part, kinds_at, asked_at, refused_at, taken_kind, taken_if, opened}
use Rattle.parser.specs.internal.Steps.{Step}
use Rattle.parser.specs.internal.Steps.{Read}
use Rattle.parser.proofs.Laws.After.{After, start, went, looked, spoken, held, wider, done}
use Rattle.parser.proofs.Laws.Repeated.{IsList, list_by}
use Rattle.parser.proofs.Laws.Views.{class_low, class-kind, names_fixed}
use Rattle.parser.proofs.Laws.Gives.{barred_token, barred_part, barred_condition, Takes, takes, vain}
use Rattle.parser.proofs.Laws.Readers.{reached, begun_mark, begun_at, rowed, few_numbers, none_stuck, row-deep, class-marks}
use Rattle.parser.proofs.Laws.Readers.{mark_marks, name-marks, took_mark, took_name, looked_by, spoken_by, begins_there}
use Rattle.parser.proofs.Laws.Readers.{none_there, alternative_is, some_rowed}
use Rattle.parser.proofs.Laws.Questions.{two_names_lem, plain_class}
use Rattle.parser.proofs.Laws.Options.{took_if, mark_met}
use Rattle.parser.proofs.Laws.Steps.{asked_here, met_here}
use Rattle.parser.proofs.Laws.Openings.{Begins, statement_let_begins, statement_assignment_begins, statement_defer_begins}
use Rattle.parser.proofs.Laws.Openings.{statement_tilde_begins}
use Rattle.parser.proofs.Laws.Types.{type-none}

-- `~` does not begin an expression as a statement
tilde_statement_lem : kind_alternative statement tilde ≡ 5
unfolding kind_number
tilde_statement_lem = rw (← kind_same) refl

-- every alternative of a statement but the first makes a row
statement_rows :
    below (λ (k : ℕ). implies (ltb 1 (kind_number statement k)) (rowed (nth statement (kind_number statement k) productions))) classes
    ≡ true
unfolding below implies and rowed levels nth productions kind_number
statement_rows = refl

-- there are five
statement_numbers : below (λ (k : ℕ). leb (kind_number statement k) 5) classes ≡ true
unfolding below and kind_number
statement_numbers = refl

pub statement_few : (k : ℕ) → kind_alternative statement k ≤ 5
statement_few = few_numbers statement 5 statement_numbers

-- the form that is no other is the one that begins with a `~`
pub tilde_left : (form : StatementForm) → (form ≡ Expression → ⊥) → (form ≡ Let → ⊥) → (form ≡ Assignment → ⊥) → (form ≡ Defer → ⊥) → form ≡ Tilde
tilde_left Expression e l a d = absurd (e refl)
tilde_left Let e l a d = absurd (l refl)
tilde_left Assignment e l a d = absurd (a refl)
tilde_left Defer e l a d = absurd (d refl)
tilde_left Tilde e l a d = refl

-- a form that is no expression has a number above 1
pub more_than_expression : (form : StatementForm) → (form ≡ Expression → ⊥) → 1 < statement_form_number (Some form)
more_than_expression Expression other = absurd (other refl)
more_than_expression Let _ = omega arith
more_than_expression Assignment _ = omega arith
more_than_expression Defer _ = omega arith
more_than_expression Tilde _ = omega arith

module _ (source tokens : List ℕ) (good : Tokens tokens) (e : Names) where
  abbrev v : View
  v = view_of language17 source (rows_of tokens)

  abbrev Under : ℕ → ℕ → ℕ → Makes → ℕ → List Symbol → Step → List ℕ → Step → List ℕ → Type 0
  Under x n below m least ss = After productions v (token_room tokens) e n below m least 0 (derived x ∷ []) ss

  abbrev Part : ℕ → ℕ → ℕ → Step → List ℕ → Step → List ℕ → Type 0
  Part n least x = Reads productions v (token_room tokens) e n least 0 (derived x ∷ [])

  -- `{` statement* `}`
  pub block_whole : {n below : ℕ} {s s₀ s₁ s₂ : Step} {t t₁ : List ℕ} → eqb (next_kind tokens s) left_brace ≡ true
      → Within tokens 1 s → n ≡ suc below → s₀ ≡ opened s
      → Part below 0 statements s₀ t s₁ t₁ → s₂ ≡ taken_kind tokens right_brace s₁
      → After productions v (token_room tokens) e n below (gives_row block_row) 2 0 (derived block ∷ []) [] s t s₂ t₁
  unfolding levels between and
  block_whole is within level to₀ d₁ to₂ =
      let a₀ = begun_mark source tokens good e left_brace refl (λ j. block_one v e j (class_low source tokens good e j))
      (eqb-true _ _ is) within level refl to₀ in
      took_mark source tokens good e right_brace (went productions v tokens e (names_fixed source tokens good e) a₀ d₁) refl to₂

  -- another token is refused
  pub block_stuck : {n : ℕ} (s : Step) {t : List ℕ} → eqb (next_kind tokens s) left_brace ≡ false
      → Part n 1 block s t (refused_at 6 s) t
  block_stuck s not =
      none_stuck source tokens good e s
      (λ j k. block_none v e j (class_low source tokens good e j) (ap (λ (n : ℕ). eqb n left_brace) k ∙ not))

  -- a block is too deep where no level is left
  pub block_deep : {n : ℕ} (s : Step) {t : List ℕ} → eqb (next_kind tokens s) left_brace ≡ true → n ≡ 0
      → Part n 1 block s t (refused_at 7 s) t
  unfolding rowed levels
  block_deep s is spent =
      row-deep source tokens good e s (selected (rule_of block (gives_row block_row)
      (kind_token left_brace ∷ derived statements ∷ kind_token right_brace ∷ [])))
      spent refl
      (λ j k. block_one v e j (class_low source tokens good e j) (k ∙ eqb-true (next_kind tokens s) left_brace is))

  -- as many statements as there are
  pub statements_list : IsList source tokens e statements statement (λ s. begins_part statement tokens s)
  statements_list =
      list_by source tokens good e
      (λ s j k is read. statements_more v e j (class_low source tokens good e j) (begins_there source tokens good e statement s is j k read))
      (λ s j k is read. statements_done v e j (class_low source tokens good e j) (none_there source tokens good e statement s is j k read))

  statement-choice : (j : ℕ)
      → choice productions v e statement j ≡ nth statement (kind_alternative statement (kind_of_class (v.class e j))) productions
  statement-choice j = statement_at v e j (class_low source tokens good e j)

  -- a token that begins no statement is refused
  pub statement_stuck : {n : ℕ} (s : Step) {t : List ℕ} → kind_alternative statement (next_kind tokens s) ≡ 0
      → Part n 1 statement s t (refused_at 6 s) t
  unfolding nth
  statement_stuck s is = none_stuck source tokens good e s (alternative_is source tokens good e statement statement-choice s is)

  -- a statement other than an expression is too deep where no level is left
  pub statement_deep : {n : ℕ} (s : Step) {t : List ℕ} → 1 < kind_alternative statement (next_kind tokens s) → n ≡ 0
      → Part n 1 statement s t (refused_at 7 s) t
  statement_deep s some spent =
      row-deep source tokens good e s (nth statement (kind_alternative statement (next_kind tokens s)) productions) spent
      (some_rowed statement 1 statement_rows (next_kind tokens s) some)
      (alternative_is source tokens good e statement statement-choice s refl)

  no_tilde : (j : ℕ) → kind_alternative statement (kind_of_class (v.class e j)) ≡ 1 → (b : Bool) → eqb (kind_of_class (v.class e j)) tilde ≡ b
      → met v e j false a_tilde ≡ true
  unfolding between and
  no_tilde j is true h =
      let other = ap (kind_alternative statement) (eqb-true (kind_of_class (v.class e j)) tilde h) ∙ tilde_statement_lem in
      absurd (omega (arith, other, is))
  no_tilde j is false h = mark_met source tokens good e tilde false j refl h

  -- a statement that is an expression
  pub statement_expression : {n : ℕ} {s s' : Step} {t t' : List ℕ} → kind_alternative statement (next_kind tokens s) ≡ 1
      → Within tokens 1 s → Part n 1 expression s t s' t'
      → Part n 1 statement s t s' t'
  statement_expression {s = s} begins within d =
      let fixed = names_fixed source tokens good e in
      let a = looked_by source tokens good e (rule_of statement no_row (unless a_tilde ∷ derived expression ∷ []))
      (start productions v tokens e fixed within)
      (λ j k. alternative_is source tokens good e statement statement-choice s begins j k ∙ alternatives.statement_expression) refl in
      let b = held productions v tokens e fixed a (λ (j k : ℕ) (is : s ≡ Read j k).
      no_tilde j (ap (kind_alternative statement) (reached source tokens good e s j k is) ∙ begins)
      (eqb (kind_of_class (v.class e j)) tilde) refl) in
      done productions v tokens e fixed (went productions v tokens e fixed b d)

  -- an alternative that makes a row is begun with its token
  statement_begun : {n below : ℕ} (number : ℕ) {m : Makes} {cs : List ℕ} {ss : List Symbol} {s s₀ : Step} {t : List ℕ}
      → nth statement number productions ≡ selected (rule_of statement m (token cs ∷ ss)) → Begins statement number cs
      → kind_alternative statement (next_kind tokens s) ≡ number → Within tokens 1 s → n ≡ suc below → levels m ≡ 1
      → s₀ ≡ opened s → Under statement n below m 1 ss s t s₀ t
  statement_begun number is opens = begun_at source tokens good e statement-choice is opens

  -- `:` and `~` where there is one
  let_begun : {n below : ℕ} {s s₀ s₁ : Step} {t : List ℕ} → kind_alternative statement (next_kind tokens s) ≡ 2
      → Within tokens 1 s → n ≡ suc below → s₀ ≡ opened s → s₁ ≡ taken_if tokens tilde s₀
      → Under statement n below (gives_row let_row) 1 (derived binding ∷ []) s t s₁ t
  unfolding levels between and
  let_begun begins within level to₀ to₁ =
      took_if source tokens good e tilde (mark_marks tilde refl)
      (λ (j : ℕ). mutable_some v e j (class_low source tokens good e j))
      (λ (j : ℕ). mutable_none v e j (class_low source tokens good e j))
      (statement_begun 2 statement_let statement_let_begins begins within level refl to₀) to₁

  -- the name of a let is next
  pub let_plain : {n below : ℕ} {s s₀ s₁ : Step} {t : List ℕ} → kind_alternative statement (next_kind tokens s) ≡ 2
      → Within tokens 1 s → n ≡ suc below → s₀ ≡ opened s → s₁ ≡ taken_if tokens tilde s₀
      → asked_at plain_name source tokens e s₁ ≡ true
      → Under statement n below (gives_row let_row) 1 (token name ∷ derived expression ∷ []) s t s₁ t
  let_plain {s₁ = s₁} begins within level to₀ to₁ is =
      let fixed = names_fixed source tokens good e in
      held productions v tokens e fixed (looked productions v tokens e fixed (let_begun begins within level to₀ to₁)
      (λ (j k : ℕ) (at : s₁ ≡ Read j k).
      takes (binding_named v e j (class_low source tokens good e j) (plain_class source tokens e true s₁ is j k at))) refl)
      (met_here source tokens e plain_name s₁ true is)

  typed_takes : (s : Step) → asked_at plain_name source tokens e s ≡ false → (j k : ℕ) → s ≡ Read j k
      → Takes productions v e binding (rule_of binding no_row (unless plain_name ∷ derived type ∷ token name ∷ derived expression ∷ [])) j
  unfolding nth
  typed_takes s not j k at = by (kind_alternative type (kind_of_class (v.class e j))) refl
    where
      low : v.class e j < classes
      low = class_low source tokens good e j

      by : (n : ℕ) → kind_alternative type (kind_of_class (v.class e j)) ≡ n
          → Takes productions v e binding (rule_of binding no_row (unless plain_name ∷ derived type ∷ token name ∷ derived expression ∷ [])) j
      by zero h =
          vain (binding_none v e j low (plain_class source tokens e false s not j k at) h)
          (barred_condition (barred_part (type-none source tokens good e j h)))
      by (suc n) h = takes (binding_typed v e j low (plain_class source tokens e false s not j k at) h)

  -- .. after its type
  typed_begun : {n below : ℕ} {s s₀ s₁ s₂ : Step} {t t₂ : List ℕ} → kind_alternative statement (next_kind tokens s) ≡ 2
      → Within tokens 1 s → n ≡ suc below → s₀ ≡ opened s → s₁ ≡ taken_if tokens tilde s₀
      → asked_at plain_name source tokens e s₁ ≡ false → Part below 1 type s₁ t s₂ t₂
      → Under statement n below (gives_row let_row) 2 (token name ∷ derived expression ∷ []) s t s₂ t₂
  typed_begun {s₁ = s₁} begins within level to₀ to₁ not d₂ =
      let fixed = names_fixed source tokens good e in
      let a = looked productions v tokens e fixed (let_begun begins within level to₀ to₁) (typed_takes s₁ not) refl in
      let b = held productions v tokens e fixed a (met_here source tokens e plain_name s₁ false not) in
      went productions v tokens e fixed b d₂

  pub let_typed : {n below : ℕ} {s s₀ s₁ s₂ : Step} {t t₂ : List ℕ} → kind_alternative statement (next_kind tokens s) ≡ 2
      → Within tokens 1 s → n ≡ suc below → s₀ ≡ opened s → s₁ ≡ taken_if tokens tilde s₀
      → asked_at plain_name source tokens e s₁ ≡ false → Part below 1 type s₁ t s₂ t₂
      → Under statement n below (gives_row let_row) 1 (token name ∷ derived expression ∷ []) s t s₂ t₂
  let_typed begins within level to₀ to₁ not d₂ =
      wider productions v tokens e (names_fixed source tokens good e) (typed_begun begins within level to₀ to₁ not d₂)
      (omega arith) (omega arith)

  -- .. and then the name and the value are read
  pub let_valued : {n below least : ℕ} {s s₂ s₃ s₄ : Step} {t t₂ t₄ : List ℕ}
      → Under statement n below (gives_row let_row) least (token name ∷ derived expression ∷ []) s t s₂ t₂
      → s₃ ≡ taken_kind tokens ident s₂ → Part below 1 expression s₃ t₂ s₄ t₄
      → Under statement n below (gives_row let_row) (least + 2) [] s t s₄ t₄
  let_valued a to₃ d₄ =
      let fixed = names_fixed source tokens good e in
      let b = went productions v tokens e fixed (took_name source tokens good e a to₃) d₄ in
      wider productions v tokens e fixed b (omega arith) (omega arith)

  -- `:` `~`? IDENT expression
  pub let_plain_whole : {n below : ℕ} {s s₀ s₁ s₂ s₃ : Step} {t t₃ : List ℕ} → kind_alternative statement (next_kind tokens s) ≡ 2
      → Within tokens 1 s → n ≡ suc below → s₀ ≡ opened s → s₁ ≡ taken_if tokens tilde s₀
      → asked_at plain_name source tokens e s₁ ≡ true → s₂ ≡ taken_kind tokens ident s₁
      → Part below 1 expression s₂ t s₃ t₃
      → Under statement n below (gives_row let_row) 3 [] s t s₃ t₃
  let_plain_whole begins within level to₀ to₁ is = let_valued (let_plain begins within level to₀ to₁ is)

  -- `:` `~`? type IDENT expression
  pub let_typed_whole : {n below : ℕ} {s s₀ s₁ s₂ s₃ s₄ : Step} {t t₂ t₄ : List ℕ} → kind_alternative statement (next_kind tokens s) ≡ 2
      → Within tokens 1 s → n ≡ suc below → s₀ ≡ opened s → s₁ ≡ taken_if tokens tilde s₀
      → asked_at plain_name source tokens e s₁ ≡ false
      → Part below 1 type s₁ t s₂ t₂ → s₃ ≡ taken_kind tokens ident s₂
      → Part below 1 expression s₃ t₂ s₄ t₄
      → Under statement n below (gives_row let_row) 4 [] s t s₄ t₄
  let_typed_whole begins within level to₀ to₁ not d₂ = let_valued (typed_begun begins within level to₀ to₁ not d₂)

  -- `=` `.` expression expression expression
  pub set_element : {n below : ℕ} {s s₀ s₁ s₂ s₃ s₄ : Step} {t t₂ t₃ t₄ : List ℕ} → kind_alternative statement (next_kind tokens s) ≡ 3
      → Within tokens 1 s → n ≡ suc below → s₀ ≡ opened s → eqb (next_kind tokens s₀) dot ≡ true → s₁ ≡ taken_kind tokens dot s₀
      → Part below 1 expression s₁ t s₂ t₂
      → Part below 1 expression s₂ t₂ s₃ t₃
      → Part below 1 expression s₃ t₃ s₄ t₄
      → Under statement n below (gives_row set_element_row) 5 [] s t s₄ t₄
  unfolding levels between and
  set_element {s₀ = s₀} begins within level to₀ is to₁ d₂ d₃ d₄ =
      let fixed = names_fixed source tokens good e in
      let a₀ = statement_begun 3 statement_assignment statement_assignment_begins begins within level refl to₀ in
      let said = spoken_by source tokens good e
      (rule_of assignment (gives_kind set_element_row) (kind_token dot ∷ derived expression ∷ derived expression ∷ derived expression ∷ [])) a₀
      (λ j k. assignment_set_element v e j (class_low source tokens good e j) (k ∙ eqb-true (next_kind tokens s₀) dot is)) refl in
      let a₁ = took_mark source tokens good e dot said refl to₁ in
      let a₃ = went productions v tokens e fixed (went productions v tokens e fixed a₁ d₂) d₃ in
      went productions v tokens e fixed a₃ d₄

  name-takes : (s : Step) → eqb (next_kind tokens s) dot ≡ false → (j : ℕ) → kind_of_class (v.class e j) ≡ next_kind tokens s
      → Takes productions v e assignment (rule_of assignment (gives_kind set_name_row) (token name ∷ derived expression ∷ [])) j
  name-takes s not j k = by (eqb (kind_of_class (v.class e j)) ident) refl
    where
      low : v.class e j < classes
      low = class_low source tokens good e j

      by : (b : Bool) → eqb (kind_of_class (v.class e j)) ident ≡ b
          → Takes productions v e assignment (rule_of assignment (gives_kind set_name_row) (token name ∷ derived expression ∷ [])) j
      by true h = takes (assignment_set_name v e j low (eqb-true _ _ h))
      by false h =
          vain (assignment_none v e j low h (ap (λ (n : ℕ). eqb n dot) k ∙ not))
          (barred_token (class-marks source tokens good e ident name name-marks j ∙ h))

  -- `=` IDENT expression
  pub set_name : {n below : ℕ} {s s₀ s₁ s₂ : Step} {t t₂ : List ℕ} → kind_alternative statement (next_kind tokens s) ≡ 3
      → Within tokens 1 s → n ≡ suc below → s₀ ≡ opened s → eqb (next_kind tokens s₀) dot ≡ false → s₁ ≡ taken_kind tokens ident s₀
      → Part below 1 expression s₁ t s₂ t₂
      → Under statement n below (gives_row set_name_row) 3 [] s t s₂ t₂
  unfolding levels
  set_name {s₀ = s₀} begins within level to₀ not to₁ d₂ =
      let fixed = names_fixed source tokens good e in
      let a₀ = statement_begun 3 statement_assignment statement_assignment_begins begins within level refl to₀ in
      let said = spoken productions v tokens e fixed a₀
      (λ (j k : ℕ) (is : s₀ ≡ Read j k). name-takes s₀ not j (reached source tokens good e s₀ j k is)) refl in
      went productions v tokens e fixed (took_name source tokens good e said to₁) d₂

  -- `;` block
  pub defer_block : {n below : ℕ} {s s₀ s₁ : Step} {t t₁ : List ℕ} → kind_alternative statement (next_kind tokens s) ≡ 4
      → Within tokens 1 s → n ≡ suc below → s₀ ≡ opened s
      → Part below 1 block s₀ t s₁ t₁
      → Under statement n below (gives_row defer_row) 2 [] s t s₁ t₁
  unfolding levels
  defer_block begins within level to₀ d₁ =
      went productions v tokens e (names_fixed source tokens good e)
      (statement_begun 4 statement_defer statement_defer_begins begins within level refl to₀) d₁

  -- of two names the next token is one
  two_first : (s : Step) → asked_at (query two_names) source tokens e s ≡ true → (j k : ℕ) → s ≡ Read j k → kind_of_class (v.class e j) ≡ ident
  unfolding kinds_at
  two_first s is j k at =
      class-kind source tokens good e j
      ∙ eqb-true (kind_at tokens j) ident (and_left _ _ (two_names_lem tokens s j k at source e ∙ is))

  -- `~` IDENT expression block
  pub for_each : {n below : ℕ} {s s₀ s₁ s₂ s₃ : Step} {t t₂ t₃ : List ℕ} → kind_alternative statement (next_kind tokens s) ≡ 5
      → Within tokens 1 s → n ≡ suc below → s₀ ≡ opened s → asked_at (query two_names) source tokens e s₀ ≡ true
      → s₁ ≡ taken_kind tokens ident s₀
      → Part below 1 expression s₁ t s₂ t₂
      → Part below 1 block s₂ t₂ s₃ t₃
      → Under statement n below (gives_row foreach_row) 4 [] s t s₃ t₃
  unfolding levels asked
  for_each {s₀ = s₀} begins within level to₀ is to₁ d₂ d₃ =
      let fixed = names_fixed source tokens good e in
      let a₀ = statement_begun 5 statement_tilde statement_tilde_begins begins within level refl to₀ in
      let said = spoken productions v tokens e fixed a₀ (λ (j k : ℕ) (at : s₀ ≡ Read j k).
      takes (tilde_statement_foreach v e j (class_low source tokens good e j)
      (asked_here source tokens e (query two_names) s₀ true is j k at) (two_first s₀ is j k at))) refl in
      let b = held productions v tokens e fixed said (met_here source tokens e (query two_names) s₀ true is) in
      let c = went productions v tokens e fixed (took_name source tokens good e b to₁) d₂ in
      went productions v tokens e fixed c d₃

  other_takes : (s : Step) → asked_at (query two_names) source tokens e s ≡ false → (j k : ℕ) → s ≡ Read j k
      → Takes productions v e tilde_statement
      (rule_of tilde_statement no_row (unless (query two_names) ∷ derived expression ∷ derived loop_or_complement ∷ [])) j
  unfolding nth asked
  other_takes s not j k at = by (kind_alternative expression (kind_of_class (v.class e j))) refl
    where
      low : v.class e j < classes
      low = class_low source tokens good e j

      answer : v.holds two_names j ≡ false
      answer = asked_here source tokens e (query two_names) s false not j k at

      by : (n : ℕ) → kind_alternative expression (kind_of_class (v.class e j)) ≡ n
          → Takes productions v e tilde_statement
          (rule_of tilde_statement no_row (unless (query two_names) ∷ derived expression ∷ derived loop_or_complement ∷ [])) j
      by zero h =
          vain (tilde_statement_none v e j low answer h)
          (barred_condition (barred_part (expression_at v e j low ∙ ap (λ (n : ℕ). nth expression n productions) h)))
      by (suc n) h = takes (tilde_statement_other v e j low answer h)

  -- `~` expression, and a block where there is one
  tilde_begun : {n below : ℕ} {s s₀ s₁ : Step} {t t₁ : List ℕ} → kind_alternative statement (next_kind tokens s) ≡ 5
      → Within tokens 1 s → n ≡ suc below → s₀ ≡ opened s → asked_at (query two_names) source tokens e s₀ ≡ false
      → Part below 1 expression s₀ t s₁ t₁
      → Under statement n below row_of 2 (derived loop_or_complement ∷ []) s t s₁ t₁
  unfolding levels
  tilde_begun {s₀ = s₀} begins within level to₀ not d₁ =
      let fixed = names_fixed source tokens good e in
      let a₀ = statement_begun 5 statement_tilde statement_tilde_begins begins within level refl to₀ in
      let a = looked productions v tokens e fixed a₀ (other_takes s₀ not) refl in
      went productions v tokens e fixed
      (held productions v tokens e fixed a (met_here source tokens e (query two_names) s₀ false not)) d₁

  -- `~` expression block
  pub while_loop : {n below : ℕ} {s s₀ s₁ s₂ : Step} {t t₁ t₂ : List ℕ} → kind_alternative statement (next_kind tokens s) ≡ 5
      → Within tokens 1 s → n ≡ suc below → s₀ ≡ opened s → asked_at (query two_names) source tokens e s₀ ≡ false
      → Part below 1 expression s₀ t s₁ t₁
      → eqb (next_kind tokens s₁) left_brace ≡ true
      → Part below 1 block s₁ t₁ s₂ t₂
      → Under statement n below (gives_row while_row) 3 [] s t s₂ t₂
  while_loop {s₁ = s₁} begins within level to₀ not d₁ is d₂ =
      let said = spoken_by source tokens good e (rule_of loop_or_complement (gives_kind while_row) (derived block ∷ []))
      (tilde_begun begins within level to₀ not d₁)
      (λ j k. loop_or_complement_some v e j (class_low source tokens good e j) (ap (λ (n : ℕ). eqb n left_brace) k ∙ is)) refl in
      went productions v tokens e (names_fixed source tokens good e) said d₂

  -- `~` expression
  pub tilde_complement : {n below : ℕ} {s s₀ s₁ : Step} {t t₁ : List ℕ} → kind_alternative statement (next_kind tokens s) ≡ 5
      → Within tokens 1 s → n ≡ suc below → s₀ ≡ opened s → asked_at (query two_names) source tokens e s₀ ≡ false
      → Part below 1 expression s₀ t s₁ t₁
      → eqb (next_kind tokens s₁) left_brace ≡ false
      → Under statement n below (gives_row complement_row) 2 [] s t s₁ t₁
  unfolding between and
  tilde_complement {s₁ = s₁} begins within level to₀ not d₁ unbraced =
      let said = spoken_by source tokens good e (rule_of loop_or_complement (gives_kind complement_row) (unless a_brace ∷ []))
      (tilde_begun begins within level to₀ not d₁)
      (λ j k. loop_or_complement_none v e j (class_low source tokens good e j) (ap (λ (n : ℕ). eqb n left_brace) k ∙ unbraced)) refl in
      held productions v tokens e (names_fixed source tokens good e) said (λ (j k : ℕ) (is : s₁ ≡ Read j k).
      mark_met source tokens good e left_brace false j refl
      (ap (λ (n : ℕ). eqb n left_brace) (reached source tokens good e s₁ j k is) ∙ unbraced))
