-- The productions of expressions read step by step, up to the row that is to be closed. Assumes nothing.
use Prim.Native.Nat.{ℕ, zero, suc, ◌-◌, ◌<◌, ◌≤◌}
use mathlib.Core.Path.{◌≡◌, refl, ap, ◌∙◌, sym}
use mathlib.Core.Bool.{Bool, true, false, not}
use mathlib.Core.List.{List, [], ◌∷◌}
use native.Mathlib.Nat.{pos_of_ne-zero}
use native.Mathlib.Omega.{arith}
use lib.Dec.{eqb, leb, ltb}
use lib.ListN.{replicate}
use borrow.Author.Tests.{eqb-true, eq-eqb, ne_eqb, lt-ltb, ltb-true}
use Rattle.std.proofs.lemmas.Bool.{not-true, not-false, eqb-false}
use Rattle.std.specs.Prelude.{Option, Some, None}
use Rattle.std.specs.Option.{option_eq}
use Rattle.lexer.specs.Tests.{and, or, between, among}
use Rattle.lexer.specs.internal.Kinds.{ident, int, bar, at, left_brace, right_brace, left_paren, right_paren, right_bracket, star, arrow}
use Rattle.lexer.specs.Table.{token_room}
use Rattle.lexer.specs.internal.TokenRows.{rows_of, kind_at}
use Rattle.lexer.proofs.Laws.Tests.{and_left, or_else_lem}
use Rattle.tree.specs.internal.RowKinds.{literal_row, name_row, try_row, closure_row, sizeof_row, aggregate_row, slice_row, call_row, cast_row}
use Rattle.tree.specs.internal.RowKinds.{match_row, block_row}
use Rattle.grammar.specs.Grammars.{query, Symbol, token, derived, when, unless, Makes, gives_row, row_of, gives_kind, no_row, Production, Names}
use Rattle.grammar.specs.Grammars.{View, asked, met}
use Rattle.grammar.specs.Rows.{levels}
use Rattle.grammar.specs.executable.Reading.{deep, none, selected, choice}
use Rattle.grammar.specs.internal.Forms.{expression_form_number}
use Rattle.grammar.specs.declared.forms.ExpressionForm.{ExpressionForm}
use Rattle.grammar.specs.declared.forms.ExpressionForm.TheVariants.{Literal, Name, Binary, Not, Return, Complement, Try, Sizeof, Conditional, Block}
use Rattle.grammar.specs.declared.forms.ExpressionForm.TheVariants.{Call, Slice as SliceExpression, Aggregate, Member, Cast, Match}
use Rattle.grammar.specs.contracts.forms.ExpressionFormPartialEq.TheImpl.{eq-value as same_form}
use Rattle.grammar.specs.internal.Nonterminals.{parameters, block, statements, expressions, expression, literal, try_or_closure}
use Rattle.grammar.specs.internal.Nonterminals.{type_arguments, cast_rest, selector, arms, type}
use Rattle.grammar.specs.internal.Classes.{literals}
use Rattle.grammar.specs.Nurl.{productions}
use Rattle.grammar.specs.Languages.{language17}
use Rattle.grammar.specs.Sources.{view_of}
use Rattle.grammar.specs.internal.Alternatives.{kind_of_class, kind_alternative, nth}
use Rattle.grammar.specs.internal.Productions.{rule_of, a_star, opens_closure, zero_or_one, kind_token}
use Rattle.grammar.proofs.Laws.Checks.{below, implies}
use Rattle.grammar.proofs.Laws.CheckLaws.{implies_true, implies-false}
use Rattle.grammar.proofs.Laws.Views.{classes}
use Rattle.grammar.proofs.Laws.Groups17.{kind_number, kind_same}
use Rattle.grammar.proofs.Laws.Alternatives17.{expression_at, expression_literal, expression_name, expression_binary, expression_not}
use Rattle.grammar.proofs.Laws.Alternatives17.{expression_return, expression_complement, expression_backslash, expression_sizeof}
use Rattle.grammar.proofs.Laws.Alternatives17.{expression_conditional, expression_block, expression_call, expression_slice}
use Rattle.grammar.proofs.Laws.Alternatives17.{expression_aggregate, expression_member, expression_cast, expression_match, literal_one}
use Rattle.grammar.proofs.Laws.Alternatives17.{literal_none, block_one, expressions_more, expressions_done, cast_rest_pointer}
use Rattle.grammar.proofs.Laws.Alternatives17.{cast_rest_other, cast_rest_none, try_or_closure_closure, try_or_closure_closure_arrow}
use Rattle.grammar.proofs.Laws.Alternatives17.{try_or_closure_try, try_or_closure_none}
use Rattle.grammar.proofs.Laws.Alternatives17 as alternatives
use Rattle.parser.specs.internal.Readings.{Gives, Reads, refused_before}
use Rattle.parser.specs.internal.Steps.{Tokens, Within, next_kind, kinds_at, begins_part, asked_at, AnswersKinds, refused_at, taken_kind}
use Rattle.parser.specs.internal.Steps.{opened, closed}
use Rattle.parser.specs.internal.Steps.{Step}
use Rattle.parser.specs.internal.Steps.{Read, Refused}
use Rattle.parser.specs.internal.Operators.{Operation, binary, negation, return, complement, conditional, member}
use Rattle.parser.specs.internal.Operators.{Elements, slice_elements, aggregate_elements}
use Rattle.parser.proofs.Laws.After.{After, start, went, looked, spoken, held, wider, done, deep-at}
use Rattle.parser.proofs.Laws.Repeated.{IsList, list_by}
use Rattle.parser.proofs.Laws.Views.{class-kind, class_low, class_shows, names_fixed}
use Rattle.parser.proofs.Laws.Gives.{gives_deep, gives_inlined, barred_part, barred_condition, Takes, takes, vain}
use Rattle.parser.proofs.Laws.Readers.{opens_with, rowed, rowed-deep, few_numbers, closed_by, reached, none_stuck, row-deep}
use Rattle.parser.proofs.Laws.Readers.{begun_by, begun_at, took_mark, took_name, looked_by, begins_there, none_there}
use Rattle.parser.proofs.Laws.Readers.{alternative_is, passes_on}
use Rattle.parser.proofs.Laws.Openings.{form_number, Begins, expression_name_begins, expression_binary_begins, expression_not_begins}
use Rattle.parser.proofs.Laws.Openings.{expression_return_begins, expression_complement_begins, expression_backslash_begins}
use Rattle.parser.proofs.Laws.Openings.{expression_sizeof_begins, expression_conditional_begins, expression_call_begins}
use Rattle.parser.proofs.Laws.Openings.{expression_slice_begins, expression_aggregate_begins, expression_member_begins}
use Rattle.parser.proofs.Laws.Openings.{expression_cast_begins, expression_match_begins}
use Rattle.parser.proofs.Laws.Questions.{closure_kinds, closure_opens, bit_next}
use Rattle.parser.proofs.Laws.Steps.{asked_here, met_here}
use Rattle.parser.proofs.Laws.Options.{mark_met}
use Rattle.parser.proofs.Laws.Types.{type-none}

-- the alternative that begins where the code found this form
pub expression_here : {kind next : ℕ} {known : Option ExpressionForm} {form it : ExpressionForm} → kind ≡ next
    → expression_form_number known ≡ kind_alternative expression kind → known ≡ Some form → form ≡ it
    → kind_alternative expression next ≡ expression_form_number (Some it)
expression_here = form_number expression_form_number expression

-- the form of a literal is the one with its number
literal_form : (form : Option ExpressionForm) → option_eq same_form.it form (Some Literal) ≡ eqb (expression_form_number form) 1
literal_form None = refl
literal_form (Some Literal) = refl
literal_form (Some Name) = refl
literal_form (Some Binary) = refl
literal_form (Some Not) = refl
literal_form (Some Return) = refl
literal_form (Some Complement) = refl
literal_form (Some Try) = refl
literal_form (Some Sizeof) = refl
literal_form (Some Conditional) = refl
literal_form (Some Block) = refl
literal_form (Some Call) = refl
literal_form (Some SliceExpression) = refl
literal_form (Some Aggregate) = refl
literal_form (Some Member) = refl
literal_form (Some Cast) = refl
literal_form (Some Match) = refl

-- where the code tests a form for the literal's: a literal begins there, or none
module _ (form : Option ExpressionForm) {kind next : ℕ} {b : Bool} (here : kind ≡ next)
    (made : expression_form_number form ≡ kind_alternative expression kind) (test : b ≡ not (option_eq same_form.it form (Some Literal))) where
  pub literal_here : b ≡ false → kind_alternative expression next ≡ 1
  literal_here is =
      ap (kind_alternative expression) (sym here) ∙ sym made ∙ eqb-true _ _ (sym (literal_form form) ∙ not-false _ (sym test ∙ is))

  pub none_here : b ≡ true → kind_alternative expression next ≡ 1 → ⊥
  none_here is one =
      eqb-false _ _ (sym (literal_form form) ∙ not-true _ (sym test ∙ is)) (made ∙ ap (kind_alternative expression) here ∙ one)

-- an operation is an alternative, ..
pub operation_some : {a count kind : ℕ} → Operation a count kind → 0 < a
operation_some binary = omega arith
operation_some negation = omega arith
operation_some return = omega arith
operation_some complement = omega arith
operation_some conditional = omega arith
operation_some member = omega arith

-- .. and so is what begins a type and its elements
pub elements_some : {a before after kind : ℕ} → Elements a before after kind → 0 < a
elements_some slice_elements = omega arith
elements_some aggregate_elements = omega arith

-- a token whose kind passes one test passes another
unfoldable leads : (ℕ → Bool) → (ℕ → Bool) → Bool
leads test next = below (λ (c : ℕ). implies (test (kind_of_class c)) (next (kind_of_class c))) classes

-- the tokens that begin a literal
literal_numbers : opens_with (λ (k : ℕ). eqb (kind_number expression k) 1) literals ≡ true
unfolding opens_with below implies and or among kind_number
literal_numbers = refl

literal-begins : Begins expression 1 literals
literal-begins = rw (← kind_same) literal_numbers

literal_kinds : leads (λ (k : ℕ). eqb (kind_number expression k) 1) (among literals) ≡ true
unfolding leads below implies and or among kind_number
literal_kinds = refl

literal-kind : leads (λ (k : ℕ). eqb (kind_alternative expression k) 1) (among literals) ≡ true
literal-kind = rw (← kind_same) literal_kinds

kinds_literal : leads (among literals) (λ (k : ℕ). eqb (kind_number expression k) 1) ≡ true
unfolding leads below implies and or among kind_number
kinds_literal = refl

kind-literal : leads (among literals) (λ (k : ℕ). eqb (kind_alternative expression k) 1) ≡ true
kind-literal = rw (← kind_same) kinds_literal

-- .. and the one that begins a block
block_numbers : leads (λ (k : ℕ). eqb (kind_number expression k) 10) (λ (k : ℕ). eqb k left_brace) ≡ true
unfolding leads below implies and or among kind_number
block_numbers = refl

block-kind : leads (λ (k : ℕ). eqb (kind_alternative expression k) 10) (λ (k : ℕ). eqb k left_brace) ≡ true
block-kind = rw (← kind_same) block_numbers

-- every alternative of an expression makes a row, but for literals and blocks
unfoldable rowed_or : ℕ → Bool
rowed_or number = or (rowed (nth expression number productions)) (or (eqb number 1) (eqb number 10))

expression_numbers : leads (λ (k : ℕ). ltb 0 (kind_number expression k)) (λ (k : ℕ). rowed_or (kind_number expression k)) ≡ true
unfolding leads below implies and or rowed_or rowed levels nth productions kind_number
expression_numbers = refl

expression_rows : leads (λ (k : ℕ). ltb 0 (kind_alternative expression k)) (λ (k : ℕ). rowed_or (kind_alternative expression k)) ≡ true
expression_rows = rw (← kind_same) expression_numbers

-- what opens a closure begins a type or is an arrow
unfoldable opens_some : ℕ → Bool
opens_some k = or (among closure_kinds k) (or (eqb k left_paren) (eqb k ident))

closure_numbers : leads opens_some (λ (k : ℕ). or (eqb k arrow) (ltb 0 (kind_number type k))) ≡ true
unfolding leads below implies and or among opens_some kind_number
closure_numbers = refl

closure_kind : leads opens_some (λ (k : ℕ). or (eqb k arrow) (ltb 0 (kind_alternative type k))) ≡ true
closure_kind = rw (← kind_same) closure_numbers

or_some : (a b c x y : Bool) → (b ≡ true → x ≡ true) → (c ≡ true → y ≡ true) → or a (or b c) ≡ true → or a (or x y) ≡ true
unfolding or
or_some true b c x y f g h = refl
or_some false true c x y f g h = rw (f refl)
or_some false false c true y f g h = refl
or_some false false c false y f g h = g h

-- a closure is opened by a token that begins one
opens_some_lem : (tokens : List ℕ) (j : ℕ)
    → or (among closure_kinds (kind_at tokens j))
    (or (kinds_at tokens j (left_paren ∷ at ∷ [])) (kinds_at tokens j (ident ∷ ident ∷ arrow ∷ []))) ≡ true
    → opens_some (kind_at tokens j) ≡ true
unfolding opens_some kinds_at
opens_some_lem tokens j h =
    or_some (among closure_kinds (kind_at tokens j)) _ _ _ _ (and_left (eqb (kind_at tokens j) left_paren) _)
    (and_left (eqb (kind_at tokens j) ident) _) h

-- there are sixteen alternatives
few : below (λ (k : ℕ). leb (kind_number expression k) 16) classes ≡ true
unfolding below and kind_number
few = refl

pub expression_few : (k : ℕ) → kind_alternative expression k ≤ 16
expression_few = few_numbers expression 16 few

module _ (source tokens : List ℕ) (good : Tokens tokens) (e : Names) where
  abbrev v : View
  v = view_of language17 source (rows_of tokens)

  abbrev Under : ℕ → ℕ → ℕ → Makes → ℕ → List Symbol → Step → List ℕ → Step → List ℕ → Type 0
  Under x n below m least ss = After productions v (token_room tokens) e n below m least 0 (derived x ∷ []) ss

  abbrev Part : ℕ → ℕ → ℕ → Step → List ℕ → Step → List ℕ → Type 0
  Part n least x = Reads productions v (token_room tokens) e n least 0 (derived x ∷ [])

  abbrev kind : ℕ → ℕ
  kind j = kind_of_class (v.class e j)

  -- a computed test of all kinds holds of each token's
  kind-leads : (test next : ℕ → Bool) → leads test next ≡ true → (j : ℕ) → test (kind j) ≡ true → next (kind j) ≡ true
  unfolding leads
  kind-leads test next all j =
      implies_true (test (kind j)) _ (class_shows source tokens good e (λ (c : ℕ). implies (test (kind_of_class c)) (next (kind_of_class c))) all j)

  kind_bars : (test next : ℕ → Bool) → leads test next ≡ true → (j : ℕ) → next (kind j) ≡ false → test (kind j) ≡ false
  unfolding leads
  kind_bars test next all j =
      implies-false (test (kind j)) _ (class_shows source tokens good e (λ (c : ℕ). implies (test (kind_of_class c)) (next (kind_of_class c))) all j)

  expression-choice : (j : ℕ) → choice productions v e expression j ≡ nth expression (kind_alternative expression (kind j)) productions
  expression-choice j = expression_at v e j (class_low source tokens good e j)

  expression_chosen : {a : ℕ} (j : ℕ) → kind_alternative expression (kind j) ≡ a
      → choice productions v e expression j ≡ nth expression a productions
  expression_chosen j is = expression-choice j ∙ ap (λ (n : ℕ). nth expression n productions) is

  -- there is none where no expression begins
  no_expression_here : (j : ℕ) → kind_alternative expression (kind j) ≡ 0 → choice productions v e expression j ≡ none
  unfolding nth
  no_expression_here j is = expression_chosen j is

  -- an alternative that makes a row is begun with its token
  expression_begun : {n below : ℕ} (number : ℕ) {m : Makes} {cs : List ℕ} {ss : List Symbol} {s s₀ : Step} {t : List ℕ}
      → nth expression number productions ≡ selected (rule_of expression m (token cs ∷ ss)) → Begins expression number cs
      → kind_alternative expression (next_kind tokens s) ≡ number → Within tokens 1 s → n ≡ suc below → levels m ≡ 1
      → s₀ ≡ opened s → Under expression n below m 1 ss s t s₀ t
  expression_begun number is opens = begun_at source tokens good e expression-choice is opens

  -- a token that begins no expression is refused
  pub expression_stuck : {n : ℕ} (s : Step) {t : List ℕ} → kind_alternative expression (next_kind tokens s) ≡ 0
      → Part n 1 expression s t (refused_at 6 s) t
  unfolding nth
  expression_stuck s is = none_stuck source tokens good e s (alternative_is source tokens good e expression expression-choice s is)

  literal_chosen : (j : ℕ) → eqb (kind_alternative expression (kind j)) 1 ≡ true
      → choice productions v e literal j ≡ selected (rule_of literal (gives_row literal_row) (token literals ∷ []))
  literal_chosen j is =
      literal_one v e j (class_low source tokens good e j)
      (kind-leads (λ (k : ℕ). eqb (kind_alternative expression k) 1) (among literals) literal-kind j is)

  block_chosen : (j : ℕ) → eqb (kind_alternative expression (kind j)) 10 ≡ true
      → choice productions v e block j ≡ selected (rule_of block (gives_row block_row)
      (kind_token left_brace ∷ derived statements ∷ kind_token right_brace ∷ []))
  block_chosen j is =
      block_one v e j (class_low source tokens good e j) (eqb-true _ _
      (kind-leads (λ (k : ℕ). eqb (kind_alternative expression k) 10) (λ (k : ℕ). eqb k left_brace) block-kind j is))

  literal_deeper : (j : ℕ) → eqb (kind_alternative expression (kind j)) 1 ≡ true
      → Gives productions v e 0 (derived expression ∷ []) j (deep j)
  unfolding levels
  literal_deeper j is =
      let fixed = names_fixed source tokens good e in
      gives_inlined productions v e fixed (rule_of expression no_row (derived literal ∷ []))
      (expression_chosen j (eqb-true _ _ is) ∙ expression_literal) refl
      (gives_deep productions v e fixed literal j (rule_of literal (gives_row literal_row) (token literals ∷ [])) [] (literal_chosen j is) refl)

  block_deeper : (j : ℕ) → eqb (kind_alternative expression (kind j)) 10 ≡ true
      → Gives productions v e 0 (derived expression ∷ []) j (deep j)
  unfolding levels
  block_deeper j is =
      let fixed = names_fixed source tokens good e in
      gives_inlined productions v e fixed (rule_of expression no_row (derived block ∷ []))
      (expression_chosen j (eqb-true _ _ is) ∙ expression_block) refl
      (gives_deep productions v e fixed block j (rule_of block (gives_row block_row)
      (kind_token left_brace ∷ derived statements ∷ kind_token right_brace ∷ [])) []
      (block_chosen j is) refl)

  expression_deeper : (j : ℕ) → (kind_alternative expression (kind j) ≡ 0 → ⊥)
      → Gives productions v e 0 (derived expression ∷ []) j (deep j)
  unfolding rowed_or
  expression_deeper j some =
      let a = kind_alternative expression (kind j) in
      or_else_lem (rowed (nth expression a productions)) (or (eqb a 1) (eqb a 10))
      (rowed-deep productions v e (names_fixed source tokens good e) expression j _ (expression-choice j))
      (or_else_lem (eqb a 1) (eqb a 10) (literal_deeper j) (block_deeper j))
      (kind-leads (λ (k : ℕ). ltb 0 (kind_alternative expression k)) (λ (k : ℕ). rowed_or (kind_alternative expression k)) expression_rows j
      (lt-ltb 0 a (pos_of_ne-zero some)))

  -- an expression is too deep where no level is left
  pub expression-deep : {n : ℕ} (s : Step) {t : List ℕ} → (kind_alternative expression (next_kind tokens s) ≡ 0 → ⊥) → n ≡ 0
      → Part n 1 expression s t (refused_at 7 s) t
  expression-deep s some spent =
      rw spent (deep-at productions v tokens e (names_fixed source tokens good e) s (λ (j k : ℕ) (is : s ≡ Read j k).
      expression_deeper j (λ (z : kind_alternative expression (kind j) ≡ 0).
      some (ap (kind_alternative expression) (sym (reached source tokens good e s j k is)) ∙ z))))

  -- a literal
  pub literal_leaf : {n below : ℕ} {s r : Step} {t after : List ℕ} → kind_alternative expression (next_kind tokens s) ≡ 1
      → Within tokens 1 s → n ≡ suc below → r ≡ opened s → after ≡ closed literal_row s (opened s) t → Part n 1 literal s t r after
  unfolding levels
  literal_leaf begins within level answer table =
      closed_by productions v tokens e (names_fixed source tokens good e)
      (begun_by source tokens good e (λ (k : ℕ). eqb (kind_alternative expression k) 1) literal-begins literal_chosen
      (eq-eqb _ _ begins) within level refl refl) (omega arith) answer table

  pub literal_stuck : {n : ℕ} (s : Step) {t : List ℕ} → (kind_alternative expression (next_kind tokens s) ≡ 1 → ⊥)
      → Part n 1 literal s t (refused_at 6 s) t
  literal_stuck s other =
      none_stuck source tokens good e s (λ (j : ℕ) (k : kind j ≡ next_kind tokens s).
      literal_none v e j (class_low source tokens good e j)
      (kind_bars (among literals) (λ (k : ℕ). eqb (kind_alternative expression k) 1) kind-literal j
      (ne_eqb _ _ (λ (is : kind_alternative expression (kind j) ≡ 1). other (ap (kind_alternative expression) (sym k) ∙ is)))))

  pub literal-deep : {n : ℕ} (s : Step) {t : List ℕ} → kind_alternative expression (next_kind tokens s) ≡ 1 → n ≡ 0
      → Part n 1 literal s t (refused_at 7 s) t
  unfolding rowed levels
  literal-deep s is spent =
      row-deep source tokens good e s (selected (rule_of literal (gives_row literal_row) (token literals ∷ []))) spent refl
      (λ (j : ℕ) (k : kind j ≡ next_kind tokens s). literal_chosen j (eq-eqb _ _ (ap (kind_alternative expression) k ∙ is)))

  -- a literal as an expression
  literal_passes : {n : ℕ} {s s' : Step} {t t' : List ℕ} → kind_alternative expression (next_kind tokens s) ≡ 1 → Within tokens 1 s
      → Part n 1 literal s t s' t' → Part n 1 expression s t s' t'
  literal_passes = passes_on source tokens good e expression expression-choice expression_literal

  pub literal-expression : {n below : ℕ} {s r : Step} {t after : List ℕ} → kind_alternative expression (next_kind tokens s) ≡ 1
      → Within tokens 1 s → n ≡ suc below → r ≡ opened s → after ≡ closed literal_row s (opened s) t → Part n 1 expression s t r after
  literal-expression begins within level answer table = literal_passes begins within (literal_leaf begins within level answer table)

  -- a block as an expression
  pub block_passes : {n : ℕ} {s s' : Step} {t t' : List ℕ} → kind_alternative expression (next_kind tokens s) ≡ 10 → Within tokens 1 s
      → Part n 1 block s t s' t' → Part n 1 expression s t s' t'
  block_passes = passes_on source tokens good e expression expression-choice expression_block

  -- a name
  pub name_expression : {n below : ℕ} {s r : Step} {t after : List ℕ} → kind_alternative expression (next_kind tokens s) ≡ 2
      → Within tokens 1 s → n ≡ suc below → r ≡ opened s → after ≡ closed name_row s (opened s) t → Part n 1 expression s t r after
  unfolding levels
  name_expression begins within level answer table =
      closed_by productions v tokens e (names_fixed source tokens good e)
      (expression_begun 2 expression_name expression_name_begins begins within level refl refl) (omega arith) answer table

  -- a mark and so many expressions
  pub operation : {n below a count kind : ℕ} {s s₀ : Step} {t : List ℕ} → Operation a count kind
      → kind_alternative expression (next_kind tokens s) ≡ a → Within tokens 1 s → n ≡ suc below → s₀ ≡ opened s
      → Under expression n below (gives_row kind) 1 (replicate count (derived expression)) s t s₀ t
  unfolding levels
  operation binary begins within level = expression_begun 3 expression_binary expression_binary_begins begins within level refl
  operation negation begins within level = expression_begun 4 expression_not expression_not_begins begins within level refl
  operation return begins within level = expression_begun 5 expression_return expression_return_begins begins within level refl
  operation complement begins within level =
      expression_begun 6 expression_complement expression_complement_begins begins within level refl
  operation conditional begins within level =
      expression_begun 9 expression_conditional expression_conditional_begins begins within level refl
  operation member begins within level = expression_begun 14 expression_member expression_member_begins begins within level refl

  -- the mark before a try and a closure
  backslashed : {n below : ℕ} {s s₀ : Step} {t : List ℕ} → kind_alternative expression (next_kind tokens s) ≡ 7 → Within tokens 1 s
      → n ≡ suc below → s₀ ≡ opened s → Under expression n below row_of 1 (derived try_or_closure ∷ []) s t s₀ t
  unfolding levels
  backslashed begins within level = expression_begun 7 expression_backslash expression_backslash_begins begins within level refl

  abbrev try_rule : Production
  try_rule = rule_of try_or_closure (gives_kind try_row) (unless (query opens_closure) ∷ derived expression ∷ [])

  try_takes : (j : ℕ) → v.holds opens_closure j ≡ false → Takes productions v e try_or_closure try_rule j
  try_takes j answer = by (kind_alternative expression (kind j)) refl
    where
      low : v.class e j < classes
      low = class_low source tokens good e j

      by : (a : ℕ) → kind_alternative expression (kind j) ≡ a → Takes productions v e try_or_closure try_rule j
      by zero h = vain (try_or_closure_none v e j low answer h) (barred_condition (barred_part (no_expression_here j h)))
      by (suc a) h = takes (try_or_closure_try v e j low answer h)

  -- `\` expression
  pub try_expression : {n below : ℕ} {b : Bool} {s s₀ s₁ : Step} {t t₁ : List ℕ} → kind_alternative expression (next_kind tokens s) ≡ 7
      → Within tokens 1 s → n ≡ suc below → s₀ ≡ opened s → AnswersKinds (query opens_closure) tokens s₀ b → b ≡ false
      → Part below 1 expression s₀ t s₁ t₁ → Under expression n below (gives_row try_row) 2 [] s t s₁ t₁
  unfolding asked
  try_expression {s₀ = s₀} begins within level to₀ answers whether d₁ =
      let fixed = names_fixed source tokens good e in
      let answer = sym whether ∙ answers source e in
      let said = spoken productions v tokens e fixed (backslashed begins within level to₀)
      (λ (j k : ℕ) (is : s₀ ≡ Read j k).
      try_takes j (asked_here source tokens e (query opens_closure) s₀ false (sym answer) j k is)) refl in
      let asks = held productions v tokens e fixed said (met_here source tokens e (query opens_closure) s₀ false (sym answer)) in
      went productions v tokens e fixed asks d₁

  abbrev closure_rule : Production
  closure_rule =
      rule_of try_or_closure (gives_kind closure_row) (when (query opens_closure) ∷ derived parameters ∷ kind_token arrow ∷ derived type ∷ derived block ∷ [])

  closure_takes : (j : ℕ) → v.holds opens_closure j ≡ true → opens_some (kind j) ≡ true
      → choice productions v e try_or_closure j ≡ selected closure_rule
  closure_takes j answer opens =
      or_else_lem (eqb (kind j) arrow) (ltb 0 (kind_alternative type (kind j)))
      (λ (h : eqb (kind j) arrow ≡ true). try_or_closure_closure_arrow v e j low answer (eqb-true _ _ h))
      (λ (h : ltb 0 (kind_alternative type (kind j)) ≡ true). some (ltb-true 0 _ h))
      (kind-leads opens_some (λ (k : ℕ). or (eqb k arrow) (ltb 0 (kind_alternative type k))) closure_kind j opens)
    where
      low : v.class e j < classes
      low = class_low source tokens good e j

      some : 0 < kind_alternative type (kind j) → choice productions v e try_or_closure j ≡ selected closure_rule
      some h =
          let number : kind_alternative type (kind j) ≡ suc (kind_alternative type (kind j) - 1) = omega arith in
          try_or_closure_closure v e j low answer number

  closure_opened : (s : Step) → true ≡ asked_at (query opens_closure) source tokens e s → (j k : ℕ) → s ≡ Read j k
      → opens_some (kind j) ≡ true
  closure_opened s answer j k is =
      rw (class-kind source tokens good e j) (opens_some_lem tokens j (closure_opens tokens s j k is source e ∙ sym answer))

  -- `\` parameter* `→` type block
  pub closure : {n below : ℕ} {b : Bool} {s s₀ s₁ s₂ s₃ s₄ : Step} {t t₁ t₂ t₃ : List ℕ}
      → kind_alternative expression (next_kind tokens s) ≡ 7 → Within tokens 1 s → n ≡ suc below → s₀ ≡ opened s
      → AnswersKinds (query opens_closure) tokens s₀ b → b ≡ true
      → Part below 0 parameters s₀ t s₁ t₁ → s₂ ≡ taken_kind tokens arrow s₁ → Part below 1 type s₂ t₁ s₃ t₂
      → Part below 1 block s₃ t₂ s₄ t₃ → Under expression n below (gives_row closure_row) 4 [] s t s₄ t₃
  unfolding between and asked
  closure {s₀ = s₀} begins within level to₀ answers whether d₁ to₂ d₃ d₄ =
      let fixed = names_fixed source tokens good e in
      let answer = sym whether ∙ answers source e in
      let said = spoken productions v tokens e fixed (backslashed begins within level to₀)
      (λ (j k : ℕ) (is : s₀ ≡ Read j k).
      takes (closure_takes j (asked_here source tokens e (query opens_closure) s₀ true (sym answer) j k is)
      (closure_opened s₀ answer j k is))) refl in
      let a₀ = held productions v tokens e fixed said (met_here source tokens e (query opens_closure) s₀ true (sym answer)) in
      let a₂ = took_mark source tokens good e arrow (went productions v tokens e fixed a₀ d₁) refl to₂ in
      went productions v tokens e fixed (went productions v tokens e fixed a₂ d₃) d₄

  -- `Z` type
  pub size_of : {n below : ℕ} {s s₀ s₁ : Step} {t t₁ : List ℕ} → kind_alternative expression (next_kind tokens s) ≡ 8 → Within tokens 1 s
      → n ≡ suc below → s₀ ≡ opened s → Part below 1 type s₀ t s₁ t₁ → Under expression n below (gives_row sizeof_row) 2 [] s t s₁ t₁
  unfolding levels
  size_of begins within level to₀ d₁ =
      went productions v tokens e (names_fixed source tokens good e)
      (expression_begun 8 expression_sizeof expression_sizeof_begins begins within level refl to₀) d₁

  -- `(` IDENT words? expression* `)`
  pub call : {n below : ℕ} {s s₀ s₁ s₂ s₃ s₄ : Step} {t t₁ t₂ : List ℕ} → kind_alternative expression (next_kind tokens s) ≡ 11
      → Within tokens 1 s → n ≡ suc below → s₀ ≡ opened s → s₁ ≡ taken_kind tokens ident s₀ → Part below 0 type_arguments s₁ t s₂ t₁
      → Part below 0 expressions s₂ t₁ s₃ t₂ → s₄ ≡ taken_kind tokens right_paren s₃ → Under expression n below (gives_row call_row) 3 [] s t s₄ t₂
  unfolding levels between and
  call begins within level to₀ to₁ d₂ d₃ to₄ =
      let fixed = names_fixed source tokens good e in
      let a₀ = expression_begun 11 expression_call expression_call_begins begins within level refl to₀ in
      let a₁ = took_name source tokens good e a₀ to₁ in
      let a₃ = went productions v tokens e fixed (went productions v tokens e fixed a₁ d₂) d₃ in
      took_mark source tokens good e right_paren a₃ refl to₄

  -- `[` type `|` expression* `]`
  pub slice : {n below : ℕ} {s s₀ s₁ s₂ s₃ s₄ : Step} {t t₁ t₂ : List ℕ} → kind_alternative expression (next_kind tokens s) ≡ 12
      → Within tokens 1 s → n ≡ suc below → s₀ ≡ opened s → Part below 1 type s₀ t s₁ t₁ → s₂ ≡ taken_kind tokens bar s₁
      → Part below 0 expressions s₂ t₁ s₃ t₂ → s₄ ≡ taken_kind tokens right_bracket s₃ → Under expression n below (gives_row slice_row) 4 [] s t s₄ t₂
  unfolding levels between and
  slice begins within level to₀ d₁ to₂ d₃ to₄ =
      let fixed = names_fixed source tokens good e in
      let a₀ = expression_begun 12 expression_slice expression_slice_begins begins within level refl to₀ in
      let a₂ = took_mark source tokens good e bar (went productions v tokens e fixed a₀ d₁) refl to₂ in
      took_mark source tokens good e right_bracket (went productions v tokens e fixed a₂ d₃) refl to₄

  -- `@` type `{` expression* `}`
  pub aggregate : {n below : ℕ} {s s₀ s₁ s₂ s₃ s₄ : Step} {t t₁ t₂ : List ℕ} → kind_alternative expression (next_kind tokens s) ≡ 13
      → Within tokens 1 s → n ≡ suc below → s₀ ≡ opened s → Part below 1 type s₀ t s₁ t₁ → s₂ ≡ taken_kind tokens left_brace s₁
      → Part below 0 expressions s₂ t₁ s₃ t₂ → s₄ ≡ taken_kind tokens right_brace s₃
      → Under expression n below (gives_row aggregate_row) 4 [] s t s₄ t₂
  unfolding levels between and
  aggregate begins within level to₀ d₁ to₂ d₃ to₄ =
      let fixed = names_fixed source tokens good e in
      let a₀ = expression_begun 13 expression_aggregate expression_aggregate_begins begins within level refl to₀ in
      let a₂ = took_mark source tokens good e left_brace (went productions v tokens e fixed a₀ d₁) refl to₂ in
      took_mark source tokens good e right_brace (went productions v tokens e fixed a₂ d₃) refl to₄

  -- .. or either of them
  pub elements : {n below a before after kind : ℕ} {s s₀ s₁ s₂ s₃ s₄ : Step} {t t₁ t₂ : List ℕ} → Elements a before after kind
      → kind_alternative expression (next_kind tokens s) ≡ a → Within tokens 1 s → n ≡ suc below → s₀ ≡ opened s
      → Part below 1 type s₀ t s₁ t₁ → s₂ ≡ taken_kind tokens before s₁ → Part below 0 expressions s₂ t₁ s₃ t₂
      → s₄ ≡ taken_kind tokens after s₃ → Under expression n below (gives_row kind) 4 [] s t s₄ t₂
  elements slice_elements begins = slice begins
  elements aggregate_elements begins = aggregate begins

  -- whether the next token is a star
  star-met : (b : Bool) (s : Step) → eqb (next_kind tokens s) star ≡ b → (j k : ℕ) → s ≡ Read j k → met v e j b a_star ≡ true
  unfolding between and
  star-met b s is j k read =
      mark_met source tokens good e star b j refl (ap (λ (n : ℕ). eqb n star) (reached source tokens good e s j k read) ∙ is)

  -- `#` type expression, where the type is a pointer's, with an INT after it where there is one
  pub pointer_cast : {n below : ℕ} {b : Bool} {s s₀ s₁ s₂ s₃ : Step} {t t₁ t₂ t₃ : List ℕ}
      → kind_alternative expression (next_kind tokens s) ≡ 15 → Within tokens 1 s → n ≡ suc below → s₀ ≡ opened s
      → b ≡ eqb (next_kind tokens s₀) star → b ≡ true → Part below 1 type s₀ t s₁ t₁ → Part below 1 expression s₁ t₁ s₂ t₂
      → Part below 0 selector s₂ t₂ s₃ t₃ → Under expression n below (gives_row cast_row) 3 [] s t s₃ t₃
  unfolding levels
  pointer_cast {s₀ = s₀} begins within level to₀ answer whether d₁ d₂ d₃ =
      let fixed = names_fixed source tokens good e in
      let is = sym answer ∙ whether in
      let a₀ = looked_by source tokens good e
      (rule_of cast_rest no_row (when a_star ∷ derived type ∷ derived expression ∷ derived selector ∷ []))
      (expression_begun 15 expression_cast expression_cast_begins begins within level refl to₀)
      (λ j k. cast_rest_pointer v e j (class_low source tokens good e j) (k ∙ eqb-true (next_kind tokens s₀) star is)) refl in
      let a₁ = went productions v tokens e fixed (held productions v tokens e fixed a₀ (star-met true s₀ is)) d₁ in
      went productions v tokens e fixed (went productions v tokens e fixed a₁ d₂) d₃

  abbrev cast_rule : Production
  cast_rule = rule_of cast_rest no_row (unless a_star ∷ derived type ∷ derived expression ∷ [])

  cast_takes : (j : ℕ) → eqb (kind j) star ≡ false → Takes productions v e cast_rest cast_rule j
  cast_takes j not = by (kind_alternative type (kind j)) refl
    where
      low : v.class e j < classes
      low = class_low source tokens good e j

      by : (a : ℕ) → kind_alternative type (kind j) ≡ a → Takes productions v e cast_rest cast_rule j
      by zero h = vain (cast_rest_none v e j low not h) (barred_condition (barred_part (type-none source tokens good e j h)))
      by (suc a) h = takes (cast_rest_other v e j low not h)

  -- .. and where it is another
  pub plain_cast : {n below : ℕ} {b : Bool} {s s₀ s₁ s₂ : Step} {t t₁ t₂ : List ℕ} → kind_alternative expression (next_kind tokens s) ≡ 15
      → Within tokens 1 s → n ≡ suc below → s₀ ≡ opened s → b ≡ eqb (next_kind tokens s₀) star → b ≡ false
      → Part below 1 type s₀ t s₁ t₁ → Part below 1 expression s₁ t₁ s₂ t₂ → Under expression n below (gives_row cast_row) 3 [] s t s₂ t₂
  unfolding levels
  plain_cast {s₀ = s₀} begins within level to₀ answer whether d₁ d₂ =
      let fixed = names_fixed source tokens good e in
      let not = sym answer ∙ whether in
      let a₀ = looked productions v tokens e fixed
      (expression_begun 15 expression_cast expression_cast_begins begins within level refl to₀)
      (λ (j k : ℕ) (is : s₀ ≡ Read j k).
      cast_takes j (ap (λ (n : ℕ). eqb n star) (reached source tokens good e s₀ j k is) ∙ not)) refl in
      let a₁ = went productions v tokens e fixed (held productions v tokens e fixed a₀ (star-met false s₀ not)) d₁ in
      went productions v tokens e fixed a₁ d₂

  -- .. and where its type or its expression is refused
  pub cast_refused : {n below number place : ℕ} {s s₀ s₁ : Step} {t t₁ t₂ : List ℕ}
      → kind_alternative expression (next_kind tokens s) ≡ 15 → Within tokens 1 s → n ≡ suc below → s₀ ≡ opened s
      → Part below 1 type s₀ t s₁ t₁ → Part below 1 expression s₁ t₁ (Refused number place) t₂
      → Under expression n below (gives_row cast_row) 3 [] s t (Refused number place) t₂
  cast_refused {n} {below} {number} {place} {s} {s₀} {t = t} {t₂ = t₂} begins within level to₀ d₁ d₂ = by (eqb (next_kind tokens s₀) star) refl
    where
      by : (b : Bool) → b ≡ eqb (next_kind tokens s₀) star → Under expression n below (gives_row cast_row) 3 [] s t (Refused number place) t₂
      by true is = pointer_cast begins within level to₀ is refl d₁ d₂ (refused_before refl)
      by false is = plain_cast begins within level to₀ is refl d₁ d₂

  -- as many expressions as there are
  pub expressions_list : IsList source tokens e expressions expression (λ s. begins_part expression tokens s)
  expressions_list =
      list_by source tokens good e
      (λ s j k is read. expressions_more v e j (class_low source tokens good e j) (begins_there source tokens good e expression s is j k read))
      (λ s j k is read. expressions_done v e j (class_low source tokens good e j) (none_there source tokens good e expression s is j k read))

  bit_int : (s : Step) → true ≡ asked_at (query zero_or_one) source tokens e s → (j k : ℕ) → s ≡ Read j k → kind j ≡ int
  bit_int s answer j k is =
      class-kind source tokens good e j
      ∙ eqb-true _ _ (and_left (eqb (kind_at tokens j) int) _ (bit_next tokens s j k is source e ∙ sym answer))

  -- the INT after a cast to a pointer type, ..
  pub selector_some : {n : ℕ} {b : Bool} {s s' : Step} {t t' : List ℕ} → Within tokens 0 s
      → b ≡ asked_at (query zero_or_one) source tokens e s → b ≡ true → Part n 1 literal s t s' t' → Part n 0 selector s t s' t'
  unfolding asked
  selector_some {s = s} within asks whether d =
      let fixed = names_fixed source tokens good e in
      let answer = sym whether ∙ asks in
      let a = looked productions v tokens e fixed (start productions v tokens e fixed within)
      (λ (j k : ℕ) (is : s ≡ Read j k).
      takes (alternatives.selector_some v e j (class_low source tokens good e j)
      (asked_here source tokens e (query zero_or_one) s true (sym answer) j k is) (bit_int s answer j k is))) refl in
      let b = held productions v tokens e fixed a (met_here source tokens e (query zero_or_one) s true (sym answer)) in
      let c = went productions v tokens e fixed b d in
      done productions v tokens e fixed (wider productions v tokens e fixed c (omega arith) (omega arith))

  -- .. where there is none
  pub selector_none : {n : ℕ} {b : Bool} {s : Step} {t : List ℕ} → Within tokens 0 s
      → b ≡ asked_at (query zero_or_one) source tokens e s → b ≡ false → Part n 0 selector s t s t
  unfolding asked
  selector_none {s = s} within asks whether =
      let fixed = names_fixed source tokens good e in
      let answer = sym whether ∙ asks in
      let a = looked productions v tokens e fixed (start productions v tokens e fixed within)
      (λ (j k : ℕ) (is : s ≡ Read j k).
      takes (alternatives.selector_none v e j (class_low source tokens good e j)
      (asked_here source tokens e (query zero_or_one) s false (sym answer) j k is))) refl in
      done productions v tokens e fixed
      (held productions v tokens e fixed a (met_here source tokens e (query zero_or_one) s false (sym answer)))

  -- `??` expression `{` arm* `}`
  pub match_expression : {n below : ℕ} {s s₀ s₁ s₂ s₃ s₄ : Step} {t t₁ t₂ : List ℕ} → kind_alternative expression (next_kind tokens s) ≡ 16
      → Within tokens 1 s → n ≡ suc below → s₀ ≡ opened s → Part below 1 expression s₀ t s₁ t₁ → s₂ ≡ taken_kind tokens left_brace s₁
      → Part below 0 arms s₂ t₁ s₃ t₂ → s₄ ≡ taken_kind tokens right_brace s₃ → Under expression n below (gives_row match_row) 4 [] s t s₄ t₂
  unfolding levels between and
  match_expression begins within level to₀ d₁ to₂ d₃ to₄ =
      let fixed = names_fixed source tokens good e in
      let a₀ = expression_begun 16 expression_match expression_match_begins begins within level refl to₀ in
      let a₂ = took_mark source tokens good e left_brace (went productions v tokens e fixed a₀ d₁) refl to₂ in
      took_mark source tokens good e right_brace (went productions v tokens e fixed a₂ d₃) refl to₄
