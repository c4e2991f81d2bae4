-- The productions of types read step by step. Assumes nothing.
use Prim.Native.Nat.{ℕ, suc, ◌<◌, ◌≤◌}
use mathlib.Core.Path.{◌≡◌, refl, ap, ◌∙◌}
use mathlib.Core.Bool.{Bool, true, false}
use mathlib.Core.List.{List, [], ◌∷◌}
use native.Mathlib.Nat.{pos_of_ne-zero}
use native.Mathlib.Omega.{arith}
use lib.Dec.{eqb, leb, ltb}
use lib.ListN.{replicate}
use borrow.Author.Tests.{eqb-true}
use Rattle.lexer.specs.Tests.{and, between}
use Rattle.lexer.specs.internal.Kinds.{ident, at, right_paren}
use Rattle.lexer.specs.Table.{token_room}
use Rattle.lexer.specs.internal.TokenRows.{rows_of}
use Rattle.tree.specs.internal.RowKinds.{base_type_row, result_row, function_type_row, instance_row, named_type_row}
use Rattle.grammar.specs.Grammars.{Symbol, token, derived, Makes, gives_row, gives_kind, Names, View}
use Rattle.grammar.specs.Rows.{levels}
use Rattle.grammar.specs.executable.Reading.{none, selected, choice}
use Rattle.grammar.specs.internal.Nonterminals.{type, types, parenthesized, more_words}
use Rattle.grammar.specs.internal.Classes.{name, any_word}
use Rattle.grammar.specs.Nurl.{productions}
use Rattle.grammar.specs.Languages.{language17}
use Rattle.grammar.specs.Sources.{view_of}
use Rattle.grammar.specs.internal.Alternatives.{kind_of_class, kind_alternative, nth}
use Rattle.grammar.specs.internal.Productions.{rule_of, kind_token}
use Rattle.grammar.proofs.Laws.Checks.{below, implies}
use Rattle.grammar.proofs.Laws.Views.{classes}
use Rattle.grammar.proofs.Laws.Groups17.{kind_number}
use Rattle.grammar.proofs.Laws.Alternatives17.{type_at, type_base, type_pointer, type_optional, type_slice, type_result}
use Rattle.grammar.proofs.Laws.Alternatives17.{type_parenthesized, type_named, types_more, types_done, parenthesized_function_type}
use Rattle.grammar.proofs.Laws.Alternatives17.{parenthesized_instance, parenthesized_none}
use Rattle.parser.specs.internal.Readings.{Reads}
use Rattle.parser.specs.internal.Steps.{Tokens, Within, next_kind, begins_part, refused_at, taken_kind, taken_word, opened, closed}
use Rattle.parser.specs.internal.Operators.{TypeOperator, pointer, optional, slice, result}
use Rattle.parser.specs.internal.Steps.{Step}
use Rattle.parser.specs.internal.Steps.{Read}
use Rattle.parser.proofs.Laws.After.{After, went, spoken}
use Rattle.parser.proofs.Laws.Repeated.{IsList, list_by}
use Rattle.parser.proofs.Laws.Views.{class_low, names_fixed}
use Rattle.parser.proofs.Laws.Gives.{barred_token, Takes, takes, vain}
use Rattle.parser.proofs.Laws.Readers.{reached, begun_at, closed_by, rowed, some_rowed, few_numbers, none_stuck, row-deep}
use Rattle.parser.proofs.Laws.Readers.{class-marks, name-marks, took_mark, took_name, took_word, spoken_by, begins_there}
use Rattle.parser.proofs.Laws.Readers.{none_there, alternative_is}
use Rattle.parser.proofs.Laws.Openings.{Begins, type_base_begins, type_pointer_begins, type_optional_begins, type_slice_begins}
use Rattle.parser.proofs.Laws.Openings.{type_result_begins, type_parenthesized_begins, type_named_begins}

-- every alternative of a type makes a row
type_rows : below (λ (k : ℕ). implies (ltb 0 (kind_number type k)) (rowed (nth type (kind_number type k) productions))) classes ≡ true
unfolding below implies and rowed levels nth productions kind_number
type_rows = refl

-- there are seven
type_numbers : below (λ (k : ℕ). leb (kind_number type k) 7) classes ≡ true
unfolding below and kind_number
type_numbers = refl

pub type_few : (k : ℕ) → kind_alternative type k ≤ 7
type_few = few_numbers type 7 type_numbers

-- what stands for an operator is an alternative
pub operator_some : {a count kind : ℕ} → TypeOperator a count kind → 0 < a
operator_some pointer = omega arith
operator_some optional = omega arith
operator_some slice = omega arith
operator_some result = omega arith

module _ (source tokens : List ℕ) (good : Tokens tokens) (e : Names) where
  abbrev v : View
  v = view_of language17 source (rows_of tokens)

  abbrev Under : ℕ → ℕ → ℕ → Makes → ℕ → List Symbol → Step → List ℕ → Step → List ℕ → Type 0
  Under x n below m least ss = After productions v (token_room tokens) e n below m least 0 (derived x ∷ []) ss

  abbrev Part : ℕ → ℕ → ℕ → Step → List ℕ → Step → List ℕ → Type 0
  Part n least x = Reads productions v (token_room tokens) e n least 0 (derived x ∷ [])

  type-choice : (j : ℕ) → choice productions v e type j ≡ nth type (kind_alternative type (kind_of_class (v.class e j))) productions
  type-choice j = type_at v e j (class_low source tokens good e j)

  -- there is none where no type begins
  pub type-none : (j : ℕ) → kind_alternative type (kind_of_class (v.class e j)) ≡ 0 → choice productions v e type j ≡ none
  unfolding nth
  type-none j is = type-choice j ∙ ap (λ (n : ℕ). nth type n productions) is

  -- an alternative that makes a row is begun with its token
  type_begun : {n below : ℕ} (number : ℕ) {m : Makes} {cs : List ℕ} {ss : List Symbol} {s s₀ : Step} {t : List ℕ}
      → nth type number productions ≡ selected (rule_of type m (token cs ∷ ss)) → Begins type number cs
      → kind_alternative type (next_kind tokens s) ≡ number → Within tokens 1 s → n ≡ suc below → levels m ≡ 1
      → s₀ ≡ opened s → Under type n below m 1 ss s t s₀ t
  type_begun number is opens = begun_at source tokens good e type-choice is opens

  -- a mark and so many types
  pub type_operator : {n below a count kind : ℕ} {s s₀ : Step} {t : List ℕ} → TypeOperator a count kind
      → kind_alternative type (next_kind tokens s) ≡ a → Within tokens 1 s → n ≡ suc below → s₀ ≡ opened s
      → Under type n below (gives_row kind) 1 (replicate count (derived type)) s t s₀ t
  unfolding levels
  type_operator pointer begins within level = type_begun 2 type_pointer type_pointer_begins begins within level refl
  type_operator optional begins within level = type_begun 3 type_optional type_optional_begins begins within level refl
  type_operator slice begins within level = type_begun 4 type_slice type_slice_begins begins within level refl
  type_operator result begins within level = type_begun 5 type_result type_result_begins begins within level refl

  -- .. one type, ..
  pub marked_type : {n below a kind : ℕ} {s s₀ s₁ : Step} {t t₁ : List ℕ} → TypeOperator a 1 kind
      → kind_alternative type (next_kind tokens s) ≡ a → Within tokens 1 s → n ≡ suc below → s₀ ≡ opened s
      → Part below 1 type s₀ t s₁ t₁ → Under type n below (gives_row kind) 2 [] s t s₁ t₁
  marked_type mark begins within level to₀ =
      went productions v tokens e (names_fixed source tokens good e) (type_operator mark begins within level to₀)

  -- .. or two
  pub result_type : {n below : ℕ} {s s₀ s₁ s₂ : Step} {t t₁ t₂ : List ℕ} → kind_alternative type (next_kind tokens s) ≡ 5
      → Within tokens 1 s → n ≡ suc below → s₀ ≡ opened s → Part below 1 type s₀ t s₁ t₁ → Part below 1 type s₁ t₁ s₂ t₂
      → Under type n below (gives_row result_row) 3 [] s t s₂ t₂
  result_type begins within level to₀ d₁ =
      let fixed = names_fixed source tokens good e in
      went productions v tokens e fixed (went productions v tokens e fixed (type_operator result begins within level to₀) d₁)

  -- a type of one token
  type_leaf : {n below kind : ℕ} (number : ℕ) {cs : List ℕ} {s r : Step} {t after : List ℕ}
      → nth type number productions ≡ selected (rule_of type (gives_row kind) (token cs ∷ [])) → Begins type number cs
      → kind_alternative type (next_kind tokens s) ≡ number → Within tokens 1 s → n ≡ suc below
      → r ≡ opened s → after ≡ closed kind s (opened s) t
      → Part n 1 type s t r after
  unfolding levels
  type_leaf number is opens begins within level answer table =
      closed_by productions v tokens e (names_fixed source tokens good e) (type_begun number is opens begins within level refl refl)
      (omega arith) answer table

  pub base_type : {n below : ℕ} {s r : Step} {t after : List ℕ} → kind_alternative type (next_kind tokens s) ≡ 1 → Within tokens 1 s
      → n ≡ suc below → r ≡ opened s → after ≡ closed base_type_row s (opened s) t
      → Part n 1 type s t r after
  base_type = type_leaf 1 type_base type_base_begins

  pub named_type : {n below : ℕ} {s r : Step} {t after : List ℕ} → kind_alternative type (next_kind tokens s) ≡ 7 → Within tokens 1 s
      → n ≡ suc below → r ≡ opened s → after ≡ closed named_type_row s (opened s) t
      → Part n 1 type s t r after
  named_type = type_leaf 7 type_named type_named_begins

  -- `(` `@` type type* `)`
  pub function_type : {n below : ℕ} {s s₀ s₁ s₂ s₃ s₄ : Step} {t t₁ t₂ : List ℕ} → kind_alternative type (next_kind tokens s) ≡ 6
      → Within tokens 1 s → n ≡ suc below → s₀ ≡ opened s → eqb (next_kind tokens s₀) at ≡ true → s₁ ≡ taken_kind tokens at s₀
      → Part below 1 type s₁ t s₂ t₁
      → Part below 0 types s₂ t₁ s₃ t₂ → s₄ ≡ taken_kind tokens right_paren s₃
      → Under type n below (gives_row function_type_row) 4 [] s t s₄ t₂
  unfolding levels between and
  function_type {s₀ = s₀} begins within level to₀ is to₁ d₂ d₃ to₄ =
      let fixed = names_fixed source tokens good e in
      let a₀ = type_begun 6 type_parenthesized type_parenthesized_begins begins within level refl to₀ in
      let said = spoken_by source tokens good e
      (rule_of parenthesized (gives_kind function_type_row) (kind_token at ∷ derived type ∷ derived types ∷ kind_token right_paren ∷ [])) a₀
      (λ j k. parenthesized_function_type v e j (class_low source tokens good e j) (k ∙ eqb-true (next_kind tokens s₀) at is)) refl in
      let a₁ = took_mark source tokens good e at said refl to₁ in
      let a₃ = went productions v tokens e fixed (went productions v tokens e fixed a₁ d₂) d₃ in
      took_mark source tokens good e right_paren a₃ refl to₄

  instance_takes : (s : Step) → eqb (next_kind tokens s) at ≡ false → (j : ℕ) → kind_of_class (v.class e j) ≡ next_kind tokens s
      → Takes productions v e parenthesized (rule_of parenthesized (gives_kind instance_row) (token name ∷ token any_word ∷ derived more_words ∷ kind_token
      right_paren ∷ [])) j
  instance_takes s not j k = by (eqb (kind_of_class (v.class e j)) ident) refl
    where
      low : v.class e j < classes
      low = class_low source tokens good e j

      by : (b : Bool) → eqb (kind_of_class (v.class e j)) ident ≡ b
          → Takes productions v e parenthesized (rule_of parenthesized (gives_kind instance_row) (token name ∷ token any_word ∷ derived more_words ∷ kind_token
          right_paren ∷ [])) j
      by true h = takes (parenthesized_instance v e j low (eqb-true _ _ h))
      by false h =
          vain (parenthesized_none v e j low (ap (λ (n : ℕ). eqb n at) k ∙ not) h)
          (barred_token (class-marks source tokens good e ident name name-marks j ∙ h))

  -- `(` IDENT word+ `)`
  pub instance : {n below : ℕ} {s s₀ s₁ s₂ s₃ s₄ : Step} {t : List ℕ} → kind_alternative type (next_kind tokens s) ≡ 6
      → Within tokens 1 s → n ≡ suc below → s₀ ≡ opened s → eqb (next_kind tokens s₀) at ≡ false → s₁ ≡ taken_kind tokens ident s₀
      → s₂ ≡ taken_word tokens true s₁ → Part below 0 more_words s₂ t s₃ t
      → s₄ ≡ taken_kind tokens right_paren s₃ → Under type n below (gives_row instance_row) 4 [] s t s₄ t
  unfolding levels between and
  instance {s₀ = s₀} begins within level to₀ not to₁ to₂ d₃ to₄ =
      let fixed = names_fixed source tokens good e in
      let a₀ = type_begun 6 type_parenthesized type_parenthesized_begins begins within level refl to₀ in
      let said = spoken productions v tokens e fixed a₀
      (λ (j k : ℕ) (is : s₀ ≡ Read j k). instance_takes s₀ not j (reached source tokens good e s₀ j k is)) refl in
      let a₂ = took_word source tokens good e true (took_name source tokens good e said to₁) to₂ in
      took_mark source tokens good e right_paren (went productions v tokens e fixed a₂ d₃) refl to₄

  -- as many types as there are
  pub types_list : IsList source tokens e types type (λ s. begins_part type tokens s)
  types_list =
      list_by source tokens good e
      (λ s j k is read. types_more v e j (class_low source tokens good e j) (begins_there source tokens good e type s is j k read))
      (λ s j k is read. types_done v e j (class_low source tokens good e j) (none_there source tokens good e type s is j k read))

  -- a token that begins no type is refused
  pub type_stuck : {n : ℕ} (s : Step) {t : List ℕ} → kind_alternative type (next_kind tokens s) ≡ 0
      → Part n 1 type s t (refused_at 6 s) t
  unfolding nth
  type_stuck s is = none_stuck source tokens good e s (alternative_is source tokens good e type type-choice s is)

  -- a type is too deep where no level is left
  pub type_deep : {n : ℕ} (s : Step) {t : List ℕ} → (kind_alternative type (next_kind tokens s) ≡ 0 → ⊥) → n ≡ 0
      → Part n 1 type s t (refused_at 7 s) t
  type_deep s some spent =
      row-deep source tokens good e s (nth type (kind_alternative type (next_kind tokens s)) productions) spent
      (some_rowed type 0 type_rows (next_kind tokens s) (pos_of_ne-zero some))
      (alternative_is source tokens good e type type-choice s refl)
