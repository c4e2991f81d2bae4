-- The productions of parameters and of fields, read step by step. Assumes nothing.
use Prim.Native.Nat.{ℕ, suc, ◌-◌, ◌≤◌}
use native.Mathlib.Omega.{arith}
use mathlib.Core.Path.{◌≡◌, refl, ap, ◌∙◌}
use mathlib.Core.Bool.{Bool, true, false}
use mathlib.Core.List.{List, [], ◌∷◌}
use lib.Dec.{eqb}
use Rattle.lexer.specs.Tests.{pick}
use Rattle.lexer.specs.internal.Kinds.{ident}
use Rattle.lexer.specs.Table.{token_room}
use Rattle.lexer.specs.internal.TokenRows.{rows_of}
use Rattle.tree.specs.internal.RowKinds.{parameter_row}
use Rattle.grammar.specs.Grammars.{Symbol, token, derived, unless, Makes, gives_row, no_row, Names, View}
use Rattle.grammar.specs.Rows.{levels}
use Rattle.grammar.specs.executable.Reading.{selected, choice}
use Rattle.grammar.specs.internal.Nonterminals.{type, parameters, parameter, fields, field, field_name}
use Rattle.grammar.specs.internal.Classes.{name}
use Rattle.grammar.specs.Nurl.{productions, any_name}
use Rattle.grammar.specs.internal.Productions.{rule_of}
use Rattle.grammar.specs.Languages.{language17}
use Rattle.grammar.specs.Sources.{view_of}
use Rattle.grammar.specs.internal.Alternatives.{kind_of_class, kind_alternative}
use Rattle.grammar.proofs.Laws.Alternatives17.{parameters_more, parameters_done, fields_more, fields_done, parameter_one, field_one}
use Rattle.grammar.proofs.Laws.Alternatives17.{field_name_some, field_name_none}
use Rattle.parser.specs.internal.Readings.{Reads}
use Rattle.parser.specs.internal.Steps.{Tokens, Within, next_kind, begins_part, refused_at, taken_by, taken_kind, taken_if, row_left}
use Rattle.parser.specs.internal.Steps.{Step}
use Rattle.parser.specs.internal.Steps.{Read, Refused}
use Rattle.parser.proofs.Laws.After.{After, begun_part, went, held}
use Rattle.parser.proofs.Laws.Repeated.{IsList, list_by}
use Rattle.parser.proofs.Laws.Views.{class_low, names_fixed}
use Rattle.parser.proofs.Laws.Readers.{name-marks, begins_some, rowed, reached, row-deep, took_name, looked_by, begins_there}
use Rattle.parser.proofs.Laws.Readers.{none_there}
use Rattle.parser.proofs.Laws.Options.{took_where, kind-met}

-- after a refusal no name is taken
pub unnamed : (always : Bool) (tokens : List ℕ) {number place : ℕ}
    → Refused number place ≡ pick always (taken_kind tokens ident (Refused number place)) (taken_if tokens ident (Refused number place))
unfolding taken_by taken_if
unnamed true tokens = refl
unnamed false tokens = refl

-- either takes a token
pub named_least : (always : Bool) → 1 ≤ pick always 2 1
named_least true = omega arith
named_least false = omega arith

module _ (source tokens : List ℕ) (good : Tokens tokens) (e : Names) where
  abbrev v : View
  v = view_of language17 source (rows_of tokens)

  abbrev Under : ℕ → ℕ → ℕ → Makes → ℕ → List Symbol → Step → List ℕ → Step → List ℕ → Type 0
  Under x n below m least ss = After productions v (token_room tokens) e n below m least 0 (derived x ∷ []) ss

  abbrev Part : ℕ → ℕ → ℕ → Step → List ℕ → Step → List ℕ → Type 0
  Part n least x = Reads productions v (token_room tokens) e n least 0 (derived x ∷ [])

  -- a type has an alternative where one begins
  some_type : (s : Step) → begins_part type tokens s ≡ true → (j : ℕ) → kind_of_class (v.class e j) ≡ next_kind tokens s
      → kind_alternative type (kind_of_class (v.class e j)) ≡ suc (kind_alternative type (next_kind tokens s) - 1)
  some_type s is j k = ap (kind_alternative type) k ∙ begins_some type tokens s is

  parameter-is : (s : Step) → begins_part type tokens s ≡ true → (j : ℕ) → kind_of_class (v.class e j) ≡ next_kind tokens s
      → choice productions v e parameter j ≡ selected (rule_of parameter (gives_row parameter_row) (derived type ∷ token name ∷ []))
  parameter-is s is j k = parameter_one v e j (class_low source tokens good e j) (some_type s is j k)

  field_is : (s : Step) → begins_part type tokens s ≡ true → (j : ℕ) → kind_of_class (v.class e j) ≡ next_kind tokens s
      → choice productions v e field j ≡ selected (rule_of field (gives_row parameter_row) (derived type ∷ derived field_name ∷ []))
  field_is s is j k = field_one v e j (class_low source tokens good e j) (some_type s is j k)

  -- type IDENT
  pub parameter-read : {n below : ℕ} {s s₀ s₁ s₂ : Step} {t t₁ : List ℕ} → begins_part type tokens s ≡ true → Within tokens 0 s
      → n ≡ suc below → s₀ ≡ row_left s → Part below 1 type s₀ t s₁ t₁
      → s₂ ≡ taken_kind tokens ident s₁
      → Under parameter n below (gives_row parameter_row) 2 [] s t s₂ t₁
  unfolding levels
  parameter-read {n} {below} {s} {s₀} {t = t} is within level to₀ d₁ to₂ =
      let fixed = names_fixed source tokens good e in
      let a₀ : After productions v (token_room tokens) e n below (gives_row parameter_row) 0 1 (derived parameter ∷ [])
      (derived type ∷ token name ∷ []) s t s₀ t =
      rw to₀ (begun_part productions v tokens e fixed within level refl
      (λ (i r : ℕ) (at : s ≡ Read i r). parameter-is s is i (reached source tokens good e s i r at))) in
      took_name source tokens good e (went productions v tokens e fixed a₀ d₁) to₂

  -- .. too deep where no level is left
  pub parameter_deep : {n : ℕ} (s : Step) {t : List ℕ} → begins_part type tokens s ≡ true → n ≡ 0
      → Part n 1 parameter s t (refused_at 7 s) t
  unfolding rowed levels
  parameter_deep s is spent =
      row-deep source tokens good e s (selected (rule_of parameter (gives_row parameter_row) (derived type ∷ token name ∷ []))) spent refl
      (parameter-is s is)

  -- IDENT?
  field_name_lem : {n below least more : ℕ} {m : Makes} {ts ss : List Symbol} {s s' s'' : Step} {t t' : List ℕ}
      → After productions v (token_room tokens) e n below m least more ts (derived field_name ∷ ss) s t s' t' → s'' ≡ taken_if tokens ident s'
      → After productions v (token_room tokens) e n below m least more ts ss s t s'' t'
  field_name_lem {s' = s'} a =
      took_where source tokens good e ident name-marks
      (λ (h : eqb (next_kind tokens s') ident ≡ true). looked_by source tokens good e (rule_of field_name no_row (token name ∷ [])) a
      (λ (j : ℕ) (k : kind_of_class (v.class e j) ≡ next_kind tokens s').
      field_name_some v e j (class_low source tokens good e j) (ap (λ (n : ℕ). eqb n ident) k ∙ h)) refl)
      (λ (h : eqb (next_kind tokens s') ident ≡ false). held productions v tokens e (names_fixed source tokens good e)
      (looked_by source tokens good e (rule_of field_name no_row (unless any_name ∷ [])) a
      (λ (j : ℕ) (k : kind_of_class (v.class e j) ≡ next_kind tokens s').
      field_name_none v e j (class_low source tokens good e j) (ap (λ (n : ℕ). eqb n ident) k ∙ h)) refl)
      (λ (j k : ℕ) (read : s' ≡ Read j k).
      kind-met source tokens good e ident name false j name-marks
      (ap (λ (n : ℕ). eqb n ident) (reached source tokens good e s' j k read) ∙ h)))

  -- type IDENT?
  pub field-read : {n below : ℕ} {s s₀ s₁ s₂ : Step} {t t₁ : List ℕ} → begins_part type tokens s ≡ true → Within tokens 0 s
      → n ≡ suc below → s₀ ≡ row_left s → Part below 1 type s₀ t s₁ t₁
      → s₂ ≡ taken_if tokens ident s₁
      → Under field n below (gives_row parameter_row) 1 [] s t s₂ t₁
  unfolding levels
  field-read {n} {below} {s} {s₀} {t = t} is within level to₀ d₁ to₂ =
      let fixed = names_fixed source tokens good e in
      let a₀ : After productions v (token_room tokens) e n below (gives_row parameter_row) 0 1 (derived field ∷ [])
      (derived type ∷ derived field_name ∷ []) s t s₀ t =
      rw to₀ (begun_part productions v tokens e fixed within level refl
      (λ (i r : ℕ) (at : s ≡ Read i r). field_is s is i (reached source tokens good e s i r at))) in
      field_name_lem (went productions v tokens e fixed a₀ d₁) to₂

  -- .. too deep where no level is left
  pub field_deep : {n : ℕ} (s : Step) {t : List ℕ} → begins_part type tokens s ≡ true → n ≡ 0
      → Part n 1 field s t (refused_at 7 s) t
  unfolding rowed levels
  field_deep s is spent =
      row-deep source tokens good e s (selected (rule_of field (gives_row parameter_row) (derived type ∷ derived field_name ∷ []))) spent refl
      (field_is s is)

  -- type IDENT or type IDENT?
  pub named-read : (always : Bool) {n below : ℕ} {s s₀ s₁ s₂ : Step} {t t₁ : List ℕ} → begins_part type tokens s ≡ true → Within tokens 0 s
      → n ≡ suc below → s₀ ≡ row_left s → Part below 1 type s₀ t s₁ t₁
      → s₂ ≡ pick always (taken_kind tokens ident s₁) (taken_if tokens ident s₁)
      → Under (pick always parameter field) n below (gives_row parameter_row) (pick always 2 1) [] s t s₂ t₁
  named-read true = parameter-read
  named-read false = field-read

  -- .. too deep where no level is left
  pub named_deep : (always : Bool) {n : ℕ} (s : Step) {t : List ℕ} → begins_part type tokens s ≡ true → n ≡ 0
      → Part n 1 (pick always parameter field) s t (refused_at 7 s) t
  named_deep true = parameter_deep
  named_deep false = field_deep

  -- as many parameters as there are
  parameters_list : IsList source tokens e parameters parameter (λ s. begins_part type tokens s)
  parameters_list =
      list_by source tokens good e
      (λ s j k is read. parameters_more v e j (class_low source tokens good e j) (begins_there source tokens good e type s is j k read))
      (λ s j k is read. parameters_done v e j (class_low source tokens good e j) (none_there source tokens good e type s is j k read))

  -- as many fields as there are
  fields_list : IsList source tokens e fields field (λ s. begins_part type tokens s)
  fields_list =
      list_by source tokens good e
      (λ s j k is read. fields_more v e j (class_low source tokens good e j) (begins_there source tokens good e type s is j k read))
      (λ s j k is read. fields_done v e j (class_low source tokens good e j) (none_there source tokens good e type s is j k read))

  -- .. and of either
  pub named_list : (always : Bool) → IsList source tokens e (pick always parameters fields) (pick always parameter field)
      (λ s. begins_part type tokens s)
  named_list true = parameters_list
  named_list false = fields_list
