-- The productions of functions and methods, and of the traits and implementations that hold them, read step by step. Assumes nothing.
use Prim.Native.Nat.{ℕ, zero, suc, ◌<◌}
use mathlib.Core.Path.{◌≡◌, refl, ap, ◌∙◌}
use mathlib.Core.Bool.{Bool, true, false, not, false≢true}
use mathlib.Core.List.{List, [], ◌∷◌}
use lib.Dec.{eqb}
use borrow.Author.Tests.{eqb-true, not-true, not-false}
use Rattle.lexer.specs.Tests.{and, between, pick}
use Rattle.lexer.specs.internal.Kinds.{ident, at, percent, left_brace, right_brace, arrow}
use Rattle.lexer.specs.Table.{token_room}
use Rattle.lexer.specs.internal.TokenRows.{rows_of}
use Rattle.tree.specs.internal.RowKinds.{trait_row, impl_row, function_row, header_row}
use Rattle.grammar.specs.Grammars.{Symbol, token, derived, Makes, gives_row, row_of, gives_kind, Names, View}
use Rattle.grammar.specs.Rows.{levels}
use Rattle.grammar.specs.executable.Reading.{selected, choice}
use Rattle.grammar.specs.internal.Nonterminals.{declaration, interface, interface_rest, methods, method, body, functions, function}
use Rattle.grammar.specs.internal.Nonterminals.{parameters, type_parameters, block, type}
use Rattle.grammar.specs.internal.Classes.{name}
use Rattle.grammar.specs.Nurl.{productions}
use Rattle.grammar.specs.Languages.{language17}
use Rattle.grammar.specs.Sources.{view_of}
use Rattle.grammar.specs.internal.Alternatives.{kind_of_class, kind_alternative, nth}
use Rattle.grammar.specs.internal.Productions.{rule_of, kind_token}
use Rattle.grammar.proofs.Laws.Checks.{below}
use Rattle.grammar.proofs.Laws.Views.{classes}
use Rattle.grammar.proofs.Laws.Alternatives17.{function_one, functions_more, functions_done, method_one, methods_more, methods_done}
use Rattle.grammar.proofs.Laws.Alternatives17.{body_some, body_none, interface_one, interface_rest_trait, interface_rest_impl}
use Rattle.grammar.proofs.Laws.Alternatives17.{interface_rest_none}
use Rattle.parser.specs.internal.Readings.{Reads}
use Rattle.parser.specs.internal.Steps.{Tokens, Within, next_kind, refused_at, taken_kind, opened}
use Rattle.parser.specs.internal.Steps.{Step}
use Rattle.parser.specs.internal.Steps.{Read}
use Rattle.parser.proofs.Laws.Gives.{barred_part, Takes, takes, vain}
use Rattle.parser.proofs.Laws.After.{After, went, spoken}
use Rattle.parser.proofs.Laws.Repeated.{IsList, list_by}
use Rattle.parser.proofs.Laws.Views.{class_low, names_fixed}
use Rattle.parser.proofs.Laws.Readers.{rowed, reached, begun_mark, row-deep, took_mark, took_name, spoken_by}
use Rattle.parser.proofs.Laws.Declarations.{interface_kind, function_deep}
use Rattle.parser.proofs.Laws.Types.{type-none}

-- what comes after the `@` of a function or a method
abbrev header : List Symbol → List Symbol
header ss = token name ∷ derived type_parameters ∷ derived parameters ∷ kind_token arrow ∷ derived type ∷ ss

module _ (source tokens : List ℕ) (good : Tokens tokens) (e : Names) where
  abbrev v : View
  v = view_of language17 source (rows_of tokens)

  abbrev Under : ℕ → ℕ → ℕ → Makes → ℕ → List Symbol → Step → List ℕ → Step → List ℕ → Type 0
  Under x n below m least ss = After productions v (token_room tokens) e n below m least 0 (derived x ∷ []) ss

  abbrev Part : ℕ → ℕ → ℕ → Step → List ℕ → Step → List ℕ → Type 0
  Part n least x = Reads productions v (token_room tokens) e n least 0 (derived x ∷ [])

  -- `@` IDENT type-parameters? parameter* `→` type
  headed : {n below x : ℕ} {m : Makes} {ss : List Symbol} {s s₀ s₁ s₂ s₃ s₄ s₅ : Step} {t t₁ t₂ t₃ : List ℕ}
      → ((j : ℕ) → kind_of_class (v.class e j) ≡ at → choice productions v e x j ≡ selected (rule_of x m (kind_token at ∷ header ss))) → levels m ≡ 1
      → next_kind tokens s ≡ at → Within tokens 1 s → n ≡ suc below → s₀ ≡ opened s → s₁ ≡ taken_kind tokens ident s₀
      → Part below 0 type_parameters s₁ t s₂ t₁ → Part below 0 parameters s₂ t₁ s₃ t₂ → s₄ ≡ taken_kind tokens arrow s₃
      → Part below 1 type s₄ t₂ s₅ t₃ → Under x n below m 4 ss s t s₅ t₃
  unfolding between and
  headed chosen makes is within level to₀ to₁ d₂ d₃ to₄ d₅ =
      let fixed = names_fixed source tokens good e in
      let a₀ = begun_mark source tokens good e at refl chosen is within level makes to₀ in
      let a₂ = went productions v tokens e fixed (took_name source tokens good e a₀ to₁) d₂ in
      let a₄ = took_mark source tokens good e arrow (went productions v tokens e fixed a₂ d₃) refl to₄ in
      went productions v tokens e fixed a₄ d₅

  -- the header of a function that must have a body, or of one that may be without
  abbrev pub Headed : Bool → ℕ → ℕ → Step → List ℕ → Step → List ℕ → Type 0
  Headed always n below =
      Under (pick always function method) n below (pick always (gives_row function_row) row_of) 4 (derived (pick always block body) ∷ [])

  pub header_reads : (always : Bool) {n below : ℕ} {s s₀ s₁ s₂ s₃ s₄ s₅ : Step} {t t₁ t₂ t₃ : List ℕ}
      → next_kind tokens s ≡ at → Within tokens 1 s → n ≡ suc below → s₀ ≡ opened s → s₁ ≡ taken_kind tokens ident s₀
      → Part below 0 type_parameters s₁ t s₂ t₁ → Part below 0 parameters s₂ t₁ s₃ t₂ → s₄ ≡ taken_kind tokens arrow s₃
      → Part below 1 type s₄ t₂ s₅ t₃ → Headed always n below s t s₅ t₃
  unfolding levels
  header_reads true = headed (λ j. function_one v e j (class_low source tokens good e j)) refl
  header_reads false = headed (λ j. method_one v e j (class_low source tokens good e j)) refl

  -- .. with its body, ..
  pub body_reads : (always : Bool) {n below : ℕ} {s s₅ s₆ : Step} {t t₃ t₄ : List ℕ} → Headed always n below s t s₅ t₃
      → pick always false (not (eqb (next_kind tokens s₅) left_brace)) ≡ false → Part below 1 block s₅ t₃ s₆ t₄
      → Under (pick always function method) n below (gives_row function_row) 5 [] s t s₆ t₄
  body_reads true a brace d = went productions v tokens e (names_fixed source tokens good e) a d
  body_reads false {s₅ = s₅} a brace d =
      let said = spoken_by source tokens good e (rule_of body (gives_kind function_row) (derived block ∷ [])) a
      (λ j k. body_some v e j (class_low source tokens good e j) (ap (λ (n : ℕ). eqb n left_brace) k ∙ not-false _ brace)) refl in
      went productions v tokens e (names_fixed source tokens good e) said d

  -- .. or without
  pub header_ends : (always : Bool) {n below : ℕ} {s s₅ : Step} {t t₃ : List ℕ} → Headed always n below s t s₅ t₃
      → pick always false (not (eqb (next_kind tokens s₅) left_brace)) ≡ true
      → Under (pick always function method) n below (gives_row header_row) 4 [] s t s₅ t₃
  header_ends true a brace = absurd (false≢true brace)
  header_ends false a brace =
      spoken_by source tokens good e (rule_of body (gives_kind header_row) []) a
      (λ j k. body_none v e j (class_low source tokens good e j) (ap (λ (n : ℕ). eqb n left_brace) k ∙ not-true _ brace)) refl

  -- it is too deep where no level is left
  pub header_deep : (always : Bool) {n : ℕ} (s : Step) {t : List ℕ} → next_kind tokens s ≡ at → n ≡ 0
      → Part n 1 (pick always function method) s t (refused_at 7 s) t
  unfolding rowed levels
  header_deep true s is spent = function_deep source tokens good e s is spent
  header_deep false s is spent =
      row-deep source tokens good e s (selected (rule_of method row_of (kind_token at ∷ header (derived body ∷ [])))) spent refl
      (λ j k. method_one v e j (class_low source tokens good e j) (k ∙ is))

  -- as many functions as there are
  functions_list : IsList source tokens e functions function (λ s. eqb (next_kind tokens s) at)
  functions_list =
      list_by source tokens good e
      (λ s j k is read. functions_more v e j (class_low source tokens good e j) (reached source tokens good e s j k read ∙ eqb-true _ _ is))
      (λ s j k is read. functions_done v e j (class_low source tokens good e j) (ap (λ (n : ℕ). eqb n at) (reached source tokens good e s j k read) ∙ is))

  -- .. and of methods
  methods_list : IsList source tokens e methods method (λ s. eqb (next_kind tokens s) at)
  methods_list =
      list_by source tokens good e
      (λ s j k is read. methods_more v e j (class_low source tokens good e j) (reached source tokens good e s j k read ∙ eqb-true _ _ is))
      (λ s j k is read. methods_done v e j (class_low source tokens good e j) (ap (λ (n : ℕ). eqb n at) (reached source tokens good e s j k read) ∙ is))

  -- .. and of either
  pub bodied_list : (always : Bool) → IsList source tokens e (pick always functions methods) (pick always function method)
      (λ s. eqb (next_kind tokens s) at)
  bodied_list true = functions_list
  bodied_list false = methods_list

  -- what a trait and an implementation begin with: `%` IDENT type-parameters?
  abbrev pub Interfaced : ℕ → ℕ → Step → List ℕ → Step → List ℕ → Type 0
  Interfaced n below = Under interface n below row_of 2 (derived interface_rest ∷ [])

  pub interfaced : {n below : ℕ} {s s₀ s₁ s₂ : Step} {t t₁ : List ℕ} → kind_alternative declaration (next_kind tokens s) ≡ 5
      → Within tokens 1 s → n ≡ suc below → s₀ ≡ opened s → s₁ ≡ taken_kind tokens ident s₀ → Part below 0 type_parameters s₁ t s₂ t₁
      → Interfaced n below s t s₂ t₁
  unfolding levels between and
  interfaced begins within level to₀ to₁ d₂ =
      let a₀ = begun_mark source tokens good e percent refl (λ j. interface_one v e j (class_low source tokens good e j))
      (interface_kind _ begins) within level refl to₀ in
      went productions v tokens e (names_fixed source tokens good e) (took_name source tokens good e a₀ to₁) d₂

  -- a trait goes on by `{` method* `}`
  pub trait : {n below : ℕ} {s s₂ s₃ s₄ s₅ : Step} {t t₁ t₂ : List ℕ} → Interfaced n below s t s₂ t₁
      → eqb (next_kind tokens s₂) left_brace ≡ true → s₃ ≡ taken_kind tokens left_brace s₂ → Part below 0 methods s₃ t₁ s₄ t₂
      → s₅ ≡ taken_kind tokens right_brace s₄ → Under interface n below (gives_row trait_row) 4 [] s t s₅ t₂
  unfolding between and
  trait a₂ brace to₃ d₄ to₅ =
      let said = spoken_by source tokens good e
      (rule_of interface_rest (gives_kind trait_row) (kind_token left_brace ∷ derived methods ∷ kind_token right_brace ∷ [])) a₂
      (λ j k. interface_rest_trait v e j (class_low source tokens good e j) (k ∙ eqb-true _ _ brace)) refl in
      let a₃ = took_mark source tokens good e left_brace said refl to₃ in
      let a₄ = went productions v tokens e (names_fixed source tokens good e) a₃ d₄ in
      took_mark source tokens good e right_brace a₄ refl to₅

  impl_takes : (s : Step) → eqb (next_kind tokens s) left_brace ≡ false → (j : ℕ) → kind_of_class (v.class e j) ≡ next_kind tokens s
      → Takes productions v e interface_rest
      (rule_of interface_rest (gives_kind impl_row) (derived type ∷ kind_token left_brace ∷ derived functions ∷ kind_token right_brace ∷ [])) j
  unfolding nth
  impl_takes s brace j k = by (kind_alternative type (kind_of_class (v.class e j))) refl
    where
      low : v.class e j < classes
      low = class_low source tokens good e j

      by : (a : ℕ) → kind_alternative type (kind_of_class (v.class e j)) ≡ a
          → Takes productions v e interface_rest
          (rule_of interface_rest (gives_kind impl_row) (derived type ∷ kind_token left_brace ∷ derived functions ∷ kind_token right_brace ∷ [])) j
      by zero h =
          vain (interface_rest_none v e j low (ap (λ (n : ℕ). eqb n left_brace) k ∙ brace) h)
          (barred_part (type-none source tokens good e j h))
      by (suc a) h = takes (interface_rest_impl v e j low h)

  -- an implementation goes on by type `{` function* `}`
  pub impl : {n below : ℕ} {s s₂ s₃ s₄ s₅ s₆ : Step} {t t₁ t₂ t₃ : List ℕ} → Interfaced n below s t s₂ t₁
      → eqb (next_kind tokens s₂) left_brace ≡ false → Part below 1 type s₂ t₁ s₃ t₂ → s₄ ≡ taken_kind tokens left_brace s₃
      → Part below 0 functions s₄ t₂ s₅ t₃ → s₆ ≡ taken_kind tokens right_brace s₅ → Under interface n below (gives_row impl_row) 5 [] s t s₆ t₃
  unfolding between and
  impl {s₂ = s₂} a₂ brace d₃ to₄ d₅ to₆ =
      let fixed = names_fixed source tokens good e in
      let said = spoken productions v tokens e fixed a₂
      (λ (j k : ℕ) (is : s₂ ≡ Read j k). impl_takes s₂ brace j (reached source tokens good e s₂ j k is)) refl in
      let a₄ = took_mark source tokens good e left_brace (went productions v tokens e fixed said d₃) refl to₄ in
      took_mark source tokens good e right_brace (went productions v tokens e fixed a₄ d₅) refl to₆
