-- The productions of declarations, and of imports and foreign functions among them, read step by step. Assumes nothing.
use Prim.Native.Nat.{ℕ, zero, suc, ◌≤◌}
use mathlib.Core.Path.{◌≡◌, refl, ◌∙◌}
use mathlib.Core.Bool.{true, false}
use mathlib.Core.List.{List, [], ◌∷◌}
use native.Mathlib.Omega.{arith}
use lib.Dec.{eqb, leb}
use borrow.Author.Tests.{eqb-true, eq-eqb}
use Rattle.lexer.specs.Tests.{and, between}
use Rattle.lexer.specs.internal.Kinds.{ident, string, at, percent, arrow}
use Rattle.lexer.specs.Table.{token_room}
use Rattle.lexer.specs.internal.TokenRows.{rows_of}
use Rattle.tree.specs.internal.RowKinds.{import_row, foreign_row, function_row}
use Rattle.grammar.specs.Grammars.{Symbol, token, derived, Makes, gives_row, row_of, Names, View}
use Rattle.grammar.specs.Rows.{levels}
use Rattle.grammar.specs.executable.Reading.{selected, choice}
use Rattle.grammar.specs.internal.Nonterminals.{declarations, declaration, interface, interface_rest, function, fields, type_parameters}
use Rattle.grammar.specs.internal.Nonterminals.{parameters, type, block}
use Rattle.grammar.specs.internal.Classes.{name}
use Rattle.grammar.specs.Nurl.{productions}
use Rattle.grammar.specs.Languages.{language17}
use Rattle.grammar.specs.Sources.{view_of}
use Rattle.grammar.specs.internal.Alternatives.{kind_of_class, kind_alternative, nth}
use Rattle.grammar.specs.internal.Productions.{rule_of, kind_token}
use Rattle.grammar.proofs.Laws.Checks.{below, implies}
use Rattle.grammar.proofs.Laws.CheckLaws.{implies_true}
use Rattle.grammar.proofs.Laws.Views.{classes}
use Rattle.grammar.proofs.Laws.Groups17.{kind_number}
use Rattle.grammar.proofs.Laws.Alternatives17.{declaration_at, declaration_import, declaration_foreign, declaration_function}
use Rattle.grammar.proofs.Laws.Alternatives17.{declaration_interface, declarations_more, declarations_done, alias_some, alias_none}
use Rattle.grammar.proofs.Laws.Alternatives17.{function_one, interface_one}
use Rattle.parser.specs.internal.Readings.{Reads}
use Rattle.parser.specs.internal.Steps.{Tokens, Within, next_kind, begins_part, refused_at, taken_kind, taken_if, opened}
use Rattle.parser.specs.internal.Steps.{Step}
use Rattle.parser.specs.internal.Steps.{Read}
use Rattle.parser.proofs.Laws.After.{After, went, list_more, list_done}
use Rattle.parser.proofs.Laws.Views.{class_low, names_fixed}
use Rattle.parser.proofs.Laws.Readers.{few_numbers, rowed, begun_at, none_stuck, row-deep, name-marks, took_mark, took_name}
use Rattle.parser.proofs.Laws.Readers.{alternative_shows, begins_there, none_there, alternative_is, passes_on}
use Rattle.parser.proofs.Laws.Openings.{Begins, declaration_import_begins, declaration_foreign_begins}
use Rattle.parser.proofs.Laws.Options.{took_if}

-- there are five alternatives of a declaration
declaration_numbers : below (λ (k : ℕ). leb (kind_number declaration k) 5) classes ≡ true
unfolding below and kind_number
declaration_numbers = refl

pub declaration_few : (k : ℕ) → kind_alternative declaration k ≤ 5
declaration_few = few_numbers declaration 5 declaration_numbers

-- the third begins with `@`, ..
functions17 : below (λ (k : ℕ). implies (eqb (kind_number declaration k) 3) (eqb k at)) classes ≡ true
unfolding below implies and kind_number
functions17 = refl

pub function_kind : (k : ℕ) → kind_alternative declaration k ≡ 3 → k ≡ at
unfolding implies
function_kind k is =
    eqb-true k at (implies_true (eqb (kind_alternative declaration k) 3) _
    (alternative_shows declaration (λ (k n : ℕ). implies (eqb n 3) (eqb k at)) functions17 (λ (k : ℕ). refl) k)
    (eq-eqb (kind_alternative declaration k) 3 is))

-- .. and the fifth with `%`
interfaces17 : below (λ (k : ℕ). implies (eqb (kind_number declaration k) 5) (eqb k percent)) classes ≡ true
unfolding below implies and kind_number
interfaces17 = refl

pub interface_kind : (k : ℕ) → kind_alternative declaration k ≡ 5 → k ≡ percent
unfolding implies
interface_kind k is =
    eqb-true k percent (implies_true (eqb (kind_alternative declaration k) 5) _
    (alternative_shows declaration (λ (k n : ℕ). implies (eqb n 5) (eqb k percent)) interfaces17 (λ (k : ℕ). refl) k)
    (eq-eqb (kind_alternative declaration k) 5 is))

module _ (source tokens : List ℕ) (good : Tokens tokens) (e : Names) where
  abbrev v : View
  v = view_of language17 source (rows_of tokens)

  abbrev Under : ℕ → ℕ → ℕ → Makes → ℕ → List Symbol → Step → List ℕ → Step → List ℕ → Type 0
  Under x n below m least ss = After productions v (token_room tokens) e n below m least 0 (derived x ∷ []) ss

  abbrev Part : ℕ → ℕ → ℕ → Step → List ℕ → Step → List ℕ → Type 0
  Part n least x = Reads productions v (token_room tokens) e n least 0 (derived x ∷ [])

  declaration-choice : (j : ℕ)
      → choice productions v e declaration j ≡ nth declaration (kind_alternative declaration (kind_of_class (v.class e j))) productions
  declaration-choice j = declaration_at v e j (class_low source tokens good e j)

  -- an alternative that makes a row is begun with its token
  pub declaration_begun : {n below : ℕ} (number : ℕ) {m : Makes} {cs : List ℕ} {ss : List Symbol} {s s₀ : Step} {t : List ℕ}
      → nth declaration number productions ≡ selected (rule_of declaration m (token cs ∷ ss)) → Begins declaration number cs
      → kind_alternative declaration (next_kind tokens s) ≡ number → Within tokens 1 s → n ≡ suc below → levels m ≡ 1
      → s₀ ≡ opened s → Under declaration n below m 1 ss s t s₀ t
  declaration_begun number is opens = begun_at source tokens good e declaration-choice is opens

  -- a function is a declaration, ..
  pub function_declares : {n : ℕ} {s s' : Step} {t t' : List ℕ} → kind_alternative declaration (next_kind tokens s) ≡ 3
      → Within tokens 1 s → Part n 1 function s t s' t' → Part n 1 declaration s t s' t'
  function_declares = passes_on source tokens good e declaration declaration-choice declaration_function

  -- .. and so are a trait and an implementation
  pub interface_declares : {n : ℕ} {s s' : Step} {t t' : List ℕ} → kind_alternative declaration (next_kind tokens s) ≡ 5
      → Within tokens 1 s → Part n 1 interface s t s' t' → Part n 1 declaration s t s' t'
  interface_declares = passes_on source tokens good e declaration declaration-choice declaration_interface

  -- a token that begins no declaration is refused
  pub declaration_stuck : {n : ℕ} (s : Step) {t : List ℕ} → kind_alternative declaration (next_kind tokens s) ≡ 0
      → Part n 1 declaration s t (refused_at 6 s) t
  unfolding nth
  declaration_stuck s is = none_stuck source tokens good e s (alternative_is source tokens good e declaration declaration-choice s is)

  -- functions are too deep where no level is left, ..
  pub function_deep : {n : ℕ} (s : Step) {t : List ℕ} → next_kind tokens s ≡ at → n ≡ 0 → Part n 1 function s t (refused_at 7 s) t
  unfolding rowed levels
  function_deep s is spent =
      row-deep source tokens good e s
      (selected (rule_of function (gives_row function_row) (kind_token at ∷ token name ∷ derived type_parameters ∷ derived parameters ∷ kind_token arrow
      ∷ derived type ∷ derived block ∷ []))) spent refl (λ j k. function_one v e j (class_low source tokens good e j) (k ∙ is))

  -- .. and so are traits and implementations, ..
  interface_deep : {n : ℕ} (s : Step) {t : List ℕ} → next_kind tokens s ≡ percent → n ≡ 0 → Part n 1 interface s t (refused_at 7 s) t
  unfolding rowed levels
  interface_deep s is spent =
      row-deep source tokens good e s
      (selected (rule_of interface row_of (kind_token percent ∷ token name ∷ derived type_parameters ∷ derived interface_rest ∷ []))) spent refl
      (λ j k. interface_one v e j (class_low source tokens good e j) (k ∙ is))

  -- .. and every declaration
  pub declaration_deep : {n : ℕ} (s : Step) {t : List ℕ} → (kind_alternative declaration (next_kind tokens s) ≡ 0 → ⊥)
      → Within tokens 1 s → n ≡ 0 → Part n 1 declaration s t (refused_at 7 s) t
  unfolding rowed levels nth productions
  declaration_deep {n} s {t} some within spent = by (kind_alternative declaration (next_kind tokens s)) refl
    where
      rows : (number : ℕ) → kind_alternative declaration (next_kind tokens s) ≡ number
          → rowed (nth declaration number productions) ≡ true → Part n 1 declaration s t (refused_at 7 s) t
      rows number is makes =
          row-deep source tokens good e s (nth declaration number productions) spent makes
          (alternative_is source tokens good e declaration declaration-choice s is)

      by : (number : ℕ) → kind_alternative declaration (next_kind tokens s) ≡ number → Part n 1 declaration s t (refused_at 7 s) t
      by zero is = absurd (some is)
      by (suc zero) is = rows 1 is refl
      by (suc (suc zero)) is = rows 2 is refl
      by (suc (suc (suc zero))) is = function_declares is within (function_deep s (function_kind (next_kind tokens s) is) spent)
      by (suc (suc (suc (suc zero)))) is = rows 4 is refl
      by (suc (suc (suc (suc (suc zero))))) is =
          interface_declares is within (interface_deep s (interface_kind (next_kind tokens s) is) spent)
      by (suc (suc (suc (suc (suc (suc number)))))) is = let few = declaration_few (next_kind tokens s) in absurd (omega arith)

  -- `$` STRING IDENT?
  pub import : {n below : ℕ} {s s₀ s₁ s₂ : Step} {t : List ℕ} → kind_alternative declaration (next_kind tokens s) ≡ 1
      → Within tokens 1 s → n ≡ suc below → s₀ ≡ opened s → s₁ ≡ taken_kind tokens string s₀ → s₂ ≡ taken_if tokens ident s₁
      → Under declaration n below (gives_row import_row) 2 [] s t s₂ t
  unfolding levels between and
  import begins within level to₀ to₁ to₂ =
      let a₀ = declaration_begun 1 declaration_import declaration_import_begins begins within level refl to₀ in
      took_if source tokens good e ident name-marks (λ j. alias_some v e j (class_low source tokens good e j))
      (λ j. alias_none v e j (class_low source tokens good e j)) (took_mark source tokens good e string a₀ refl to₁) to₂

  -- `&` STRING `@` IDENT field* `→` type
  pub foreign : {n below : ℕ} {s s₀ s₁ s₂ s₃ s₄ s₅ s₆ : Step} {t t₁ t₂ : List ℕ}
      → kind_alternative declaration (next_kind tokens s) ≡ 2 → Within tokens 1 s → n ≡ suc below → s₀ ≡ opened s
      → s₁ ≡ taken_kind tokens string s₀ → s₂ ≡ taken_kind tokens at s₁ → s₃ ≡ taken_kind tokens ident s₂ → Part below 0 fields s₃ t s₄ t₁
      → s₅ ≡ taken_kind tokens arrow s₄ → Part below 1 type s₅ t₁ s₆ t₂ → Under declaration n below (gives_row foreign_row) 6 [] s t s₆ t₂
  unfolding levels between and
  foreign begins within level to₀ to₁ to₂ to₃ d₄ to₅ d₆ =
      let fixed = names_fixed source tokens good e in
      let a₀ = declaration_begun 2 declaration_foreign declaration_foreign_begins begins within level refl to₀ in
      let a₂ = took_mark source tokens good e at (took_mark source tokens good e string a₀ refl to₁) refl to₂ in
      let a₄ = went productions v tokens e fixed (took_name source tokens good e a₂ to₃) d₄ in
      went productions v tokens e fixed (took_mark source tokens good e arrow a₄ refl to₅) d₆

  -- as many declarations as there are
  pub declarations_go : {n below least more : ℕ} {m : Makes} {ts ss : List Symbol} {s s' s'' : Step} {t t' t'' : List ℕ}
      → After productions v (token_room tokens) e n below m least more ts (derived declarations ∷ ss) s t s' t'
      → begins_part declaration tokens s' ≡ true → Part below 1 declaration s' t' s'' t''
      → After productions v (token_room tokens) e n below m least more ts (derived declarations ∷ ss) s t s'' t''
  declarations_go {s' = s'} a is =
      list_more productions v tokens e (names_fixed source tokens good e) a (λ (j k : ℕ) (read : s' ≡ Read j k).
      declarations_more v e j (class_low source tokens good e j)
      (begins_there source tokens good e declaration s' is j k read))

  pub declarations_end : {n below least more : ℕ} {m : Makes} {ts ss : List Symbol} {s s' : Step} {t t' : List ℕ}
      → After productions v (token_room tokens) e n below m least more ts (derived declarations ∷ ss) s t s' t'
      → begins_part declaration tokens s' ≡ false → After productions v (token_room tokens) e n below m least more ts ss s t s' t'
  declarations_end {s' = s'} a is =
      list_done productions v tokens e (names_fixed source tokens good e) a (λ (j k : ℕ) (read : s' ≡ Read j k).
      declarations_done v e j (class_low source tokens good e j)
      (none_there source tokens good e declaration s' is j k read))
