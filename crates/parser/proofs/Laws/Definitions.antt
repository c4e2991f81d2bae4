-- The productions of structs, enums and constants, and of the variants of enums with their payload types, read step by step.
-- Assumes nothing.
use Prim.Native.Nat.{ℕ, zero, suc, ◌<◌, ◌≤◌}
use mathlib.Core.Path.{◌≡◌, refl, ap, ◌∙◌, sym}
use mathlib.Core.Bool.{Bool, true, false, false≢true}
use mathlib.Core.List.{List, [], ◌∷◌}
use native.Mathlib.Omega.{arith}
use lib.Dec.{eqb}
use borrow.Author.Tests.{eqb-true}
use Rattle.lexer.specs.Tests.{and, between}
use Rattle.lexer.specs.internal.Kinds.{ident, bar, tilde, left_brace, right_brace}
use Rattle.lexer.specs.Table.{token_room}
use Rattle.lexer.specs.internal.TokenRows.{rows_of, kind_at}
use Rattle.lexer.proofs.Laws.Tests.{and_left}
use Rattle.tree.specs.internal.RowKinds.{struct_row, enum_row, constant_row, variant_row}
use Rattle.grammar.specs.Grammars.{Condition, query, Symbol, token, derived, when, unless, Makes, gives_row, row_of, gives_kind, no_row, Names}
use Rattle.grammar.specs.Grammars.{View, asked}
use Rattle.grammar.specs.Rows.{levels}
use Rattle.grammar.specs.executable.Reading.{selected, choice}
use Rattle.grammar.specs.internal.Nonterminals.{declaration, definition, mutable, fields, variants, variant, payload_types, type_parameters}
use Rattle.grammar.specs.internal.Nonterminals.{literal, type, struct_parameters}
use Rattle.grammar.specs.internal.Classes.{name}
use Rattle.grammar.specs.Nurl.{productions, plain_name}
use Rattle.grammar.specs.Languages.{language17}
use Rattle.grammar.specs.Sources.{view_of}
use Rattle.grammar.specs.internal.Alternatives.{kind_of_class, kind_alternative, nth}
use Rattle.grammar.specs.internal.Productions.{rule_of, opens_struct, kind_token}
use Rattle.grammar.proofs.Laws.Views.{classes}
use Rattle.grammar.proofs.Laws.Alternatives17.{declaration_definition, definition_struct, definition_enum, definition_constant}
use Rattle.grammar.proofs.Laws.Alternatives17.{definition_constant_tilde, definition_none, mutable_some, mutable_none, variants_more}
use Rattle.grammar.proofs.Laws.Alternatives17.{variants_done, variant_one, payload_types_more, payload_types_done, payload_types_done_plain}
use Rattle.parser.specs.internal.Readings.{Reads}
use Rattle.parser.specs.internal.Steps.{Tokens, Within, next_kind, begins_part, asked_at, AnswersKinds, payload_begins, refused_at}
use Rattle.parser.specs.internal.Steps.{taken_kind, taken_if, opened, row_left}
use Rattle.parser.specs.internal.Steps.{Step}
use Rattle.parser.specs.internal.Steps.{Read, Refused}
use Rattle.parser.proofs.Laws.Gives.{gives_deep, barred_part, barred_condition, barred_skip, Takes, takes, vain}
use Rattle.parser.proofs.Laws.After.{After, begun_part, went, looked, spoken, held, wider, done, deep-at, fewer}
use Rattle.parser.proofs.Laws.After.{list_done, after_within, within_wider}
use Rattle.parser.proofs.Laws.Repeated.{IsList, list_by}
use Rattle.parser.proofs.Laws.Views.{class-kind, class_low, names_fixed}
use Rattle.parser.proofs.Laws.Readers.{taken_fewer, reached, begins_some, begins-none, kind_room, mark_marks, took_mark, took_name}
use Rattle.parser.proofs.Laws.Readers.{spoken_by}
use Rattle.parser.proofs.Laws.Openings.{no_type, declaration_definition_begins}
use Rattle.parser.proofs.Laws.Questions.{struct_opens, plain_next, plain_class}
use Rattle.parser.proofs.Laws.Lists.{struct_list}
use Rattle.parser.proofs.Laws.Loops.{begins_kind}
use Rattle.parser.proofs.Laws.Declarations.{declaration_begun}
use Rattle.parser.proofs.Laws.Options.{took_if}
use Rattle.parser.proofs.Laws.Steps.{asked_here, met_here}
use Rattle.parser.proofs.Laws.Types.{type-none}

-- no token is taken for a row that is left
asked_reserved : (q : Condition) (source tokens : List ℕ) (e : Names) (s : Step)
    → asked_at q source tokens e (row_left s) ≡ asked_at q source tokens e s
unfolding asked_at row_left
asked_reserved q source tokens e (Read at last) = refl
asked_reserved q source tokens e (Refused number place) = refl

module _ (source tokens : List ℕ) (good : Tokens tokens) (e : Names) where
  abbrev v : View
  v = view_of language17 source (rows_of tokens)

  abbrev Under : ℕ → ℕ → ℕ → Makes → ℕ → List Symbol → Step → List ℕ → Step → List ℕ → Type 0
  Under x n below m least ss = After productions v (token_room tokens) e n below m least 0 (derived x ∷ []) ss

  abbrev Part : ℕ → ℕ → ℕ → Step → List ℕ → Step → List ℕ → Type 0
  Part n least x = Reads productions v (token_room tokens) e n least 0 (derived x ∷ [])

  -- `:` is what a definition begins with
  defined : {n below : ℕ} {s s₀ : Step} {t : List ℕ} → kind_alternative declaration (next_kind tokens s) ≡ 4 → Within tokens 1 s
      → n ≡ suc below → s₀ ≡ opened s → Under declaration n below row_of 1 (derived definition ∷ []) s t s₀ t
  unfolding levels
  defined begins within level =
      declaration_begun source tokens good e 4 declaration_definition declaration_definition_begins begins within level refl

  struct_ident : (s : Step) → AnswersKinds (query opens_struct) tokens s true → (j k : ℕ) → s ≡ Read j k → kind_of_class (v.class e j) ≡ ident
  struct_ident s opens j k read =
      class-kind source tokens good e j
      ∙ eqb-true _ _ (and_left _ _ (struct_opens tokens s j k read source e ∙ sym (opens source e)))

  struct_takes : (s : Step) → AnswersKinds (query opens_struct) tokens s true → (j k : ℕ) → s ≡ Read j k
      → Takes productions v e definition (rule_of definition (gives_kind struct_row)
      (when (query opens_struct) ∷ token name ∷ derived struct_parameters ∷ kind_token left_brace ∷ derived fields ∷ kind_token right_brace ∷ [])) j
  unfolding asked
  struct_takes s opens j k read =
      takes (definition_struct v e j (class_low source tokens good e j)
      (asked_here source tokens e (query opens_struct) s true (sym (opens source e)) j k read) (struct_ident s opens j k read))

  -- a struct: `:` IDENT type-parameters? `{` field* `}`
  pub struct : {n below : ℕ} {s s₀ s₁ s₂ s₃ s₄ s₅ : Step} {t t₁ t₂ : List ℕ} → kind_alternative declaration (next_kind tokens s) ≡ 4
      → Within tokens 1 s → n ≡ suc below → s₀ ≡ opened s → AnswersKinds (query opens_struct) tokens s₀ true
      → s₁ ≡ taken_kind tokens ident s₀ → Part below 0 type_parameters s₁ t s₂ t₁ → s₃ ≡ taken_kind tokens left_brace s₂
      → Part below 0 fields s₃ t₁ s₄ t₂ → s₅ ≡ taken_kind tokens right_brace s₄ → Under declaration n below (gives_row struct_row) 4 [] s t s₅ t₂
  unfolding between and
  struct {s₀ = s₀} begins within level to₀ opens to₁ d₂ to₃ d₄ to₅ =
      let fixed = names_fixed source tokens good e in
      let said = spoken productions v tokens e fixed (defined begins within level to₀) (struct_takes s₀ opens) refl in
      let asks = held productions v tokens e fixed said
      (met_here source tokens e (query opens_struct) s₀ true (sym (opens source e))) in
      let list = struct_list source tokens good e d₂ in
      let a₂ = went productions v tokens e fixed (took_name source tokens good e asks to₁) list in
      let a₄ = went productions v tokens e fixed (took_mark source tokens good e left_brace a₂ refl to₃) d₄ in
      took_mark source tokens good e right_brace a₄ refl to₅

  -- an enum: `:` `|` IDENT `{` variant* `}`
  pub enum : {n below : ℕ} {s s₀ s₁ s₂ s₃ s₄ s₅ : Step} {t t₁ : List ℕ} → kind_alternative declaration (next_kind tokens s) ≡ 4
      → Within tokens 1 s → n ≡ suc below → s₀ ≡ opened s → next_kind tokens s₀ ≡ bar → s₁ ≡ taken_kind tokens bar s₀
      → s₂ ≡ taken_kind tokens ident s₁ → s₃ ≡ taken_kind tokens left_brace s₂ → Part below 0 variants s₃ t s₄ t₁
      → s₅ ≡ taken_kind tokens right_brace s₄ → Under declaration n below (gives_row enum_row) 5 [] s t s₅ t₁
  unfolding between and
  enum begins within level to₀ is to₁ to₂ to₃ d₄ to₅ =
      let said = spoken_by source tokens good e
      (rule_of definition (gives_kind enum_row) (kind_token bar ∷ token name ∷ kind_token left_brace ∷ derived variants ∷ kind_token right_brace ∷ []))
      (defined begins within level to₀) (λ j k. definition_enum v e j (class_low source tokens good e j) (k ∙ is)) refl in
      let a₂ = took_name source tokens good e (took_mark source tokens good e bar said refl to₁) to₂ in
      let a₃ = took_mark source tokens good e left_brace a₂ refl to₃ in
      took_mark source tokens good e right_brace (went productions v tokens e (names_fixed source tokens good e) a₃ d₄) refl to₅

  constant_takes : (s : Step) → AnswersKinds (query opens_struct) tokens s false → eqb (next_kind tokens s) bar ≡ false
      → (j k : ℕ) → s ≡ Read j k
      → Takes productions v e definition (rule_of definition (gives_kind constant_row)
      (unless (query opens_struct) ∷ derived mutable ∷ derived type ∷ token name ∷ derived literal ∷ [])) j
  unfolding asked nth
  constant_takes s shut other j k read =
      by (kind_alternative type (kind_of_class (v.class e j))) (eqb (kind_of_class (v.class e j)) tilde) refl refl
    where
      low : v.class e j < classes
      low = class_low source tokens good e j

      closed : v.holds opens_struct j ≡ false
      closed = asked_here source tokens e (query opens_struct) s false (sym (shut source e)) j k read

      by : (a : ℕ) (b : Bool) → kind_alternative type (kind_of_class (v.class e j)) ≡ a → eqb (kind_of_class (v.class e j)) tilde ≡ b
          → Takes productions v e definition (rule_of definition (gives_kind constant_row)
          (unless (query opens_struct) ∷ derived mutable ∷ derived type ∷ token name ∷ derived literal ∷ [])) j
      by (suc a) b h h' = takes (definition_constant v e j low closed h)
      by zero true h h' = takes (definition_constant_tilde v e j low closed (eqb-true _ _ h'))
      by zero false h h' =
          vain (definition_none v e j low closed h h' (ap (λ (n : ℕ). eqb n bar) (reached source tokens good e s j k read) ∙ other))
          (barred_condition (barred_skip (rule_of mutable no_row []) (mutable_none v e j low h') refl refl
          (barred_part (type-none source tokens good e j h))))

  -- a constant: `:` `~`? type IDENT literal
  pub constant : {n below : ℕ} {s s₀ s₁ s₂ s₃ s₄ : Step} {t t₁ t₂ : List ℕ} → kind_alternative declaration (next_kind tokens s) ≡ 4
      → Within tokens 1 s → n ≡ suc below → s₀ ≡ opened s → AnswersKinds (query opens_struct) tokens s₀ false
      → eqb (next_kind tokens s₀) bar ≡ false → s₁ ≡ taken_if tokens tilde s₀ → Part below 1 type s₁ t s₂ t₁
      → s₃ ≡ taken_kind tokens ident s₂ → Part below 1 literal s₃ t₁ s₄ t₂ → Under declaration n below (gives_row constant_row) 4 [] s t s₄ t₂
  unfolding between and
  constant {s₀ = s₀} begins within level to₀ shut other to₁ d₂ to₃ d₄ =
      let fixed = names_fixed source tokens good e in
      let said = spoken productions v tokens e fixed (defined begins within level to₀) (constant_takes s₀ shut other) refl in
      let asks = held productions v tokens e fixed said
      (met_here source tokens e (query opens_struct) s₀ false (sym (shut source e))) in
      let a₁ = took_if source tokens good e tilde (mark_marks tilde refl) (λ j. mutable_some v e j (class_low source tokens good e j))
      (λ j. mutable_none v e j (class_low source tokens good e j)) asks to₁ in
      let a₃ = took_name source tokens good e (went productions v tokens e fixed a₁ d₂) to₃ in
      went productions v tokens e fixed a₃ d₄

  -- rule 4: a name that is not a type name is that of a variant; it is a token of the table
  pub plain_kind : (s : Step) → asked_at plain_name source tokens e s ≡ true → 0 < next_kind tokens s
  unfolding next_kind asked_at
  plain_kind (Read j k) is =
      let is-ident : kind_at tokens j ≡ ident = eqb-true _ _ (and_left _ _ (sym (plain_next tokens (Read j k) j k refl source e) ∙ is)) in
      omega arith
  plain_kind (Refused number place) is = absurd (false≢true is)

  -- as many variants as there are
  pub variants_list : IsList source tokens e variants variant (λ s. asked_at plain_name source tokens e s)
  variants_list =
      list_by source tokens good e
      (λ s j k is read. variants_more v e j (class_low source tokens good e j) (plain_class source tokens e true s is j k read))
      (λ s j k is read. variants_done v e j (class_low source tokens good e j) (plain_class source tokens e false s is j k read))

  -- the name of a variant
  pub variant_named : {n below : ℕ} {s s₀ s₁ : Step} {t : List ℕ} → Within tokens 0 s → n ≡ suc below
      → asked_at plain_name source tokens e s ≡ true → s₀ ≡ row_left s → s₁ ≡ taken_kind tokens ident s₀
      → Under variant n below (gives_row variant_row) 1 (derived payload_types ∷ []) s t s₁ t
  unfolding levels
  variant_named {n} {below} {s} {s₀} {s₁} {t} within level is to₀ to₁ =
      let fixed = names_fixed source tokens good e in
      let wider : 1 ≤ 2 = omega arith in
      let a₀ = begun_part productions v tokens e fixed within level refl (λ (j k : ℕ) (read : s ≡ Read j k).
      variant_one v e j (class_low source tokens good e j) (plain_class source tokens e true s is j k read)) in
      let asks = held productions v tokens e fixed a₀
      (met_here source tokens e plain_name (row_left s) true (asked_reserved plain_name source tokens e s ∙ is)) in
      let a₁ = took_name source tokens good e asks (to₁ ∙ ap (taken_kind tokens ident) to₀) in
      let reach : Within tokens 2 (row_left s) = within_wider tokens (after_within productions v tokens e fixed asks) wider in
      fewer productions v tokens e fixed a₁
      (rw (to₁, to₀) (taken_fewer tokens (λ (j : ℕ). eqb (kind_at tokens j) ident) (kind_room tokens ident (omega arith)) reach))

  -- a variant: IDENT type*
  pub variant_reads : {n below : ℕ} {s s₀ s₁ s₂ : Step} {t t₁ : List ℕ} → Within tokens 0 s → n ≡ suc below
      → asked_at plain_name source tokens e s ≡ true → s₀ ≡ row_left s → s₁ ≡ taken_kind tokens ident s₀ → Part below 0 payload_types s₁ t s₂ t₁
      → Under variant n below (gives_row variant_row) 1 [] s t s₂ t₁
  variant_reads within level is to₀ to₁ d₂ =
      went productions v tokens e (names_fixed source tokens good e) (variant_named within level is to₀ to₁) d₂

  -- a variant is too deep where no level is left
  pub variant_deep : {n : ℕ} (s : Step) {t : List ℕ} → asked_at plain_name source tokens e s ≡ true → n ≡ 0
      → Part n 1 variant s t (refused_at 7 s) t
  unfolding levels
  variant_deep s is spent =
      let fixed = names_fixed source tokens good e in
      rw spent (deep-at productions v tokens e fixed s (λ (j k : ℕ) (read : s ≡ Read j k).
      gives_deep productions v e fixed variant j
      (rule_of variant (gives_row variant_row) (when plain_name ∷ token name ∷ derived payload_types ∷ [])) []
      (variant_one v e j (class_low source tokens good e j) (plain_class source tokens e true s is j k read)) refl))

  payload_both : (s : Step) → payload_begins source tokens e s ≡ true
      → (asked_at plain_name source tokens e s ≡ false) × (begins_part type tokens s ≡ true)
  unfolding payload_begins
  payload_both s is = by (asked_at plain_name source tokens e s) refl
    where
      by : (b : Bool) → asked_at plain_name source tokens e s ≡ b
          → (asked_at plain_name source tokens e s ≡ false) × (begins_part type tokens s ≡ true)
      by true h = absurd (false≢true (rw h at is))
      by false h = (h, rw h at is)

  -- a payload's type begins with a token of the table
  pub payload_kind : (s : Step) → payload_begins source tokens e s ≡ true → 0 < next_kind tokens s
  payload_kind s is = begins_kind type no_type tokens s (payload_both s is).1

  -- as many payload types as there are
  pub payload_types_go : {n below least more : ℕ} {m : Makes} {ts ss : List Symbol} {s s' s'' : Step} {t t' t'' : List ℕ}
      → After productions v (token_room tokens) e n below m least more ts (derived payload_types ∷ ss) s t s' t'
      → payload_begins source tokens e s' ≡ true → Part below 1 type s' t' s'' t''
      → After productions v (token_room tokens) e n below m least more ts (derived payload_types ∷ ss) s t s'' t''
  payload_types_go {s' = s'} a is d =
      let fixed = names_fixed source tokens good e in
      let both = payload_both s' is in
      let next = looked productions v tokens e fixed
      {q = rule_of payload_types no_row (unless plain_name ∷ derived type ∷ derived payload_types ∷ [])} a (λ (j k : ℕ) (read : s' ≡ Read j k).
      takes (payload_types_more v e j (class_low source tokens good e j) (plain_class source tokens e false s' both.0 j k read)
      (ap (kind_alternative type) (reached source tokens good e s' j k read) ∙ begins_some type tokens s' both.1))) refl in
      let asks = held productions v tokens e fixed next (met_here source tokens e plain_name s' false both.0) in
      wider productions v tokens e fixed (went productions v tokens e fixed asks d) (omega arith) (omega arith)

  payload_done : (s : Step) → payload_begins source tokens e s ≡ false → (j k : ℕ) → s ≡ Read j k
      → choice productions v e payload_types j ≡ selected (rule_of payload_types no_row [])
  unfolding payload_begins
  payload_done s is j k read = by (asked_at plain_name source tokens e s) refl
    where
      low : v.class e j < classes
      low = class_low source tokens good e j

      by : (b : Bool) → asked_at plain_name source tokens e s ≡ b
          → choice productions v e payload_types j ≡ selected (rule_of payload_types no_row [])
      by true h = payload_types_done_plain v e j low (plain_class source tokens e true s h j k read)
      by false h =
          payload_types_done v e j low (ap (kind_alternative type) (reached source tokens good e s j k read)
          ∙ begins-none type tokens s (rw h at is))

  pub payload_types_end : {n : ℕ} {s s' : Step} {t t' : List ℕ}
      → After productions v (token_room tokens) e n n no_row 0 0 (derived payload_types ∷ []) (derived payload_types ∷ []) s t s' t'
      → payload_begins source tokens e s' ≡ false → Part n 0 payload_types s t s' t'
  payload_types_end {s' = s'} a is =
      let fixed = names_fixed source tokens good e in
      done productions v tokens e fixed (list_done productions v tokens e fixed a (payload_done s' is))

  pub payload_types_list : IsList source tokens e payload_types type (λ s. payload_begins source tokens e s)
  payload_types_list = record { goes = payload_types_go; ends = payload_types_end }
