-- The productions of bracketed lists of words, and of such a list where one is opened, read step by step. Assumes nothing.
use Prim.Native.Nat.{ℕ, zero, suc, ◌+◌, ◌<◌}
use mathlib.Core.Path.{◌≡◌, refl, ◌∙◌, sym}
use mathlib.Core.Bool.{Bool, true, false}
use mathlib.Core.List.{List, [], ◌∷◌}
use native.Mathlib.Omega.{arith}
use lib.Dec.{eqb}
use borrow.Author.Tests.{eqb-true, eqb-false}
use Rattle.lexer.specs.Tests.{and, between, pick}
use Rattle.lexer.specs.internal.Kinds.{left_bracket, right_bracket}
use Rattle.lexer.specs.Table.{token_room}
use Rattle.lexer.specs.internal.TokenRows.{rows_of, kind_at}
use Rattle.tree.specs.internal.RowKinds.{list_row}
use Rattle.grammar.specs.Grammars.{Symbol, token, derived, condition, when, unless, query, gives_row, no_row, Names, View, asked, met}
use Rattle.grammar.specs.Rows.{levels}
use Rattle.grammar.specs.executable.Reading.{Outcome, selected, descend, enter, read_within}
use Rattle.grammar.specs.internal.Nonterminals.{more_names, more_words, name_list, word_list, type_parameters, type_arguments, struct_parameters}
use Rattle.grammar.specs.internal.Classes.{any_word, declared_word}
use Rattle.grammar.specs.Questions.{answer_to}
use Rattle.grammar.specs.Nurl.{productions, questions17}
use Rattle.grammar.specs.Languages.{language17, view}
use Rattle.grammar.specs.Sources.{view_of}
use Rattle.grammar.specs.internal.Alternatives.{kind_of_class}
use Rattle.grammar.specs.internal.Productions.{rule_of, opens_names, opens_words, opens_struct_names, kind_token}
use Rattle.grammar.proofs.Laws.Alternatives17.{name_list_one, word_list_one, type_parameters_some, type_parameters_none, type_arguments_some}
use Rattle.grammar.proofs.Laws.Alternatives17.{type_arguments_none, struct_parameters_some, struct_parameters_none}
use Rattle.grammar.proofs.Laws.Views.{classes}
use Rattle.parser.specs.internal.Readings.{Gives, Reads, read, refused6, refused7, refused_before}
use Rattle.parser.specs.internal.Steps.{Tokens, Within, next_kind, asked_at, AnswersKinds, refused_at, taken_kind, taken_word, opened}
use Rattle.parser.specs.internal.Steps.{Step}
use Rattle.parser.specs.internal.Steps.{Read, Refused}
use Rattle.parser.proofs.Laws.After.{After, start, went, looked, held, wider, done}
use Rattle.parser.proofs.Laws.Gives.{takes}
use Rattle.parser.proofs.Laws.Views.{class_low, class-kind, names_fixed}
use Rattle.parser.proofs.Laws.Steps.{asked_here, met_here}
use Rattle.parser.proofs.Laws.Questions.{no_list}
use Rattle.parser.proofs.Laws.Words.{more_of}
use Rattle.parser.proofs.Laws.Readers.{rowed, reached, begun_mark, row-deep, took_mark, took_word}

-- the question that opens a list, the list, and the list where one is opened
abbrev pub opens_of : Bool → ℕ
opens_of keywords = pick keywords opens_words opens_names

abbrev pub list_of : Bool → ℕ
list_of keywords = pick keywords word_list name_list

abbrev pub optional_of : Bool → ℕ
optional_of keywords = pick keywords type_arguments type_parameters

-- a list is opened by a `[`
bracket_asked : (keywords : Bool) (source tokens : List ℕ) (e : Names) (s : Step)
    → asked_at (query (opens_of keywords)) source tokens e s ≡ true → next_kind tokens s ≡ left_bracket
unfolding next_kind asked_at
bracket_asked keywords source tokens e (Read i r) opens = by (eqb (kind_at tokens i) left_bracket) refl
  where
    by : (b : Bool) → eqb (kind_at tokens i) left_bracket ≡ b → kind_at tokens i ≡ left_bracket
    by true h = eqb-true _ _ h
    by false h =
        let no = no_list tokens (Read i r) i r refl keywords (eqb-false _ _ h) source e in
        let z : ◌≡◌ {A = ℕ} 0 1 = cc in absurd (omega arith)
bracket_asked keywords source tokens e (Refused number place) opens =
    let z : ◌≡◌ {A = ℕ} 0 1 = cc in absurd (omega arith)

pub list_bracket : (keywords : Bool) (tokens : List ℕ) (s : Step) → AnswersKinds (query (opens_of keywords)) tokens s true
    → next_kind tokens s ≡ left_bracket
list_bracket keywords tokens s opens = bracket_asked keywords [] tokens [] s (sym (opens [] []))

module _ (source tokens : List ℕ) (good : Tokens tokens) (e : Names) where
  abbrev v : View
  v = view_of language17 source (rows_of tokens)

  -- a list is begun
  list_begun : {n below : ℕ} (keywords : Bool) {s s₀ : Step} {t : List ℕ} → next_kind tokens s ≡ left_bracket → Within tokens 1 s
      → n ≡ suc below → s₀ ≡ opened s
      → After productions v (token_room tokens) e n below (gives_row list_row) 1 0 (derived (list_of keywords) ∷ [])
      (token (pick keywords any_word declared_word) ∷ derived (more_of keywords) ∷ kind_token right_bracket ∷ []) s t s₀ t
  unfolding levels between and
  list_begun true is within level to =
      begun_mark source tokens good e left_bracket refl (λ j. word_list_one v e j (class_low source tokens good e j))
      is within level refl to
  list_begun false is within level to =
      begun_mark source tokens good e left_bracket refl (λ j. name_list_one v e j (class_low source tokens good e j))
      is within level refl to

  -- `[` word+ `]`
  pub list_read : {n below : ℕ} (keywords : Bool) {s s₀ s₁ s₂ s₃ : Step} {t : List ℕ}
      → AnswersKinds (query (opens_of keywords)) tokens s true → Within tokens 1 s → n ≡ suc below
      → s₀ ≡ opened s → s₁ ≡ taken_word tokens keywords s₀
      → Reads productions v (token_room tokens) e below 0 0 (derived (more_of keywords) ∷ []) s₁ t s₂ t → s₃ ≡ taken_kind tokens right_bracket s₂
      → After productions v (token_room tokens) e n below (gives_row list_row) 3 0 (derived (list_of keywords) ∷ []) [] s t s₃ t
  unfolding between and
  list_read keywords {s = s} opens within level to₀ to₁ d₂ to₃ =
      let a₀ = list_begun keywords (list_bracket keywords tokens s opens) within level to₀ in
      let a₁ = took_word source tokens good e keywords a₀ to₁ in
      took_mark source tokens good e right_bracket (went productions v tokens e (names_fixed source tokens good e) a₁ d₂) refl to₃

  -- .. too deep where no level is left
  pub list_deep : {n : ℕ} (keywords : Bool) (s : Step) {t : List ℕ} → AnswersKinds (query (opens_of keywords)) tokens s true → n ≡ 0
      → Reads productions v (token_room tokens) e n 1 0 (derived (list_of keywords) ∷ []) s t (refused_at 7 s) t
  unfolding rowed levels
  list_deep true s opens spent =
      row-deep source tokens good e s
      (selected (rule_of word_list (gives_row list_row) (kind_token left_bracket ∷ token any_word ∷ derived more_words ∷ kind_token right_bracket ∷
      []))) spent refl
      (λ (j : ℕ) (k : kind_of_class (v.class e j) ≡ next_kind tokens s).
      word_list_one v e j (class_low source tokens good e j) (k ∙ list_bracket true tokens s opens))
  list_deep false s opens spent =
      row-deep source tokens good e s
      (selected (rule_of name_list (gives_row list_row) (kind_token left_bracket ∷ token declared_word ∷ derived more_names ∷ kind_token
      right_bracket ∷ []))) spent refl
      (λ (j : ℕ) (k : kind_of_class (v.class e j) ≡ next_kind tokens s).
      name_list_one v e j (class_low source tokens good e j) (k ∙ list_bracket false tokens s opens))

  abbrev Optional : ℕ → Bool → List Symbol → Step → List ℕ → Step → List ℕ → Type 0
  Optional n keywords ss = After productions v (token_room tokens) e n n no_row 0 0 (derived (optional_of keywords) ∷ []) ss

  optional_opens : {n : ℕ} (keywords : Bool) {s : Step} {t : List ℕ} → AnswersKinds (query (opens_of keywords)) tokens s true
      → Within tokens 0 s → Optional n keywords (derived (list_of keywords) ∷ []) s t s t
  unfolding asked
  optional_opens true {s} opens within =
      let fixed = names_fixed source tokens good e in
      let answer = sym (opens source e) in
      let a = looked productions v tokens e fixed {q = rule_of type_arguments no_row (when (query opens_words) ∷ derived word_list ∷ [])}
      (start productions v tokens e fixed within)
      (λ (j k : ℕ) (is : s ≡ Read j k). takes (type_arguments_some v e j (class_low source tokens good e j)
      (asked_here source tokens e (query opens_words) s true answer j k is)
      (reached source tokens good e s j k is ∙ list_bracket true tokens s opens))) refl in
      held productions v tokens e fixed a (met_here source tokens e (query opens_words) s true answer)
  optional_opens false {s} opens within =
      let fixed = names_fixed source tokens good e in
      let answer = sym (opens source e) in
      let a = looked productions v tokens e fixed {q = rule_of type_parameters no_row (when (query opens_names) ∷ derived name_list ∷ [])}
      (start productions v tokens e fixed within)
      (λ (j k : ℕ) (is : s ≡ Read j k). takes (type_parameters_some v e j (class_low source tokens good e j)
      (asked_here source tokens e (query opens_names) s true answer j k is)
      (reached source tokens good e s j k is ∙ list_bracket false tokens s opens))) refl in
      held productions v tokens e fixed a (met_here source tokens e (query opens_names) s true answer)

  -- a list where one is opened
  pub optional_some : {n : ℕ} (keywords : Bool) {s s' : Step} {t t' : List ℕ} → AnswersKinds (query (opens_of keywords)) tokens s true
      → Within tokens 0 s → Reads productions v (token_room tokens) e n 1 0 (derived (list_of keywords) ∷ []) s t s' t'
      → Reads productions v (token_room tokens) e n 0 0 (derived (optional_of keywords) ∷ []) s t s' t'
  optional_some keywords opens within d =
      let fixed = names_fixed source tokens good e in
      done productions v tokens e fixed
      (wider productions v tokens e fixed (went productions v tokens e fixed (optional_opens keywords opens within) d)
      (omega arith) (omega arith))

  optional_ends : {n : ℕ} (keywords : Bool) {s : Step} {t : List ℕ} → AnswersKinds (query (opens_of keywords)) tokens s false
      → Within tokens 0 s → Optional n keywords [] s t s t
  unfolding asked
  optional_ends true {s} opens within =
      let fixed = names_fixed source tokens good e in
      let answer = sym (opens source e) in
      let a = looked productions v tokens e fixed {q = rule_of type_arguments no_row (unless (query opens_words) ∷ [])}
      (start productions v tokens e fixed within)
      (λ (j k : ℕ) (is : s ≡ Read j k). takes (type_arguments_none v e j (class_low source tokens good e j)
      (asked_here source tokens e (query opens_words) s false answer j k is))) refl in
      held productions v tokens e fixed a (met_here source tokens e (query opens_words) s false answer)
  optional_ends false {s} opens within =
      let fixed = names_fixed source tokens good e in
      let answer = sym (opens source e) in
      let a = looked productions v tokens e fixed {q = rule_of type_parameters no_row (unless (query opens_names) ∷ [])}
      (start productions v tokens e fixed within)
      (λ (j k : ℕ) (is : s ≡ Read j k). takes (type_parameters_none v e j (class_low source tokens good e j)
      (asked_here source tokens e (query opens_names) s false answer j k is))) refl in
      held productions v tokens e fixed a (met_here source tokens e (query opens_names) s false answer)

  -- .. and none where none is
  pub optional_none : {n : ℕ} (keywords : Bool) {s : Step} {t : List ℕ} → AnswersKinds (query (opens_of keywords)) tokens s false
      → Within tokens 0 s → Reads productions v (token_room tokens) e n 0 0 (derived (optional_of keywords) ∷ []) s t s t
  optional_none keywords opens within =
      done productions v tokens e (names_fixed source tokens good e) (optional_ends keywords opens within)

  -- In grammar 1.7 a struct's list is opened where any other is, ..
  opens_same : (i : ℕ) → v.holds opens_struct_names i ≡ v.holds opens_names i
  unfolding view answer_to questions17
  opens_same i = refl

  asked-same : (f n i : ℕ) (b : Bool) (ss : List Symbol)
      → read_within productions v f e n (condition b (query opens_struct_names) ∷ ss) i
      ≡ read_within productions v f e n (condition b (query opens_names) ∷ ss) i
  unfolding read_within met asked
  asked-same zero n i b ss = refl
  asked-same (suc f) n i b ss = rw (opens_same i)

  struct_same : (f n i : ℕ)
      → read_within productions v f e n (derived struct_parameters ∷ []) i ≡ read_within productions v f e n (derived type_parameters ∷ []) i
  unfolding read_within enter descend levels asked_at asked next_kind
  struct_same zero n i = refl
  struct_same (suc f) n i = by (v.holds opens_names i) refl
    where
      low : v.class e i < classes
      low = class_low source tokens good e i

      by : (b : Bool) → v.holds opens_names i ≡ b → read_within productions v (suc f) e n (derived struct_parameters ∷ []) i
          ≡ read_within productions v (suc f) e n (derived type_parameters ∷ []) i
      by true h =
          let fixed = names_fixed source tokens good e in
          let bracket = class-kind source tokens good e i ∙ bracket_asked false source tokens e (Read i 0) h in
          let some = struct_parameters_some v e i low (opens_same i ∙ h) bracket in
          let same = asked-same f n i true (derived name_list ∷ []) in
          rw (fixed struct_parameters i, fixed type_parameters i, some, type_parameters_some v e i low h bracket, same)
      by false h =
          let fixed = names_fixed source tokens good e in
          let none = struct_parameters_none v e i low (opens_same i ∙ h) in
          let same = asked-same f n i false [] in
          rw (fixed struct_parameters i, fixed type_parameters i, none, type_parameters_none v e i low h, same)

  gives_struct : {n i : ℕ} {o : Outcome} → Gives productions v e n (derived type_parameters ∷ []) i o
      → Gives productions v e n (derived struct_parameters ∷ []) i o
  gives_struct {n} {i} g = record { fuel = g.fuel; reads = λ (more : ℕ). struct_same (more + g.fuel) n i ∙ g.reads more }

  -- .. so that what reads type parameters reads it
  pub struct_list : {n : ℕ} {s s' : Step} {t t' : List ℕ}
      → Reads productions v (token_room tokens) e n 0 0 (derived type_parameters ∷ []) s t s' t'
      → Reads productions v (token_room tokens) e n 0 0 (derived struct_parameters ∷ []) s t s' t'
  struct_list (read g to table least few most) = read (gives_struct g) to table least few most
  struct_list (refused6 g size) = refused6 (gives_struct g) size
  struct_list (refused7 g size) = refused7 (gives_struct g) size
  struct_list (refused_before size) = refused_before size
