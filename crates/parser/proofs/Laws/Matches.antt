-- The productions of the arms of a match and of their payloads, read step by step. Assumes nothing.
use Prim.Native.Nat.{ℕ, zero, suc, ◌+◌, ◌<◌, ◌≤◌}
use mathlib.Core.Path.{◌≡◌, refl, ap, ◌∙◌}
use mathlib.Core.Bool.{true, false, false≢true}
use mathlib.Core.List.{List, [], ◌∷◌}
use native.Mathlib.Nat.{pos_of_ne-zero}
use native.Mathlib.Omega.{arith}
use Rattle.lexer.specs.Tests.{and, or, between, among}
use Rattle.lexer.specs.internal.Kinds.{ident, boolean, int, arrow}
use Rattle.lexer.specs.Table.{token_room}
use Rattle.lexer.specs.internal.TokenRows.{rows_of}
use Rattle.tree.specs.internal.RowKinds.{arm_row, payload_row}
use Rattle.grammar.specs.Grammars.{Symbol, token, derived, Makes, gives_row, no_row, Names, View}
use Rattle.grammar.specs.Rows.{levels}
use Rattle.grammar.specs.executable.Reading.{selected}
use Rattle.grammar.specs.internal.Nonterminals.{expression, arms, arm, payloads3, payloads2, payloads1, payload}
use Rattle.grammar.specs.internal.Classes.{declared_word, payload_token}
use Rattle.grammar.specs.Nurl.{productions}
use Rattle.grammar.specs.Languages.{language17}
use Rattle.grammar.specs.Sources.{view_of}
use Rattle.grammar.specs.internal.Productions.{rule_of, kind_token}
use Rattle.grammar.proofs.Laws.Checks.{below, implies}
use Rattle.grammar.proofs.Laws.Alternatives17.{arms_more, arms_done, arm_one, payload_one, payloads3_more, payloads3_done, payloads2_more}
use Rattle.grammar.proofs.Laws.Alternatives17.{payloads2_done, payloads1_more, payloads1_done}
use Rattle.parser.specs.internal.Readings.{Reads}
use Rattle.parser.specs.internal.Steps.{Tokens, Within, next_kind, refused_at, taken_kind, opened, closed, word_kinds}
use Rattle.parser.specs.internal.Steps.{Step}
use Rattle.parser.proofs.Laws.Kinds.{word_kind}
use Rattle.parser.proofs.Laws.After.{After, went, wider, done}
use Rattle.parser.proofs.Laws.Repeated.{IsList, list_by}
use Rattle.parser.proofs.Laws.Views.{class_low, names_fixed}
use Rattle.parser.proofs.Laws.Readers.{opens_with, begun_by, closed_by, rowed, row-deep, took_mark, looked_by, reached}

-- what begins an arm, and what a payload is
abbrev pub arm_kinds : List ℕ
arm_kinds = ident ∷ boolean ∷ []

abbrev pub payload_kinds : List ℕ
payload_kinds = ident ∷ int ∷ []

-- .. and such a token has a kind
pub arm_kind : {k : ℕ} → among arm_kinds k ≡ true → 0 < k
unfolding word_kinds
arm_kind {k} = word_kind false k

pub payload_kind : {k : ℕ} → among payload_kinds k ≡ true → 0 < k
unfolding or among
payload_kind {k} is = pos_of_ne-zero (λ (z : k ≡ 0). false≢true (rw z at is))

arm_opens : opens_with (among arm_kinds) declared_word ≡ true
unfolding opens_with below implies and or among
arm_opens = refl

payload_opens : opens_with (among payload_kinds) payload_token ≡ true
unfolding opens_with below implies and or among
payload_opens = refl

-- what is left of the payloads after so many
unfoldable pub payloads_left : ℕ → List Symbol
payloads_left zero = derived payloads3 ∷ []
payloads_left (suc zero) = derived payloads2 ∷ []
payloads_left (suc (suc zero)) = derived payloads1 ∷ []
payloads_left (suc (suc (suc done))) = []

module _ (source tokens : List ℕ) (good : Tokens tokens) (e : Names) where
  abbrev v : View
  v = view_of language17 source (rows_of tokens)

  abbrev Under : ℕ → ℕ → ℕ → Makes → ℕ → List Symbol → Step → List ℕ → Step → List ℕ → Type 0
  Under x n below m least ss = After productions v (token_room tokens) e n below m least 0 (derived x ∷ []) ss

  abbrev Part : ℕ → ℕ → ℕ → Step → List ℕ → Step → List ℕ → Type 0
  Part n least x = Reads productions v (token_room tokens) e n least 0 (derived x ∷ [])

  -- as many arms as there are
  pub arms_list : IsList source tokens e arms arm (λ s. among arm_kinds (next_kind tokens s))
  arms_list =
      list_by source tokens good e
      (λ s j k is read. arms_more v e j (class_low source tokens good e j) (ap (among arm_kinds) (reached source tokens good e s j k read) ∙ is))
      (λ s j k is read. arms_done v e j (class_low source tokens good e j) (ap (among arm_kinds) (reached source tokens good e s j k read) ∙ is))

  -- a head, payloads, `→` and an expression
  pub arm_whole : {n below : ℕ} {s s₀ s₁ s₂ s₃ : Step} {t t₁ t₃ : List ℕ} → among arm_kinds (next_kind tokens s) ≡ true
      → Within tokens 1 s → n ≡ suc below → s₀ ≡ opened s
      → Part below 0 payloads3 s₀ t s₁ t₁ → s₂ ≡ taken_kind tokens arrow s₁
      → Part below 1 expression s₂ t₁ s₃ t₃
      → Under arm n below (gives_row arm_row) 3 [] s t s₃ t₃
  unfolding levels between and
  arm_whole is within level to₀ d₁ to₂ d₃ =
      let fixed = names_fixed source tokens good e in
      let a₀ = begun_by source tokens good e (among arm_kinds) arm_opens
      (λ (j : ℕ). arm_one v e j (class_low source tokens good e j)) is within level refl to₀ in
      went productions v tokens e fixed
      (took_mark source tokens good e arrow (went productions v tokens e fixed a₀ d₁) refl to₂) d₃

  -- an arm is too deep where no level is left
  pub arm_deep : {n : ℕ} (s : Step) {t : List ℕ} → among arm_kinds (next_kind tokens s) ≡ true → n ≡ 0
      → Part n 1 arm s t (refused_at 7 s) t
  unfolding rowed levels
  arm_deep s is spent =
      row-deep source tokens good e s
      (selected (rule_of arm (gives_row arm_row) (token declared_word ∷ derived payloads3 ∷ kind_token arrow ∷ derived expression ∷ []))) spent refl
      (λ j k. arm_one v e j (class_low source tokens good e j) (ap (among arm_kinds) k ∙ is))

  payload_begun : {n below : ℕ} {s s₀ : Step} {t : List ℕ} → among payload_kinds (next_kind tokens s) ≡ true → Within tokens 1 s
      → n ≡ suc below → s₀ ≡ opened s
      → Under payload n below (gives_row payload_row) 1 [] s t s₀ t
  unfolding levels
  payload_begun is within level to =
      begun_by source tokens good e (among payload_kinds) payload_opens (λ (j : ℕ). payload_one v e j (class_low source tokens good e j))
      is within level refl to

  -- a payload: one token
  pub payload_leaf : {n below : ℕ} {s r : Step} {t after : List ℕ} → among payload_kinds (next_kind tokens s) ≡ true → Within tokens 1 s
      → n ≡ suc below → r ≡ opened s → after ≡ closed payload_row s (opened s) t
      → Part n 1 payload s t r after
  payload_leaf is within level answer table =
      closed_by productions v tokens e (names_fixed source tokens good e) (payload_begun is within level refl) (omega arith)
      answer table

  -- it is too deep where no level is left
  pub payload_deep : {n : ℕ} (s : Step) {t : List ℕ} → among payload_kinds (next_kind tokens s) ≡ true → n ≡ 0
      → Part n 1 payload s t (refused_at 7 s) t
  unfolding rowed levels
  payload_deep s is spent =
      row-deep source tokens good e s (selected (rule_of payload (gives_row payload_row) (token payload_token ∷ []))) spent refl
      (λ j k. payload_one v e j (class_low source tokens good e j) (ap (among payload_kinds) k ∙ is))

  abbrev Payloads : ℕ → ℕ → Step → List ℕ → Step → List ℕ → Type 0
  Payloads n count = After productions v (token_room tokens) e n n no_row 0 0 (derived payloads3 ∷ []) (payloads_left count)

  -- one of at most three payloads
  pub payloads_go : {n : ℕ} (count : ℕ) {s s' s'' : Step} {t t' t'' : List ℕ} → count < 3
      → Payloads n count s t s' t' → among payload_kinds (next_kind tokens s') ≡ true
      → Part n 1 payload s' t' s'' t''
      → Payloads n (count + 1) s t s'' t''
  unfolding payloads_left
  payloads_go zero few a is d =
      let fixed = names_fixed source tokens good e in
      let b = looked_by source tokens good e (rule_of payloads3 no_row (derived payload ∷ derived payloads2 ∷ [])) a
      (λ j k. payloads3_more v e j (class_low source tokens good e j) (ap (among payload_kinds) k ∙ is)) refl in
      wider productions v tokens e fixed (went productions v tokens e fixed b d) (omega arith) (omega arith)
  payloads_go (suc zero) few a is d =
      let fixed = names_fixed source tokens good e in
      let b = looked_by source tokens good e (rule_of payloads2 no_row (derived payload ∷ derived payloads1 ∷ [])) a
      (λ j k. payloads2_more v e j (class_low source tokens good e j) (ap (among payload_kinds) k ∙ is)) refl in
      wider productions v tokens e fixed (went productions v tokens e fixed b d) (omega arith) (omega arith)
  payloads_go (suc (suc zero)) few a is d =
      let fixed = names_fixed source tokens good e in
      let b = looked_by source tokens good e (rule_of payloads1 no_row (derived payload ∷ [])) a
      (λ j k. payloads1_more v e j (class_low source tokens good e j) (ap (among payload_kinds) k ∙ is)) refl in
      wider productions v tokens e fixed (went productions v tokens e fixed b d) (omega arith) (omega arith)
  payloads_go (suc (suc (suc count))) few a is d = absurd (omega arith)

  -- three are all, ..
  pub payloads_all : {n count : ℕ} {s s' : Step} {t t' : List ℕ} → 3 ≤ count → Payloads n count s t s' t'
      → Part n 0 payloads3 s t s' t'
  unfolding payloads_left
  payloads_all {count = zero} many a = absurd (omega arith)
  payloads_all {count = suc zero} many a = absurd (omega arith)
  payloads_all {count = suc (suc zero)} many a = absurd (omega arith)
  payloads_all {count = suc (suc (suc count))} many a = done productions v tokens e (names_fixed source tokens good e) a

  -- .. and fewer before what is none
  pub payloads_end : {n : ℕ} (count : ℕ) {s s' : Step} {t t' : List ℕ} → Payloads n count s t s' t'
      → among payload_kinds (next_kind tokens s') ≡ false
      → Part n 0 payloads3 s t s' t'
  unfolding payloads_left
  payloads_end zero a is =
      done productions v tokens e (names_fixed source tokens good e) (looked_by source tokens good e (rule_of payloads3 no_row []) a
      (λ j k. payloads3_done v e j (class_low source tokens good e j) (ap (among payload_kinds) k ∙ is)) refl)
  payloads_end (suc zero) a is =
      done productions v tokens e (names_fixed source tokens good e) (looked_by source tokens good e (rule_of payloads2 no_row []) a
      (λ j k. payloads2_done v e j (class_low source tokens good e j) (ap (among payload_kinds) k ∙ is)) refl)
  payloads_end (suc (suc zero)) a is =
      done productions v tokens e (names_fixed source tokens good e) (looked_by source tokens good e (rule_of payloads1 no_row []) a
      (λ j k. payloads1_done v e j (class_low source tokens good e j) (ap (among payload_kinds) k ∙ is)) refl)
  payloads_end (suc (suc (suc count))) a is = done productions v tokens e (names_fixed source tokens good e) a
