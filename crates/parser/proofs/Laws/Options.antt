-- A token that may be left out, and a condition on the kind of token that comes next. Assumes nothing.
use Prim.Native.Nat.{ℕ, ◌+◌}
use mathlib.Core.Path.{◌≡◌, refl, ◌∙◌, ap, sym}
use mathlib.Core.Bool.{Bool, true, false, false≢true}
use mathlib.Core.List.{List, [], ◌∷◌}
use native.Mathlib.Nat.{pos_of_ne-zero}
use native.Mathlib.Omega.{arith}
use lib.Dec.{eqb}
use Rattle.lexer.specs.Tests.{between}
use Rattle.lexer.specs.internal.Kinds.{last_kind}
use Rattle.lexer.specs.Table.{token_room}
use Rattle.lexer.specs.internal.TokenRows.{rows_of, kind_at}
use Rattle.grammar.specs.Grammars.{next, Symbol, token, derived, Makes, no_row, Names, View, asked, met}
use Rattle.grammar.specs.executable.Reading.{selected, choice}
use Rattle.grammar.specs.Nurl.{productions}
use Rattle.grammar.specs.internal.Productions.{rule_of}
use Rattle.grammar.specs.Languages.{language17}
use Rattle.grammar.specs.Sources.{view_of}
use Rattle.grammar.specs.internal.Alternatives.{kind_of_class}
use Rattle.parser.specs.internal.Steps.{Tokens, Within, inside, elsewhere, next_kind, taken_if, opened}
use Rattle.parser.specs.internal.Steps.{Step}
use Rattle.parser.proofs.Laws.After.{After, wider}
use Rattle.parser.proofs.Laws.Steps.{if_taken, if_kept, agrees_self}
use Rattle.parser.proofs.Laws.Views.{kind-inside, names_fixed}
use Rattle.parser.proofs.Laws.Readers.{marks, mark_marks, class-marks, took_kind, looked_by}

-- what begins a row is a token of the table, where it passes a test that the end does not
pub opened_where : {s s' : Step} (test : ℕ → Bool) → test 0 ≡ false → (tokens : List ℕ) → test (next_kind tokens s) ≡ true
    → Within tokens 1 s → s' ≡ opened s → Within tokens 0 s'
unfolding next_kind opened
opened_where test ends tokens passes (inside {at = i} {row = r} few to) is =
    let room = kind-inside tokens i (kind_at tokens i) refl
    (pos_of_ne-zero (λ (z : kind_at tokens i ≡ 0). false≢true (sym ends ∙ ap test (sym z) ∙ passes))) in
    rw is (inside {at = i + 1} {row = r + 1} (omega arith) (omega arith))
opened_where test ends tokens passes elsewhere is = rw is elsewhere

module _ (source tokens : List ℕ) (good : Tokens tokens) (e : Names) where
  abbrev v : View
  v = view_of language17 source (rows_of tokens)

  -- a token is taken where it is of a kind: what is left then, and what else
  pub took_where : {n below least more : ℕ} (kind : ℕ) {m : Makes} {cs : List ℕ} {ts ss : List Symbol} {s s' s'' : Step} {t t' : List ℕ}
      → marks cs kind ≡ true
      → (eqb (next_kind tokens s') kind ≡ true
      → After productions v (token_room tokens) e n below m least more ts (token cs ∷ ss) s t s' t')
      → (eqb (next_kind tokens s') kind ≡ false → After productions v (token_room tokens) e n below m least more ts ss s t s' t')
      → s'' ≡ taken_if tokens kind s' → After productions v (token_room tokens) e n below m least more ts ss s t s'' t'
  took_where {n} {below} {least} {more} kind {m} {cs} {ts} {ss} {s} {s'} {s''} {t} {t'} is some none to =
      by (eqb (next_kind tokens s') kind) refl
    where
      by : (b : Bool) → eqb (next_kind tokens s') kind ≡ b
          → After productions v (token_room tokens) e n below m least more ts ss s t s'' t'
      by true h =
          wider productions v tokens e (names_fixed source tokens good e)
          (took_kind source tokens good e kind (some h) is (to ∙ if_taken tokens kind s' h)) (omega arith) (omega arith)
      by false h = rw (to, if_kept tokens kind s' h) (none h)

  -- a nonterminal that is such a token or nothing
  pub took_if : {n below least more y : ℕ} (kind : ℕ) {m : Makes} {cs : List ℕ} {ts ss : List Symbol} {s s' s'' : Step} {t t' : List ℕ}
      → marks cs kind ≡ true
      → ((j : ℕ) → eqb (kind_of_class (v.class e j)) kind ≡ true → choice productions v e y j ≡ selected (rule_of y no_row (token cs ∷ [])))
      → ((j : ℕ) → eqb (kind_of_class (v.class e j)) kind ≡ false → choice productions v e y j ≡ selected (rule_of y no_row []))
      → After productions v (token_room tokens) e n below m least more ts (derived y ∷ ss) s t s' t'
      → s'' ≡ taken_if tokens kind s' → After productions v (token_room tokens) e n below m least more ts ss s t s'' t'
  took_if {y = y} kind {cs = cs} {s' = s'} is some none a =
      took_where kind is
      (λ (h : eqb (next_kind tokens s') kind ≡ true). looked_by source tokens good e (rule_of y no_row (token cs ∷ [])) a
      (λ (j : ℕ) (k : kind_of_class (v.class e j) ≡ next_kind tokens s'). some j (ap (λ (n : ℕ). eqb n kind) k ∙ h)) refl)
      (λ (h : eqb (next_kind tokens s') kind ≡ false). looked_by source tokens good e (rule_of y no_row []) a
      (λ (j : ℕ) (k : kind_of_class (v.class e j) ≡ next_kind tokens s'). none j (ap (λ (n : ℕ). eqb n kind) k ∙ h)) refl)

  -- a kind that the next token is of, or is not, ..
  pub kind-met : (kind : ℕ) (cs : List ℕ) (b : Bool) (j : ℕ) → marks cs kind ≡ true → eqb (kind_of_class (v.class e j)) kind ≡ b
      → met v e j b (next cs) ≡ true
  unfolding met asked
  kind-met kind cs b j is h = rw (class-marks source tokens good e kind cs is j, h) (agrees_self b)

  -- .. and a mark
  pub mark_met : (kind : ℕ) (b : Bool) (j : ℕ) → between 2 last_kind kind ≡ true → eqb (kind_of_class (v.class e j)) kind ≡ b
      → met v e j b (next (kind ∷ [])) ≡ true
  mark_met kind b j is = kind-met kind (kind ∷ []) b j (mark_marks kind is)
