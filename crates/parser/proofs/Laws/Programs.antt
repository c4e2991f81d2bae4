-- The production of a program, and a whole one up to the end of its tokens. Assumes nothing.
use Prim.Native.Nat.{ℕ, suc}
use mathlib.Core.Path.{◌≡◌, refl, ap, ◌∙◌}
use mathlib.Core.Bool.{Bool, true, false}
use mathlib.Core.List.{List, [], ◌∷◌}
use native.Mathlib.Omega.{arith}
use lib.Dec.{eqb}
use Rattle.lexer.specs.Tests.{and, or, among}
use Rattle.lexer.specs.Table.{token_room}
use Rattle.lexer.specs.internal.TokenRows.{rows_of}
use Rattle.tree.specs.internal.RowKinds.{program_row}
use Rattle.grammar.specs.Grammars.{end_of_tokens, next, Symbol, derived, gives_row, Names, View, agrees, asked, met}
use Rattle.grammar.specs.Rows.{levels}
use Rattle.grammar.specs.executable.Reading.{whole}
use Rattle.grammar.specs.internal.Nonterminals.{program, declarations}
use Rattle.grammar.specs.Nurl.{productions}
use Rattle.grammar.specs.internal.Productions.{rule_of}
use Rattle.grammar.specs.Languages.{language17}
use Rattle.grammar.specs.Sources.{view_of}
use Rattle.grammar.specs.internal.Alternatives.{kind_of_class}
use Rattle.grammar.proofs.Laws.Checks.{below}
use Rattle.grammar.proofs.Laws.Views.{classes}
use Rattle.grammar.proofs.Laws.Alternatives17.{program_one}
use Rattle.parser.specs.internal.Readings.{Reads}
use Rattle.parser.specs.internal.Steps.{Tokens, Within, inside, Small, Spans, next_kind, refused_at, row_left, closed}
use Rattle.parser.specs.internal.Steps.{Step}
use Rattle.parser.specs.internal.Steps.{Read}
use Rattle.parser.proofs.Laws.Gives.{gives_deep}
use Rattle.parser.proofs.Laws.After.{After, start, begun_part, went, held, closes, done, deep-at, unheld, within_wider}
use Rattle.parser.proofs.Laws.Views.{class_shows, class_low, names_fixed}
use Rattle.parser.proofs.Laws.Readers.{agrees-same, reached, closing_with}

-- the end of the tokens is a class of its own
ends17 : below (λ (c : ℕ). agrees (among (end_of_tokens ∷ []) c) (eqb (kind_of_class c) end_of_tokens)) classes ≡ true
unfolding below and or agrees among
ends17 = refl

-- the first token and the first row
pub first_within : (tokens : List ℕ) → Within tokens 0 (Read 0 0)
first_within tokens = inside {at = 0} {row = 0} (omega arith) (omega arith)

module _ (source tokens : List ℕ) (good : Tokens tokens) (e : Names) where
  abbrev v : View
  v = view_of language17 source (rows_of tokens)

  -- a row is left for the program
  pub program_begun : {n below : ℕ} {s s₀ : Step} {t : List ℕ} → Within tokens 0 s → n ≡ suc below → s₀ ≡ row_left s
      → After productions v (token_room tokens) e n below (gives_row program_row) 0 1 (derived program ∷ []) (derived declarations ∷ []) s t s₀ t
  unfolding levels
  program_begun {s = s} within level to₀ =
      rw to₀ (begun_part productions v tokens e (names_fixed source tokens good e) within level refl
      (λ (j k : ℕ) (read : s ≡ Read j k). program_one v e j (class_low source tokens good e j)))

  pub program_closing : {n below : ℕ} {ss : List Symbol} {s s' : Step} {t t' : List ℕ} → Within tokens 0 s
      → After productions v (token_room tokens) e n below (gives_row program_row) 0 1 (derived program ∷ []) ss s t s' t'
      → (Small s) × ((Small s') × (Spans s s'))
  program_closing within a =
      closing_with productions v tokens e (names_fixed source tokens good e) (omega arith) good
      (within_wider tokens within (omega arith)) a

  -- .. and put above its declarations
  pub program-closed : {n below : ℕ} {s s' r : Step} {t t' after : List ℕ}
      → After productions v (token_room tokens) e n below (gives_row program_row) 0 1 (derived program ∷ []) [] s t s' t'
      → r ≡ s' → after ≡ closed program_row s s' t' → Reads productions v (token_room tokens) e n 0 1 (derived program ∷ []) s t r after
  program-closed a answer table = rw (answer, table) (closes productions v tokens e (names_fixed source tokens good e) a)

  -- it is too deep where no level is left
  pub program_deep : {n : ℕ} (s : Step) {t : List ℕ} → n ≡ 0
      → Reads productions v (token_room tokens) e n 0 1 (derived program ∷ []) s t (refused_at 7 s) t
  unfolding levels
  program_deep s spent =
      let fixed = names_fixed source tokens good e in
      rw spent (deep-at productions v tokens e fixed s (λ (j k : ℕ) (read : s ≡ Read j k).
      gives_deep productions v e fixed program j (rule_of program (gives_row program_row) (derived declarations ∷ [])) []
      (program_one v e j (class_low source tokens good e j)) refl))

  -- whether the tokens end at a step
  end_met : (b : Bool) (s : Step) → eqb (next_kind tokens s) end_of_tokens ≡ b → (j k : ℕ) → s ≡ Read j k
      → met v e j true (next (end_of_tokens ∷ [])) ≡ b
  unfolding met asked agrees
  end_met b s is j k read =
      agrees-same _ _ (class_shows source tokens good e
      (λ (c : ℕ). agrees (among (end_of_tokens ∷ []) c) (eqb (kind_of_class c) end_of_tokens)) ends17 j)
      ∙ ap (λ (n : ℕ). eqb n end_of_tokens) (reached source tokens good e s j k read) ∙ is

  -- a whole program ends with the tokens, ..
  pub whole_ends : {n : ℕ} {s s' : Step} {t t' : List ℕ} → Within tokens 0 s
      → Reads productions v (token_room tokens) e n 0 1 (derived program ∷ []) s t s' t' → eqb (next_kind tokens s') end_of_tokens ≡ true
      → Reads productions v (token_room tokens) e n 0 1 (whole program) s t s' t'
  whole_ends {s' = s'} within d is =
      let fixed = names_fixed source tokens good e in
      let a = went productions v tokens e fixed (start productions v tokens e fixed within) d in
      done productions v tokens e fixed (held productions v tokens e fixed a (end_met true s' is))

  -- .. and a token after it is refused
  pub whole_stuck : {n : ℕ} {s s' : Step} {t t' : List ℕ} → Within tokens 0 s
      → Reads productions v (token_room tokens) e n 0 1 (derived program ∷ []) s t s' t' → eqb (next_kind tokens s') end_of_tokens ≡ false
      → Reads productions v (token_room tokens) e n 0 1 (whole program) s t (refused_at 6 s') t'
  whole_stuck {s' = s'} within d is =
      let fixed = names_fixed source tokens good e in
      let a = went productions v tokens e fixed (start productions v tokens e fixed within) d in
      done productions v tokens e fixed (unheld productions v tokens e fixed {us = []} a (end_met false s' is))
