-- The productions of words one after the other, as many as there are, read step by step. Assumes nothing.
use Prim.Native.Nat.{ℕ}
use mathlib.Core.Path.{◌≡◌, refl, ap, ◌∙◌}
use mathlib.Core.Bool.{Bool, true, false}
use mathlib.Core.List.{List, [], ◌∷◌}
use native.Mathlib.Omega.{arith}
use Rattle.lexer.specs.Tests.{pick, among}
use Rattle.lexer.specs.Table.{token_room}
use Rattle.lexer.specs.internal.TokenRows.{rows_of}
use Rattle.grammar.specs.Grammars.{Symbol, token, derived, Makes, no_row, Names, View}
use Rattle.grammar.specs.internal.Nonterminals.{more_names, more_words}
use Rattle.grammar.specs.internal.Classes.{any_word, declared_word}
use Rattle.grammar.specs.Nurl.{productions}
use Rattle.grammar.specs.internal.Productions.{rule_of}
use Rattle.grammar.specs.Languages.{language17}
use Rattle.grammar.specs.Sources.{view_of}
use Rattle.grammar.specs.internal.Alternatives.{kind_of_class}
use Rattle.grammar.proofs.Laws.Alternatives17.{more_names_more, more_names_done, more_words_more, more_words_done}
use Rattle.parser.specs.internal.Steps.{Tokens, next_kind, word_kinds, taken_word}
use Rattle.parser.specs.internal.Steps.{Step}
use Rattle.parser.proofs.Laws.After.{After, wider}
use Rattle.parser.proofs.Laws.Views.{class_low, names_fixed}
use Rattle.parser.proofs.Laws.Readers.{looked_by, took_word}

-- the list of words that goes on
abbrev pub more_of : Bool → ℕ
more_of keywords = pick keywords more_words more_names

module _ (source tokens : List ℕ) (good : Tokens tokens) (e : Names) where
  abbrev v : View
  v = view_of language17 source (rows_of tokens)

  pub words_more : {n below least more : ℕ} (keywords : Bool) {m : Makes} {ts ss : List Symbol} {s s' s'' : Step} {t t' : List ℕ}
      → After productions v (token_room tokens) e n below m least more ts (derived (more_of keywords) ∷ ss) s t s' t'
      → among (word_kinds keywords) (next_kind tokens s') ≡ true → s'' ≡ taken_word tokens keywords s'
      → After productions v (token_room tokens) e n below m least more ts (derived (more_of keywords) ∷ ss) s t s'' t'
  unfolding word_kinds
  words_more true {s' = s'} a is to =
      let go = looked_by source tokens good e (rule_of more_words no_row (token any_word ∷ derived more_words ∷ [])) a
      (λ (j : ℕ) (k : kind_of_class (v.class e j) ≡ next_kind tokens s').
      more_words_more v e j (class_low source tokens good e j) (ap (among (word_kinds true)) k ∙ is)) refl in
      wider productions v tokens e (names_fixed source tokens good e) (took_word source tokens good e true go to)
      (omega arith) (omega arith)
  words_more false {s' = s'} a is to =
      let go = looked_by source tokens good e (rule_of more_names no_row (token declared_word ∷ derived more_names ∷ [])) a
      (λ (j : ℕ) (k : kind_of_class (v.class e j) ≡ next_kind tokens s').
      more_names_more v e j (class_low source tokens good e j) (ap (among (word_kinds false)) k ∙ is)) refl in
      wider productions v tokens e (names_fixed source tokens good e) (took_word source tokens good e false go to)
      (omega arith) (omega arith)

  pub words_done : {n below least more : ℕ} (keywords : Bool) {m : Makes} {ts ss : List Symbol} {s s' : Step} {t t' : List ℕ}
      → After productions v (token_room tokens) e n below m least more ts (derived (more_of keywords) ∷ ss) s t s' t'
      → among (word_kinds keywords) (next_kind tokens s') ≡ false
      → After productions v (token_room tokens) e n below m least more ts ss s t s' t'
  unfolding word_kinds
  words_done true {s' = s'} a is =
      looked_by source tokens good e (rule_of more_words no_row []) a
      (λ (j : ℕ) (k : kind_of_class (v.class e j) ≡ next_kind tokens s').
      more_words_done v e j (class_low source tokens good e j) (ap (among (word_kinds true)) k ∙ is)) refl
  words_done false {s' = s'} a is =
      looked_by source tokens good e (rule_of more_names no_row []) a
      (λ (j : ℕ) (k : kind_of_class (v.class e j) ≡ next_kind tokens s').
      more_names_done v e j (class_low source tokens good e j) (ap (among (word_kinds false)) k ∙ is)) refl
