-- What the questions of grammar 1.7, and the one for an IDENT that is not a type name, ask of the tokens in a table. Assumes nothing.
use Prim.Native.Nat.{ℕ, zero, suc, ◌+◌}
use mathlib.Core.Path.{◌≡◌, refl, ◌∙◌, sym}
use mathlib.Core.Bool.{Bool, true, false, not}
use mathlib.Core.List.{List, [], ◌∷◌}
use native.Mathlib.Omega.{arith}
use native.Mathlib.Numerals.{add-one}
use lib.Dec.{eqb, ltb}
use lib.ListN.{length, drop, get_or}
use borrow.Author.Tests.{eq-eqb, ne_eqb, lt-ltb}
use Rattle.lexer.specs.Tests.{and, or, pick, among}
use Rattle.lexer.specs.Text.{bytes}
use Rattle.lexer.specs.Spellings.{same}
use Rattle.lexer.specs.internal.Kinds.{ident, keyword, int, left_brace, left_bracket, right_bracket, left_paren, at, arrow, star, question}
use Rattle.lexer.specs.internal.Kinds.{bang}
use Rattle.lexer.specs.internal.TokenRows.{rows_of, kind_at, item_at}
use Rattle.lexer.specs.Items.{item_of, items}
use Rattle.lexer.proofs.Laws.Tests.{and-true, or-false, eqb_turn}
use Rattle.typenames.specs.TypeNames.{is_named}
use Rattle.grammar.specs.Grammars.{end_of_tokens, Condition, query, Names, asked}
use Rattle.grammar.specs.Classes.{type_name}
use Rattle.grammar.specs.Questions.{Piece, one_of, some_of, is_text, run_of, fits, fits_one, answer_to}
use Rattle.grammar.specs.Nurl.{questions17, plain_name}
use Rattle.grammar.specs.internal.Productions.{kind_piece, opens_names, opens_words, opens_struct, two_names, opens_closure, zero_or_one}
use Rattle.grammar.specs.Languages.{language17, class_of, view}
use Rattle.grammar.specs.Sources.{view_of}
use Rattle.grammar.proofs.Laws.Patterns.{fits_at, fits-spelled, run_at, fits_run}
use Rattle.parser.specs.internal.Steps.{kinds_at, asked_at, AnswersTexts, AnswersKinds, word_kinds, WordsEnd}
use Rattle.parser.specs.internal.Steps.{Step}
use Rattle.parser.specs.internal.Steps.{Read, Refused}
use Rattle.parser.proofs.Laws.Views.{item_here, kind_here}
use Rattle.parser.proofs.Laws.Kinds.{among_single, among_two, within, among_same, singles, kinds_fit, no_word_last}
use Rattle.parser.proofs.Laws.Steps.{asked_here}

-- after a refusal every answer is no
pub refused_no : (q : Condition) (tokens : List ℕ) (step : Step) (number place : ℕ) → step ≡ Refused number place
    → AnswersKinds q tokens step false
unfolding asked_at
refused_no q tokens step number place s source e = rw s

or_four : (a b c d : Bool) → or (or a b) (or c d) ≡ or (or a false) (or b (or c (or d false)))
unfolding or
or_four true b c d = refl
or_four false true c d = refl
or_four false false true d = refl
or_four false false false d = sym (or-false d)

some_more : (a n : ℕ) → ltb 0 n ≡ not (eqb (a + n) a)
some_more a zero = rw (eq-eqb (a + 0) a (omega arith))
some_more a (suc n) = rw (lt-ltb 0 (suc n) (omega arith), ne_eqb (a + suc n) a (λ (q : a + suc n ≡ a). omega arith))

-- a pattern that begins with a token of some kinds, at a place of a table
module _ (source tokens : List ℕ) (i : ℕ) (ks : List ℕ) (none : among ks end_of_tokens ≡ false) where
  fits_kinds : (ps : List Piece) → let ts = items source (rows_of tokens) in
      fits (one_of ks ∷ ps) (drop i ts) ≡ and (among ks (kind_at tokens i)) (fits ps (drop (i + 1) ts))
  fits_kinds ps = rw (← kind_here source tokens i, add-one i) (fits_at ks ps (items source (rows_of tokens)) i none)

  fits_last : fits (one_of ks ∷ []) (drop i (items source (rows_of tokens))) ≡ among ks (kind_at tokens i)
  unfolding fits
  fits_last = fits_kinds [] ∙ and-true _

-- the kinds of token that begin a closure whatever follows, in the order of their numbers
abbrev pub closure_kinds : List ℕ
closure_kinds = keyword ∷ left_bracket ∷ bang ∷ question ∷ star ∷ arrow ∷ []

-- .. and those that begin one together
abbrev paren_at : List ℕ
paren_at = left_paren ∷ at ∷ []

abbrev names_arrow : List ℕ
names_arrow = ident ∷ ident ∷ arrow ∷ []

-- the former as the question has them
abbrev closure_types : List ℕ
closure_types = keyword ∷ star ∷ question ∷ left_bracket ∷ bang ∷ []

-- the texts `0` and `1`
abbrev pub bits : List (List ℕ)
bits = bytes "0" ∷ bytes "1" ∷ []

pub bit_text : (w : List ℕ) → length w ≡ 1 → is_text bits w ≡ or (eqb (get_or w 0 0) 48) (eqb (get_or w 0 0) 49)
unfolding is_text same bytes and
bit_text [] h = absurd (omega arith)
bit_text (b ∷ []) h = rw (or-false (eqb b 49))
bit_text (b ∷ c ∷ w) h = absurd (omega arith)

pub bit_none : (w : List ℕ) → (length w ≡ 1 → ⊥) → is_text bits w ≡ false
unfolding is_text same bytes and or
bit_none [] h = refl
bit_none (b ∷ []) h = absurd (h refl)
bit_none (b ∷ c ∷ w) h = refl

-- the words from a place on: they go on with a word and stop at what is none
module _ (keywords : Bool) (source tokens : List ℕ) (i : ℕ) where
  abbrev words_from : ℕ → ℕ
  words_from k = run_of (word_kinds keywords) (drop k (items source (rows_of tokens)))

  words_at : words_from i ≡ pick (among (word_kinds keywords) (kind_at tokens i)) (suc (words_from (suc i))) 0
  words_at = rw (← kind_here source tokens i) (run_at (word_kinds keywords) (items source (rows_of tokens)) i (no_word_last keywords))

  pub words_go_on : among (word_kinds keywords) (kind_at tokens i) ≡ true → i + 1 + words_from (i + 1) ≡ i + words_from i
  words_go_on word = rw (words_at, word, add-one i) (omega arith)

  pub words_stop : among (word_kinds keywords) (kind_at tokens i) ≡ false → i + words_from i ≡ i
  words_stop word = rw (words_at, word) (omega arith)

module _ (tokens : List ℕ) (step : Step) (i row : ℕ) (s : step ≡ Read i row) where
  pub two_names_lem : AnswersKinds (query two_names) tokens step (kinds_at tokens i (ident ∷ ident ∷ []))
  unfolding asked_at asked view answer_to questions17 fits_one singles among or
  two_names_lem source e = rw s (sym (or-false _ ∙ kinds_fit source tokens i (ident ∷ ident ∷ []) refl))

  pub struct_opens : AnswersKinds (query opens_struct) tokens step
      (and (eqb (kind_at tokens i) ident) (or (eqb (kind_at tokens (i + 1)) left_brace) (eqb (kind_at tokens (i + 1)) left_bracket)))
  unfolding asked_at asked view answer_to questions17 fits_one among or
  struct_opens source e =
      let first = fits_kinds source tokens i (ident ∷ []) refl (one_of (left_brace ∷ left_bracket ∷ []) ∷ []) in
      let second = fits_last source tokens (i + 1) (left_brace ∷ left_bracket ∷ []) refl in
      let two = among_two left_brace left_bracket (kind_at tokens (i + 1)) in
      rw s (sym (or-false _ ∙ first ∙ rw (second, among_single ident (kind_at tokens i), two)))

  pub closure_opens : AnswersKinds (query opens_closure) tokens step
      (or (among closure_kinds (kind_at tokens i)) (or (kinds_at tokens i paren_at) (kinds_at tokens i names_arrow)))
  unfolding asked_at asked view answer_to questions17 fits_one singles among or and within
  closure_opens source e =
      let first = fits_last source tokens i (arrow ∷ []) refl in
      let second = fits_last source tokens i closure_types refl in
      let third = kinds_fit source tokens i paren_at refl in
      let fourth = kinds_fit source tokens i names_arrow refl in
      let k = kind_at tokens i in
      let sum = or_four (eqb arrow k) (among closure_types k) (kinds_at tokens i paren_at) (kinds_at tokens i names_arrow) in
      let order = among_same closure_kinds (arrow ∷ closure_types) k refl refl in
      rw (s, first, second, third, fourth, order) sum

  -- rule 8
  pub bit_next : (source : List ℕ) → AnswersTexts (query zero_or_one) source tokens step
      (and (eqb (kind_at tokens i) int) (is_text bits (item_at source tokens i).text))
  unfolding asked_at asked view answer_to questions17 fits_one fits item_of
  bit_next source e =
      let asks = fits-spelled int bits [] (items source (rows_of tokens)) i refl in
      rw s (sym (or-false _ ∙ asks ∙ and-true _ ∙ rw (item_here source tokens i, eqb_turn int (kind_at tokens i))))

  -- rules 3 and 4
  pub plain_next : (source : List ℕ) (e : Names)
      → asked_at plain_name source tokens e step ≡ and (eqb (kind_at tokens i) ident) (not (is_named e (item_at source tokens i).text))
  unfolding asked_at asked view class_of item_of and
  plain_next source e = rw (s, item_here source tokens i, among_single) (by_kind (kind_at tokens i) _ _ refl)
    where
      by_kind : (k : ℕ) (t named : Bool) → eqb k ident ≡ t → eqb (pick (and t named) type_name k) ident ≡ and t (not named)
      by_kind k true true h = refl
      by_kind k true false h = h
      by_kind k false named h = h

  -- .. given whether the IDENT is a type name
  pub plain_named : (source : List ℕ) (e : Names) (named : Bool) → kind_at tokens i ≡ ident
      → named ≡ is_named e (item_at source tokens i).text → not named ≡ asked_at plain_name source tokens e step
  unfolding and
  plain_named source e named kind is = rw (plain_next source e, eq-eqb (kind_at tokens i) ident kind, is)

  -- rule 2
  module _ (keywords : Bool) where
    list_asked : (source : List ℕ) (e : Names)
        → asked_at (query (pick keywords opens_words opens_names)) source tokens e step
        ≡ and (eqb (kind_at tokens i) left_bracket)
        (fits (some_of (word_kinds keywords) ∷ kind_piece right_bracket ∷ []) (drop (i + 1) (items source (rows_of tokens))))
    unfolding asked_at asked view answer_to questions17 fits_one word_kinds among or
    list_asked source e = rw s (by_kinds keywords)
      where
        opening : (ps : List Piece)
            → fits (kind_piece left_bracket ∷ ps) (drop i (items source (rows_of tokens)))
            ≡ and (eqb (kind_at tokens i) left_bracket) (fits ps (drop (i + 1) (items source (rows_of tokens))))
        opening ps = fits_kinds source tokens i (left_bracket ∷ []) refl ps ∙ rw (among_single left_bracket (kind_at tokens i))

        by_kinds : (b : Bool)
            → asked_at (query (pick b opens_words opens_names)) source tokens e (Read i row)
            ≡ and (eqb (kind_at tokens i) left_bracket)
            (fits (some_of (word_kinds b) ∷ kind_piece right_bracket ∷ []) (drop (i + 1) (items source (rows_of tokens))))
        by_kinds true = or-false _ ∙ opening _
        by_kinds false = or-false _ ∙ opening _

    pub no_list : (kind_at tokens i ≡ left_bracket → ⊥) → AnswersKinds (query (pick keywords opens_words opens_names)) tokens step false
    unfolding and
    no_list other source e = rw (list_asked source e, ne_eqb _ _ other)

    pub list_opens : kind_at tokens i ≡ left_bracket → (end : ℕ) → WordsEnd keywords tokens (i + 1) end
        → AnswersKinds (query (pick keywords opens_words opens_names)) tokens step
        (and (not (eqb end (i + 1))) (eqb (kind_at tokens end) right_bracket))
    unfolding and among or
    list_opens bracket end words source e =
        let ts = items source (rows_of tokens) in
        let n = run_of (word_kinds keywords) (drop (i + 1) ts) in
        let run = fits_run (word_kinds keywords) (kind_piece right_bracket ∷ []) ts (i + 1) in
        let last = fits_last source tokens end (right_bracket ∷ []) refl in
        let kind = among_single right_bracket (kind_at tokens end) in
        rw (list_asked source e, eq-eqb _ _ bracket, run, some_more (i + 1) n, ← words source, last, kind)

-- rules 3 and 4: the class of the next token tells whether it is an IDENT that is not a type name
pub plain_class : (source tokens : List ℕ) (e : Names) (b : Bool) (s : Step) → asked_at plain_name source tokens e s ≡ b
    → (j k : ℕ) → s ≡ Read j k → eqb ((view_of language17 source (rows_of tokens)).class e j) ident ≡ b
unfolding asked
plain_class source tokens e b s is j k read = sym (among_single ident _) ∙ asked_here source tokens e plain_name s b is j k read
