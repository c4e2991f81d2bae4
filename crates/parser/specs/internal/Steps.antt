-- How far a reading has come, and the small steps that a reading is made of. A refusal is passed on by every step.
use Rattle.std.specs.Prelude.{ℕ, ◌+◌, ◌-◌, ◌*◌, ◌^◌, ◌<◌, ◌≤◌, ◌≡◌, Bool, true, false, List, [], ◌∷◌, eqb, ltb, drop, Result, Ok, Err}
use Rattle.lexer.specs.Refusals.{refusal_number}
use Rattle.lexer.specs.Tests.{and, between, pick, among}
use Rattle.lexer.specs.internal.Kinds.{ident, keyword, boolean, first_kind, last_kind}
use Rattle.lexer.specs.Table.{source_limit, token_room}
use Rattle.lexer.specs.internal.TokenRows.{rows_of, kind_at}
use Rattle.lexer.specs.Items.{items}
use Rattle.tree.specs.internal.Trees.{put_row}
use Rattle.grammar.specs.Grammars.{end_of_tokens, Condition, Names, asked}
use Rattle.grammar.specs.internal.Nonterminals.{type}
use Rattle.grammar.specs.Questions.{run_of}
use Rattle.grammar.specs.Nurl.{plain_name}
use Rattle.grammar.specs.Languages.{language17}
use Rattle.grammar.specs.Sources.{view_of}
use Rattle.grammar.specs.internal.Alternatives.{kind_alternative}
use Rattle.lexer.specs.internal.RefusalNumbers.{reason_number}
use Rattle.lexer.specs.declared.refusals.Refusal.{Refusal}
use Rattle.parser.specs.declared.Place.{Place}

-- how far a reading has come: the next token and the next row, or a refusal's number and place
pub data Step : Type 0 where
  Read : (token row : ℕ) → Step
  Refused : (number place : ℕ) → Step

-- the step at a place ..
abbrev pub step_at : Place → Step
step_at p = Read p.token p.row

-- .. and the step that a reader answers
abbrev pub step_of : Result Place Refusal → Step
step_of (Ok p) = step_at p
step_of (Err r) = Refused (reason_number r.reason) r.place

-- what every reader asks of a token table: no more tokens than a source can have, each of a kind of document 01
pub record Tokens (tokens : List ℕ) : Type 0 where
  pub few : token_room tokens ≤ source_limit
  pub kinds : (at : ℕ) → at < token_room tokens → between first_kind last_kind (kind_at tokens at) ≡ true

-- .. and of the step that it goes on from: a token of the table or its end, with no more than two rows for each token passed, and so
-- many more; nothing of a refusal
pub data Within (tokens : List ℕ) (more : ℕ) : Step → Type 0 where
  inside : {at row : ℕ} → at ≤ token_room tokens → row ≤ 2 * at + more → Within tokens more (Read at row)
  elsewhere : {number place : ℕ} → Within tokens more (Refused number place)

-- a step whose token and row, and those after them, have numbers of 32 bits
pub data Small : Step → Type 0 where
  small : {at row : ℕ} → at + 1 < 2 ^ 32 → row + 1 < 2 ^ 32 → Small (Read at row)
  over : {number place : ℕ} → Small (Refused number place)

-- the second step lies after the first, and at least one row on; nothing is asked where either is a refusal
pub data Spans : Step → Step → Type 0 where
  spans : {at row next last : ℕ} → at ≤ next → row < last → Spans (Read at row) (Read next last)
  from_refused : {number place : ℕ} {to : Step} → Spans (Refused number place) to
  to_refused : {at row number place : ℕ} → Spans (Read at row) (Refused number place)

-- what closing a row over all that lies between two steps asks
abbrev pub Closable : Step → Step → Type 0
Closable from to = (Small from) × ((Small to) × (Spans from to))

-- the kind of the next token, 0 at the end and after a refusal
unfoldable pub next_kind : List ℕ → Step → ℕ
next_kind tokens (Read at row) = kind_at tokens at
next_kind tokens (Refused number place) = end_of_tokens

-- whether the tokens from a token on are of these kinds
unfoldable pub kinds_at : List ℕ → ℕ → List ℕ → Bool
kinds_at tokens at [] = true
kinds_at tokens at (k ∷ ks) = and (eqb (kind_at tokens at) k) (kinds_at tokens (at + 1) ks)

-- whether the next token begins a nonterminal: a type, an expression, a statement or a declaration
unfoldable pub begins_part : ℕ → List ℕ → Step → Bool
begins_part x tokens step = ltb 0 (kind_alternative x (next_kind tokens step))

-- whether a condition is met at the next token; after a refusal none is
unfoldable pub asked_at : Condition → List ℕ → List ℕ → Names → Step → Bool
asked_at q source tokens e (Read at row) = asked (view_of language17 source (rows_of tokens)) e at q
asked_at q source tokens e (Refused number place) = false

-- .. one that asks for no names
abbrev pub AnswersTexts : Condition → List ℕ → List ℕ → Step → Bool → Type 0
AnswersTexts q source tokens step answer = (e : Names) → answer ≡ asked_at q source tokens e step

-- .. one that asks neither for texts nor for names
abbrev pub AnswersKinds : Condition → List ℕ → Step → Bool → Type 0
AnswersKinds q tokens step answer = (source : List ℕ) (e : Names) → answer ≡ asked_at q source tokens e step

-- rule 4: whether the next token begins a payload's type
unfoldable pub payload_begins : List ℕ → List ℕ → Names → Step → Bool
payload_begins source tokens e step =
    let typed = begins_part type tokens step in
    pick (asked_at plain_name source tokens e step) false typed

-- a refusal with this number at the next token
unfoldable pub refused_at : ℕ → Step → Step
refused_at number (Read at row) = Refused number at
refused_at number (Refused earlier place) = Refused earlier place

-- the next token taken, if it passes a test
unfoldable pub taken_by : (ℕ → Bool) → Step → Step
taken_by test (Read at row) = pick (test at) (Read (at + 1) row) (Refused (refusal_number "no program") at)
taken_by test (Refused number place) = Refused number place

-- .. if it is of this kind
abbrev pub taken_kind : List ℕ → ℕ → Step → Step
taken_kind tokens kind = taken_by (λ (at : ℕ). eqb (kind_at tokens at) kind)

-- the next token taken, where it is of this kind
unfoldable pub taken_if : List ℕ → ℕ → Step → Step
taken_if tokens kind (Read at row) = pick (eqb (kind_at tokens at) kind) (Read (at + 1) row) (Read at row)
taken_if tokens kind (Refused number place) = Refused number place

-- the kinds of words, without keywords and with them
unfoldable pub word_kinds : Bool → List ℕ
word_kinds false = ident ∷ boolean ∷ []
word_kinds true = ident ∷ boolean ∷ keyword ∷ []

-- where the words from a token on end
abbrev pub WordsEnd : Bool → List ℕ → ℕ → ℕ → Type 0
WordsEnd keywords tokens at end =
    (source : List ℕ) → end ≡ at + run_of (word_kinds keywords) (drop at (items source (rows_of tokens)))

-- the next token taken, if it is a word
abbrev pub taken_word : List ℕ → Bool → Step → Step
taken_word tokens keywords = taken_by (λ (at : ℕ). among (word_kinds keywords) (kind_at tokens at))

-- the next token taken and the next row left for what begins there
unfoldable pub opened : Step → Step
opened (Read at row) = Read (at + 1) (row + 1)
opened (Refused number place) = Refused number place

-- the next row left for what begins at the next token
unfoldable pub row_left : Step → Step
row_left (Read at row) = Read at (row + 1)
row_left (Refused number place) = Refused number place

-- the table with a row of this kind over all that lies between two steps
unfoldable pub closed : ℕ → Step → Step → List ℕ → List ℕ
closed kind (Refused number place) to table = table
closed kind (Read at row) (Refused number place) table = table
closed kind (Read at row) (Read next last) table =
    put_row row (record { kind = kind; first = at; cover = next - at; count = last - row }) table
