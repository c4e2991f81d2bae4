-- What a reader answers, and what is known where a `?` leaves it or goes on. Assumes nothing.
use Prim.Native.Nat.{ℕ, suc, ◌+◌, ◌<◌, ◌≤◌}
use mathlib.Core.Path.{◌≡◌, refl, ap, ◌∙◌}
use mathlib.Core.Bool.{Bool, true}
use mathlib.Core.List.{List, [], ◌∷◌}
use native.Mathlib.Omega.{arith}
use native.Mathlib.Nat.{pos_of_ne-zero}
use lib.Dec.{eqb}
use borrow.Author.Tests.{eqb-true}
use Rattle.std.specs.Prelude.{Result, Err, IsErrAnd}
use Rattle.std.proofs.lemmas.Result.{err_from_is_err_and}
use Rattle.lexer.specs.Tests.{among}
use Rattle.lexer.specs.Table.{token_room}
use Rattle.lexer.specs.internal.RefusalNumbers.{reason_number}
use Rattle.lexer.specs.internal.TokenRows.{rows_of, kind_at}
use Rattle.lexer.specs.internal.KindNumbers.{kind_number}
use Rattle.lexer.specs.declared.kinds.TokenKind.{TokenKind}
use Rattle.lexer.specs.declared.kinds.TokenKind.TheVariants as kinds
use Rattle.lexer.specs.declared.refusals.Refusal.{Refusal}
use Rattle.grammar.specs.Grammars.{Symbol, derived, Makes, gives_row, Production, Names, View}
use Rattle.grammar.specs.Nurl.{productions}
use Rattle.grammar.specs.Languages.{language17}
use Rattle.grammar.specs.Sources.{view_of}
use Rattle.grammar.specs.internal.Alternatives.{kind_alternative}
use Rattle.parser.specs.internal.Readings.{Reads, refused6, refused7}
use Rattle.parser.specs.internal.Steps.{Step, Read, Refused, Within, inside, Tokens, next_kind, step_at, step_of, Closable, spans}
use Rattle.parser.specs.internal.Steps.{opened, closed, refused_at, word_kinds}
use Rattle.parser.specs.internal.Readers.{names_of}
use Rattle.parser.specs.declared.Place.{Place}
use Rattle.parser.specs.declared.reading.Reading.{Reading}
use Rattle.parser.proofs.Laws.After.{After, stopped6, stopped7, passed_on, within_wider, within_small}
use Rattle.parser.proofs.Laws.Views.{kind-inside, names_fixed}
use Rattle.parser.proofs.Laws.Kinds.{word-inside}
use Rattle.parser.proofs.Laws.Readers.{closing, closed_by}
use Rattle.parser.specs.internal.Readings as readings

-- where no more rows than two for each token are passed, one row more is allowed
pub wide : {tokens : List ℕ} {p : Place} → Within tokens 0 (step_at p) → Within tokens 1 (step_at p)
wide {tokens} within = within_wider tokens within (omega arith)

-- where a reader has come to, as many rows as two for each token are passed
pub arrived : {tokens : List ℕ} {p : Place} {g : List Production} {v : View} {e : Names} {n least : ℕ} {ss : List Symbol} {s : Step} {t t' : List ℕ}
    → Reads g v (token_room tokens) e n least 0 ss s t (step_at p) t' → Within tokens 0 (step_at p)
arrived (readings.read d rows table from few to) = inside few (omega arith)

-- what a `?` answers where it leaves
pub exit : (r : Result Place Refusal) (d : Refusal) → IsErrAnd r (λ (y : Refusal). y ≡ d) → step_of r ≡ Refused (reason_number d.reason) d.place
exit r d h = let p = err_from_is_err_and r h in rw (p.1, p.2)

-- a part after a refusal, which it passes on
pub passed : {g : List Production} {v : View} {count : ℕ} {e : Names} {n least more : ℕ} {ss : List Symbol} {number place : ℕ} {t : List ℕ}
    → Reads g v count e n least more ss (Refused number place) t (Refused number place) t
passed = readings.refused_before refl

-- a production whose reading was refused on the way
stops : {g : List Production} {v : View} {count : ℕ} {e : Names} {n below least more least' more' : ℕ} {m : Makes} {ts ss : List Symbol}
    {s : Step} {number place : ℕ} {t t' : List ℕ}
    → After g v count e n below m least more ts ss s t (Refused number place) t'
    → Reads g v count e n least' more' ts s t (Refused number place) t'
stops (stopped6 d l) = refused6 d l
stops (stopped7 d l) = refused7 d l
stops (passed_on l) = readings.refused_before l

-- .. and the reader left by a `?`
pub leaves : (r : Result Place Refusal) (d : Refusal) {g : List Production} {v : View} {count : ℕ} {e : Names}
    {n below least more least' more' : ℕ} {m : Makes} {ts ss : List Symbol} {s : Step} {t t' : List ℕ}
    → IsErrAnd r (λ (y : Refusal). y ≡ d)
    → After g v count e n below m least more ts ss s t (Refused (reason_number d.reason) d.place) t'
    → Reads g v count e n least' more' ts s t (step_of r) t'
leaves r d h a = rw (exit r d h) (stops a)

-- a `?` that leaves where no level is left: what is read there is too deep
pub no_level : (r : Result Place Refusal) (d : Refusal) {left : ℕ} {g : List Production} {v : View} {count : ℕ} {e : Names} {n least more : ℕ}
    {ss : List Symbol} {s : Step} {t : List ℕ}
    → IsErrAnd r (λ (y : Refusal). y ≡ d) → (left ≡ 0) × (step_of (Err d) ≡ refused_at 7 s)
    → (left ≡ 0 → Reads g v count e n least more ss s t (refused_at 7 s) t)
    → Reads g v count e n least more ss s t (step_of r) t
no_level r d h spent deep = rw (exit r d h ∙ spent.1) (deep spent.0)

-- the levels left, and one more than those below
pub same_level : (below : ℕ) {left : ℕ} {g : List Production} {v : View} {count : ℕ} {e : Names} {least more : ℕ} {ss : List Symbol} {s s' : Step}
    {t t' : List ℕ}
    → left ≡ below + 1 → Reads g v count e (below + 1) least more ss s t s' t' → Reads g v count e left least more ss s t s' t'
same_level below is d = rw is d

-- a kind of token has a number
pub kind_some : (k : TokenKind) → 0 < kind_number k
kind_some kinds.Ident = omega arith
kind_some kinds.Keyword = omega arith
kind_some kinds.Boolean = omega arith
kind_some kinds.Sizeof = omega arith
kind_some kinds.Int = omega arith
kind_some kinds.Float = omega arith
kind_some kinds.String = omega arith
kind_some kinds.Dollar = omega arith
kind_some kinds.Ampersand = omega arith
kind_some kinds.At = omega arith
kind_some kinds.Percent = omega arith
kind_some kinds.Colon = omega arith
kind_some kinds.Bar = omega arith
kind_some kinds.Equal = omega arith
kind_some kinds.Semicolon = omega arith
kind_some kinds.Tilde = omega arith
kind_some kinds.LeftBrace = omega arith
kind_some kinds.RightBrace = omega arith
kind_some kinds.LeftParen = omega arith
kind_some kinds.RightParen = omega arith
kind_some kinds.LeftBracket = omega arith
kind_some kinds.RightBracket = omega arith
kind_some kinds.Bang = omega arith
kind_some kinds.Caret = omega arith
kind_some kinds.Backslash = omega arith
kind_some kinds.Question = omega arith
kind_some kinds.Dot = omega arith
kind_some kinds.Hash = omega arith
kind_some kinds.Star = omega arith
kind_some kinds.Plus = omega arith
kind_some kinds.Minus = omega arith
kind_some kinds.Slash = omega arith
kind_some kinds.Less = omega arith
kind_some kinds.Greater = omega arith
kind_some kinds.EqualEqual = omega arith
kind_some kinds.BangEqual = omega arith
kind_some kinds.LessEqual = omega arith
kind_some kinds.GreaterEqual = omega arith
kind_some kinds.LessLess = omega arith
kind_some kinds.GreaterGreater = omega arith
kind_some kinds.QuestionQuestion = omega arith
kind_some kinds.Arrow = omega arith

-- a token that begins something is one of the table
pub opened_within : {tokens : List ℕ} {at row : ℕ} → Within tokens 1 (Read at row) → 0 < next_kind tokens (Read at row)
    → Within tokens 0 (Read (at + 1) (row + 1))
unfolding next_kind
opened_within {tokens} {at} {row} (inside few to) some =
    let room = kind-inside tokens at (kind_at tokens at) refl some in
    inside {at = at + 1} {row = row + 1} (omega arith) (omega arith)

-- .. and so is one of a kind
pub taken_within : {tokens : List ℕ} {at row : ℕ} (k : TokenKind) → Within tokens 1 (Read at row)
    → eqb (next_kind tokens (Read at row)) (kind_number k) ≡ true → Within tokens 0 (Read (at + 1) row)
unfolding next_kind
taken_within {tokens} {at} {row} k (inside few to) is =
    let some = kind_some k in
    let room = kind-inside tokens at (kind_number k) (eqb-true (kind_at tokens at) (kind_number k) is) some in
    inside {at = at + 1} {row = row} (omega arith) (omega arith)

-- .. or a word
pub taken_word_within : {tokens : List ℕ} {at row : ℕ} (keywords : Bool) → Within tokens 1 (Read at row)
    → among (word_kinds keywords) (next_kind tokens (Read at row)) ≡ true → Within tokens 0 (Read (at + 1) row)
unfolding next_kind
taken_word_within {tokens} {at} {row} keywords (inside few to) is =
    let room = word-inside keywords tokens at is in
    inside {at = at + 1} {row = row} (omega arith) (omega arith)

-- what begins an alternative is a token
pub some_kind : {a : ℕ} (x : ℕ) → kind_alternative x 0 ≡ 0 → (kind : ℕ) → kind_alternative x kind ≡ suc a → 0 < kind
some_kind x ends kind is =
    pos_of_ne-zero (λ (z : kind ≡ 0). let gone : kind_alternative x kind ≡ 0 = ap (kind_alternative x) z ∙ ends in absurd (omega arith))

pub some_alternative : (x : ℕ) → kind_alternative x 0 ≡ 0 → (kind : ℕ) → (kind_alternative x kind ≡ 0 → ⊥) → 0 < kind
some_alternative x ends kind not = pos_of_ne-zero (λ (z : kind ≡ 0). not (ap (kind_alternative x) z ∙ ends))

-- the token that begins a row is one of the table
pub closable_leaf : {tokens : List ℕ} {at row : ℕ} → Tokens tokens → Within tokens 1 (Read at row) → 0 < next_kind tokens (Read at row)
    → Closable (Read at row) (opened (Read at row))
unfolding opened
closable_leaf {tokens} {at} {row} good within some = (
  within_small tokens good.few (omega arith) within,
  (
    within_small tokens {more = 0} good.few (omega arith) (opened_within within some),
    spans {at = at} {row = row} {next = at + 1} {last = row + 1} (omega arith) (omega arith),
  ),
)

-- a production is read whole below its row: ..
module _ (source tokens : List ℕ) (good : Tokens tokens) (e : Names) where
  abbrev v : View
  v = view_of language17 source (rows_of tokens)

  -- .. what closing the row asks, ..
  pub closable : {n below least kind : ℕ} {ts ss : List Symbol} {s s' : Step} {t t' : List ℕ} → Within tokens 1 s
      → After productions v (token_room tokens) e n below (gives_row kind) least 0 ts ss s t s' t' → Closable s s'
  closable = closing productions v tokens e (names_fixed source tokens good e) good

  -- .. and what is read then
  pub row_read : {n below least kind x : ℕ} {from to answer : Place} {t t' after : List ℕ}
      → After productions v (token_room tokens) e n below (gives_row kind) least 0 (derived x ∷ []) [] (step_at from) t (step_at to) t'
      → 1 ≤ least → answer ≡ to → after ≡ closed kind (step_at from) (step_at to) t'
      → Reads productions v (token_room tokens) e n 1 0 (derived x ∷ []) (step_at from) t (step_at answer) after
  row_read a enough is table =
      closed_by productions v tokens e (names_fixed source tokens good e) a enough (ap step_at is) table

-- a row of kind is begun below x with one level less, and the symbols ss are left: what its reader knows on the way
abbrev pub Begun : Reading → ℕ → ℕ → ℕ → List Symbol → Place → List ℕ → Place → List ℕ → Type 0
Begun r below kind x ss from table to after =
    After productions (view_of language17 r.source.now (rows_of r.tokens.now)) (token_room r.tokens.now) (names_of r) (below + 1) below
    (gives_row kind) 1 0 (derived x ∷ []) ss (step_at from) table (step_at to) after
