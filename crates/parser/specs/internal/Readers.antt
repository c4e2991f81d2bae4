-- What a reader asks and answers, for the reading that it goes over.
use Rattle.std.specs.Prelude.{ℕ, List, [], ◌∷◌, Bool, true, false, ◌≡◌, ◌<◌, Result, Ok, IfOk}
use Rattle.std.specs.Borrow.{Bor, MutBor}
use Rattle.lexer.specs.declared.refusals.Refusal.{Refusal}
use Rattle.grammar.specs.Grammars.{Names, derived}
use Rattle.parser.specs.declared.Place.{Place}
use Rattle.parser.specs.declared.reading.Reading.{Reading}
use Rattle.parser.specs.internal.Steps.{Step, Within, step_at, step_of}
use Rattle.parser.specs.internal.Readings.{names_in, Reads17, ReadsIn, ReadsTexts, ReadsKinds}

-- a place is at a token or at the end, with no more than two rows for each token passed, and so many more
abbrev pub Stands : Reading → ℕ → Place → Type 0
Stands r more p = Within r.tokens.now more (step_at p)

-- .. and so is the place that a reader reached, with none more
abbrev pub Arrives : Reading → Result Place Refusal → Type 0
Arrives r result = IfOk result (λ (p : Place). Stands r 0 p)

-- the names in force
abbrev pub names_of : Reading → Names
names_of r = names_in r.source.now r.prepared.now r.tokens.now r.scope

-- with so many levels left, a reader of a nonterminal reads from a place on what the leftmost reading reads: at least so many tokens ..
abbrev pub ReadsBy : Reading → ℕ → ℕ → ℕ → Place → List ℕ → Result Place Refusal → List ℕ → Type 0
ReadsBy r n least x from table result after =
    ReadsIn r.source.now r.prepared.now r.tokens.now r.scope n least x (step_at from) table (step_of result) after

-- .. whatever names are in force, ..
abbrev pub ReadsTextsBy : Reading → ℕ → ℕ → ℕ → Place → List ℕ → Result Place Refusal → List ℕ → Type 0
ReadsTextsBy r n least x from table result after =
    ReadsTexts r.source.now r.tokens.now n least x (step_at from) table (step_of result) after

-- .. and whatever the texts are
abbrev pub ReadsKindsBy : Reading → ℕ → ℕ → ℕ → Place → List ℕ → Result Place Refusal → List ℕ → Type 0
ReadsKindsBy r n least x from table result after = ReadsKinds r.tokens.now n least x (step_at from) table (step_of result) after

-- a reader went on from a place by a token at least
abbrev pub Advances : Reading → Place → Result Place Refusal → Type 0
Advances r from result = (to : Place) → result ≡ Ok to → (from.token < to.token) × Stands r 0 to

-- what a test answers at a place, and what a reader makes of a table there
abbrev pub Asks : Type 1
Asks = Bor Reading → Place → Bool → Type 0

abbrev pub ReadsOne : Type 1
ReadsOne = Bor Reading → MutBor (List ℕ) → Place → ℕ → Result Place Refusal → MutBor (List ℕ) → Type 0

-- where a test says that a part begins, a reader can be called, and goes on
abbrev pub CanRepeat : Reading → ℕ → Asks → (Bor Reading → MutBor (List ℕ) → Place → ℕ → Type 0) → ReadsOne → Type 0
CanRepeat r n asks can reads =
    (of : Bor Reading) (rows : MutBor (List ℕ)) (at : Place) → of.now ≡ r → Stands r 0 at → asks of at true →
    can of rows at n × ((result : Result Place Refusal) (after : MutBor (List ℕ)) → reads of rows at n result after → Advances r at result)

-- a reader of a nonterminal, whatever the source and the names are taken to be
abbrev pub ReadsAt : Reading → List ℕ → Names → ℕ → ℕ → Step → List ℕ → Step → List ℕ → Type 0
ReadsAt r source e n x = Reads17 source r.tokens.now e n 0 (derived x ∷ [])

-- a nonterminal is as many parts as there are, by a test and a reader
pub record Repeats (r : Reading) (source : List ℕ) (e : Names) (n x : ℕ) (asks : Asks) (reads : ReadsOne) : Type 0 where
  -- where a part begins, the nonterminal is that part and then the nonterminal
  pub more : {of of' : Bor Reading} {rows after : MutBor (List ℕ)} {at : Place} {result : Result Place Refusal} {to : Step} {table : List ℕ}
      → of.now ≡ r → of'.now ≡ r → Stands r 0 at → asks of at true → reads of' rows at n result after
      → ReadsAt r source e n x (step_of result) after.now to table → ReadsAt r source e n x (step_at at) rows.now to table
  -- and elsewhere it is nothing
  pub ends : {of : Bor Reading} {at : Place} {table : List ℕ} → of.now ≡ r → Stands r 0 at → asks of at false
      → ReadsAt r source e n x (step_at at) table (step_at at) table
