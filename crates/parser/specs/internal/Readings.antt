-- What the leftmost reading says of some symbols from a token on, and what a reader answers by it.
use Rattle.std.specs.Prelude.{ℕ, ◌+◌, ◌*◌, ◌≤◌, ◌≡◌, List, [], ◌∷◌, length}
use Rattle.lexer.specs.Refusals.{refusal_number}
use Rattle.lexer.specs.Table.{token_room}
use Rattle.lexer.specs.internal.TokenRows.{rows_of}
use Rattle.lexer.specs.Items.{items}
use Rattle.typenames.specs.internal.Scopes.{in_force}
use Rattle.typenames.specs.internal.Prepared.{prepared_names}
use Rattle.typenames.specs.declared.Scope.{Scope}
use Rattle.tree.specs.TreeTable.{Row}
use Rattle.tree.specs.internal.Trees.{put}
use Rattle.grammar.specs.Grammars.{Symbol, derived, Production, Names, View}
use Rattle.grammar.specs.executable.Reading.{Outcome, ok, stuck, deep, read_within, whole}
use Rattle.grammar.specs.internal.Nonterminals.{program}
use Rattle.grammar.specs.Nurl.{productions}
use Rattle.grammar.specs.Languages.{language17}
use Rattle.grammar.specs.Sources.{view_of}
use Rattle.parser.specs.internal.Steps.{Step}
use Rattle.parser.specs.internal.Steps.{Read, Refused}

-- from some fuel on, the reading of the symbols ss from token i, under the names e and with n levels left, gives this outcome
pub record Gives (g : List Production) (v : View) (e : Names) (n : ℕ) (ss : List Symbol) (i : ℕ) (o : Outcome) : Type 0 where
  pub fuel : ℕ
  pub reads : (more : ℕ) → read_within g v (more + fuel) e n ss i ≡ o

-- What a reader of the symbols ss answers, and what it leaves in the tree table, from a step and a table on. It takes at least so
-- many tokens, and up to the last of count; there are at most two rows for each token passed, and so many more.
pub data Reads (g : List Production) (v : View) (count : ℕ) (e : Names) (n least more : ℕ) (ss : List Symbol)
    : Step → List ℕ → Step → List ℕ → Type 0 where
  -- what the reading reads: its rows are put into the table from the given row on
  read : {i r j k : ℕ} {rows : List Row} {table after : List ℕ} → Gives g v e n ss i (ok j rows 0)
      → k ≡ r + length rows → after ≡ put r rows table → i + least ≤ j → j ≤ count → k ≤ 2 * j + more
      → Reads g v count e n least more ss (Read i r) table (Read j k) after
  -- a token that the reading cannot take
  refused6 : {i r place : ℕ} {table after : List ℕ} → Gives g v e n ss i (stuck place) → length after ≡ length table
      → Reads g v count e n least more ss (Read i r) table (Refused (refusal_number "no program") place) after
  -- a token where the reading is too deep
  refused7 : {i r place : ℕ} {table after : List ℕ} → Gives g v e n ss i (deep place) → length after ≡ length table
      → Reads g v count e n least more ss (Read i r) table (Refused (refusal_number "too deep") place) after
  -- an earlier refusal
  refused_before : {number place : ℕ} {table after : List ℕ} → length after ≡ length table
      → Reads g v count e n least more ss (Refused number place) table (Refused number place) after

-- for grammar 1.7: the tokens of a table, with their texts in a source
abbrev pub Reads17 : List ℕ → List ℕ → Names → ℕ → ℕ → List Symbol → Step → List ℕ → Step → List ℕ → Type 0
Reads17 source tokens e n least =
    Reads productions (view_of language17 source (rows_of tokens)) (token_room tokens) e n least 0

-- the names in force, by a prepared list and the tokens of a table
abbrev pub names_in : List ℕ → List ℕ → List ℕ → Scope → Names
names_in source prepared tokens scope = in_force scope (prepared_names language17.opening prepared (items source (rows_of tokens)))

-- a reader of the nonterminal x ..
abbrev pub ReadsIn : List ℕ → List ℕ → List ℕ → Scope → ℕ → ℕ → ℕ → Step → List ℕ → Step → List ℕ → Type 0
ReadsIn source prepared tokens scope n least x = Reads17 source tokens (names_in source prepared tokens scope) n least (derived x ∷ [])

-- .. that asks for no names
abbrev pub ReadsTexts : List ℕ → List ℕ → ℕ → ℕ → ℕ → Step → List ℕ → Step → List ℕ → Type 0
ReadsTexts source tokens n least x from table to after =
    (e : Names) → Reads17 source tokens e n least (derived x ∷ []) from table to after

-- .. that asks neither for texts nor for names
abbrev pub ReadsKinds : List ℕ → ℕ → ℕ → ℕ → Step → List ℕ → Step → List ℕ → Type 0
ReadsKinds tokens n least x from table to after =
    (source : List ℕ) (e : Names) → Reads17 source tokens e n least (derived x ∷ []) from table to after

-- .. and makes no rows
abbrev pub ReadsNoRows : List ℕ → ℕ → ℕ → Step → Step → Type 0
ReadsNoRows tokens least x from to = (n : ℕ) (table : List ℕ) → ReadsKinds tokens n least x from table to table

-- a reader of some symbols from the first token and row on, with one row more than two for each token
abbrev pub ReadsAll : List Symbol → List ℕ → List ℕ → List ℕ → Scope → ℕ → List ℕ → Step → List ℕ → Type 0
ReadsAll ss source prepared tokens scope n table to after =
    let e = names_in source prepared tokens scope in
    let v = view_of language17 source (rows_of tokens) in
    Reads productions v (token_room tokens) e n 0 1 ss (Read 0 0) table to after

-- .. of a whole program
abbrev pub ReadsWhole : List ℕ → List ℕ → List ℕ → Scope → ℕ → List ℕ → Step → List ℕ → Type 0
ReadsWhole = ReadsAll (whole program)
