-- The leftmost reading: from the first token on, always the production that the next token can begin and whose conditions at the
-- front are met, else the one that may derive no token. If several would do, it is the first of the table; that no two
-- would where a derivation goes on is tested (`exclusive` in proofs/).
use Rattle.std.specs.Prelude.{ℕ, zero, suc, ◌+◌, ◌*◌, Bool, true, List, [], ◌∷◌, ◌++◌, eqb, length}
use Rattle.lexer.specs.Tests.{and, pick, among}
use Rattle.tree.specs.TreeTable.{Row}
use Rattle.grammar.specs.Grammars.{end_of_tokens, next, Symbol, token, derived, condition, when, Makes, Production, Names, View, met}
use Rattle.grammar.specs.Rows.{made, passed, first_said, levels}
use Rattle.grammar.specs.executable.First.{can_begin, can_skip}

pub data Outcome : Type 0 where
  -- read up to a token: the rows, and the kind said for the row that this is a part of
  ok : ℕ → List Row → ℕ → Outcome
  -- a token that cannot be taken: refusal 6
  stuck : ℕ → Outcome
  -- a token where a row is called for and no level is left: refusal 7
  deep : ℕ → Outcome
  -- the fuel is spent
  spent : Outcome

-- the conditions at the front of some symbols are met
unfoldable pub ready : View → Names → ℕ → List Symbol → Bool
ready v e i [] = true
ready v e i (token cs ∷ ss) = true
ready v e i (derived x ∷ ss) = true
ready v e i (condition b q ∷ ss) = let rest = ready v e i ss in and (met v e i b q) rest

pub data Choice : Type 0 where
  none : Choice
  selected : Production → Choice

-- the first production of a nonterminal that passes a test and whose conditions are met
unfoldable pub find : View → Names → ℕ → ℕ → (Production → Bool) → List Production → Choice
find v e i x test [] = none
find v e i x test (p ∷ ps) =
    let rest = find v e i x test ps in
    let conditions = ready v e i p.right in
    let fits = and (test p) conditions in
    pick (and (eqb p.left x) fits) (selected p) rest

unfoldable pub otherwise : Choice → Choice → Choice
otherwise none c = c
otherwise (selected p) c = selected p

-- the production of a nonterminal that the reading takes at a token
unfoldable pub choice : List Production → View → Names → ℕ → ℕ → Choice
choice g v e x i =
    let c = v.class e i in
    let other = find v e i x (can_skip g c) g in
    otherwise (find v e i x (can_begin g c) g) other

-- what is read after a part that was read
unfoldable pub onward : Outcome → (ℕ → List Row → ℕ → Outcome) → Outcome
onward (ok j rows said) rest = rest j rows said
onward (stuck i) rest = stuck i
onward (deep i) rest = deep i
onward spent rest = spent

-- what is read below so many levels, of those that are left
unfoldable pub descend : ℕ → ℕ → ℕ → (ℕ → Outcome) → Outcome
descend zero left i below = below left
descend (suc l) zero i below = deep i
descend (suc l) (suc left) i below = descend l left i below

unfoldable pub enter : Choice → ℕ → ℕ → (Production → ℕ → Outcome) → Outcome
enter none left i within = stuck i
enter (selected p) left i within = descend (levels p.makes) left i (within p)

-- a production read from i to j, and what comes after it
unfoldable pub joined : Makes → ℕ → ℕ → List Row → ℕ → ℕ → List Row → ℕ → Outcome
joined makes i j inner said k rest later = ok k (made makes i j said inner ++ rest) (first_said (passed makes said) later)

-- `read_within g v fuel e n ss i`: the symbols ss from token i on, under the names e and with n levels left
unfoldable pub read_within : List Production → View → ℕ → Names → ℕ → List Symbol → ℕ → Outcome
read_within g v zero e n ss i = spent
read_within g v (suc fuel) e n [] i = ok i [] 0
read_within g v (suc fuel) e n (token cs ∷ ss) i =
    let rest = read_within g v fuel e n ss (suc i) in
    pick (among cs (v.class e i)) rest (stuck i)
read_within g v (suc fuel) e n (condition b q ∷ ss) i =
    let rest = read_within g v fuel e n ss i in
    pick (met v e i b q) rest (stuck i)
read_within g v (suc fuel) e n (derived x ∷ ss) i =
    enter (choice g v (v.inside x i e) x i) n i (λ (p : Production) (below : ℕ).
    onward (read_within g v fuel (v.inside x i e) below p.right i) (λ (j : ℕ) (inner : List Row) (said : ℕ).
    onward (read_within g v fuel e n ss j) (joined p.makes i j inner said)))

-- the symbols of a table, and one for each production
unfoldable pub breadth : List Production → ℕ
breadth [] = 0
breadth (p ∷ ps) = suc (length p.right) + breadth ps

-- a nonterminal and then the end of the tokens
abbrev pub whole : ℕ → List Symbol
whole x = derived x ∷ when (next (end_of_tokens ∷ [])) ∷ []

-- The reading of a token list of so many tokens, under the names e and with n levels. Its fuel is any that suffices: for a table
-- that passes the tests it is never spent (`never_spent` in proofs/), and more changes nothing (`more_fuel`).
unfoldable pub reading : List Production → View → ℕ → Names → ℕ → ℕ → Outcome
reading g v count e n x = read_within g v (suc count * suc (breadth g)) e n (whole x) 0
