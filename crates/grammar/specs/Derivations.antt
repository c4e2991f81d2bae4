-- Derivations: what the productions of a grammar derive from some tokens.
use Rattle.std.specs.Prelude.{ℕ, suc, ◌+◌, ◌≡◌, Bool, true, List, [], ◌∷◌, ◌++◌}
use Rattle.lexer.specs.Tests.{among}
use Rattle.tree.specs.TreeTable.{Row}
use Rattle.grammar.specs.Grammars.{Condition, Symbol, token, derived, condition, Production, Names, View, met}
use Rattle.grammar.specs.Rows.{made, passed, first_said, levels}

-- a production of a table
pub data Has : List Production → Production → Type 0 where
  here : {p : Production} {ps : List Production} → Has (p ∷ ps) p
  there : {p q : Production} {ps : List Production} → Has ps p → Has (q ∷ ps) p

-- `Derives g v e n ss i j rows said`: under the names e and with n levels left, the symbols ss derive the tokens from i up to
-- but not with j; the rows of that are `rows`, parent first, and `said` is the kind it says for the row that it is a part of.
-- Any production of a nonterminal may be used, and nothing is asked of the tokens but what the symbols say. A nonterminal may
-- have more names in force inside it than stand outside.
pub data Derives (g : List Production) (v : View) : Names → ℕ → List Symbol → ℕ → ℕ → List Row → ℕ → Type 0 where
  end : {e : Names} {n i : ℕ} → Derives g v e n [] i i [] 0
  taken : {e : Names} {n i j said : ℕ} {cs : List ℕ} {ss : List Symbol} {rows : List Row}
      → among cs (v.class e i) ≡ true → Derives g v e n ss (suc i) j rows said → Derives g v e n (token cs ∷ ss) i j rows said
  held : {e : Names} {n i j said : ℕ} {b : Bool} {q : Condition} {ss : List Symbol} {rows : List Row}
      → met v e i b q ≡ true → Derives g v e n ss i j rows said → Derives g v e n (condition b q ∷ ss) i j rows said
  entered : {e : Names} {n below i j k x said later : ℕ} {p : Production} {ss : List Symbol} {inner rest : List Row}
      → Has g p → p.left ≡ x → n ≡ levels p.makes + below
      → Derives g v (v.inside x i e) below p.right i j inner said → Derives g v e n ss j k rest later
      → Derives g v e n (derived x ∷ ss) i k (made p.makes i j said inner ++ rest) (first_said (passed p.makes said) later)

-- A derivation of a token list of so many tokens: it "takes all the tokens". It is nested at most n levels: "The program row is
-- level 1, a child is its parent's level plus one", so that a row at level k is entered with n - k + 1 levels left. "At any depth"
-- is: for some n.
pub data Derivation (g : List Production) (v : View) (count : ℕ) (e : Names) (n x : ℕ) (rows : List Row) : Type 0 where
  derivation : {said : ℕ} → Derives g v e n (derived x ∷ []) 0 count rows said → Derivation g v count e n x rows
