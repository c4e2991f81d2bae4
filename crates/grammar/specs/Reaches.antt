-- How far leftmost derivations come that need not be finished, and by it the places of refusals 6 and 7.
use Rattle.std.specs.Prelude.{ℕ, suc, ◌+◌, ◌≤◌, ◌≡◌, Bool, true, List, [], ◌∷◌}
use Rattle.lexer.specs.Tests.{among}
use Rattle.tree.specs.TreeTable.{Row}
use Rattle.grammar.specs.Grammars.{Condition, Symbol, token, derived, condition, Production, Names, View, met}
use Rattle.grammar.specs.Rows.{levels}
use Rattle.grammar.specs.Derivations.{Has, Derives, Derivation}

-- `Reaches g v e n ss i p`: under the names e and with n levels left, a leftmost derivation from the symbols ss takes the tokens
-- from i up to but not with p, and stops there, finished or not. It may stop before any symbol, and what it stops before is not
-- asked. A condition that it goes past is met, of all the tokens. Any production of a nonterminal may be used.
pub data Reaches (g : List Production) (v : View) : Names → ℕ → List Symbol → ℕ → ℕ → Type 0 where
  stops : {e : Names} {n i : ℕ} {ss : List Symbol} → Reaches g v e n ss i i
  takes : {e : Names} {n i p : ℕ} {cs : List ℕ} {ss : List Symbol}
      → among cs (v.class e i) ≡ true → Reaches g v e n ss (suc i) p → Reaches g v e n (token cs ∷ ss) i p
  meets : {e : Names} {n i p : ℕ} {b : Bool} {q : Condition} {ss : List Symbol}
      → met v e i b q ≡ true → Reaches g v e n ss i p → Reaches g v e n (condition b q ∷ ss) i p
  -- it stops inside a nonterminal
  enters : {e : Names} {n below i p x : ℕ} {q : Production} {ss : List Symbol}
      → Has g q → q.left ≡ x → n ≡ levels q.makes + below
      → Reaches g v (v.inside x i e) below q.right i p → Reaches g v e n (derived x ∷ ss) i p
  -- it goes on after a nonterminal that derives the tokens from i up to but not with j
  leaves : {e : Names} {n below i j p x said : ℕ} {q : Production} {ss : List Symbol} {inner : List Row}
      → Has g q → q.left ≡ x → n ≡ levels q.makes + below → Derives g v (v.inside x i e) below q.right i j inner said
      → Reaches g v e n ss j p → Reaches g v e n (derived x ∷ ss) i p

-- some leftmost derivation from the nonterminal x, nested at most n levels and finished or not, takes exactly the first p tokens
abbrev pub Reached : List Production → View → Names → ℕ → ℕ → ℕ → Type 0
Reached g v e x n p = Reaches g v e n (derived x ∷ []) 0 p

-- for a table g whose start is x, a token list of so many tokens, the names e, and a limit of n levels
module _ (g : List Production) (v : View) (count : ℕ) (e : Names) (x n : ℕ) where
  -- 6 at a place: there is no derivation at any depth, and the place is the furthest that is reached at any depth, so that it is "the
  -- token that the leftmost reading .. cannot take". It is reached within the limit; where it is not, 7 comes first.
  pub record NoProgram (place : ℕ) : Type 0 where
    pub none : (m : ℕ) (rows : List Row) → Derivation g v count e m x rows → ⊥
    pub reached : Reached g v e x n place
    pub furthest : (m p : ℕ) → Reached g v e x m p → p ≤ place

  -- 7 at a place: it is the furthest that is reached within the limit, and at some depth the token there is taken: it "can begin the
  -- row called for", but that row would be past the limit. So there is no derivation within the limit.
  pub record TooDeep (place : ℕ) : Type 0 where
    pub reached : Reached g v e x n place
    pub furthest : (p : ℕ) → Reached g v e x n p → p ≤ place
    pub depth : ℕ
    pub deeper : Reached g v e x depth (suc place)
