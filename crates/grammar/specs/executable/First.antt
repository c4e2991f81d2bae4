-- Which tokens can begin what a symbol derives, computed from the productions.
use Rattle.std.specs.Prelude.{ℕ, zero, suc, Bool, true, false, List, [], ◌∷◌, eqb, length}
use Rattle.lexer.specs.Tests.{and, or, among}
use Rattle.grammar.specs.Grammars.{Condition, next, query, Symbol, token, derived, condition, Production, agrees}

-- whether a condition can be met before a token of class c; a question, which asks for more than the next token, always can
unfoldable pub allows : ℕ → Bool → Condition → Bool
allows c b (next cs) = agrees b (among cs c)
allows c b (query q) = true

-- whether symbols can derive no token before one of class c, given which nonterminals can
unfoldable pub skips : ℕ → (ℕ → Bool) → List Symbol → Bool
skips c empty [] = true
skips c empty (token cs ∷ ss) = false
skips c empty (derived x ∷ ss) = let rest = skips c empty ss in and (empty x) rest
skips c empty (condition b q ∷ ss) = let rest = skips c empty ss in and (allows c b q) rest

-- whether symbols can begin with a token of class c, given which nonterminals can, and which can derive no token before it
unfoldable pub starts : ℕ → (ℕ → Bool) → (ℕ → Bool) → List Symbol → Bool
starts c first empty [] = false
starts c first empty (token cs ∷ ss) = among cs c
starts c first empty (derived x ∷ ss) =
    let rest = starts c first empty ss in
    let later = and (empty x) rest in
    or (first x) later
starts c first empty (condition b q ∷ ss) = let rest = starts c first empty ss in and (allows c b q) rest

-- whether some production of a nonterminal passes a test of its right side
unfoldable pub any_of : ℕ → (List Symbol → Bool) → List Production → Bool
any_of x test [] = false
any_of x test (p ∷ ps) =
    let rest = any_of x test ps in
    let here = test p.right in
    or (and (eqb p.left x) here) rest

-- whether a nonterminal can derive no token before one of class c, or begin with one, looking through at most so many
-- nonterminals, one at the front of the other
unfoldable pub empty_within : List Production → ℕ → ℕ → ℕ → Bool
empty_within g zero c x = false
empty_within g (suc d) c x = any_of x (skips c (empty_within g d c)) g

unfoldable pub first_within : List Production → ℕ → ℕ → ℕ → Bool
first_within g zero c x = false
first_within g (suc d) c x = any_of x (starts c (first_within g d c) (empty_within g d c)) g

-- no more than the table has productions need be looked through
unfoldable pub empty : List Production → ℕ → ℕ → Bool
empty g c x = empty_within g (length g) c x

unfoldable pub first : List Production → ℕ → ℕ → Bool
first g c x = first_within g (length g) c x

-- whether what a production derives can begin with a token of class c, or derives no token before one
unfoldable pub can_begin : List Production → ℕ → Production → Bool
can_begin g c p = starts c (first g c) (empty g c) p.right

unfoldable pub can_skip : List Production → ℕ → Production → Bool
can_skip g c p = skips c (empty g c) p.right
