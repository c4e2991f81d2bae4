-- Which alternative of a nonterminal the reading takes before a token, as a number: what readers ask of a token's kind.
use Rattle.std.specs.Prelude.{ℕ, zero, suc, Bool, false, List, [], ◌∷◌, eqb, leb}
use Rattle.lexer.specs.Tests.{and, pick}
use Rattle.lexer.specs.internal.Kinds.{ident, last_kind}
use Rattle.grammar.specs.Grammars.{Production, Names, View}
use Rattle.grammar.specs.executable.First.{can_begin, can_skip}
use Rattle.grammar.specs.executable.Reading.{ready, Choice, none, selected}
use Rattle.grammar.specs.Classes.{type_name}
use Rattle.grammar.specs.Nurl.{productions}

-- one token of class c, and one answer to every question
abbrev pub shown : ℕ → Bool → View
shown c b = record { class = λ e i. c; holds = λ q i. b; inside = λ x i e. e }

-- the number of the first production of x that passes a test and whose conditions are met, counted among the productions of x,
-- the next of which has number k; 0 where there is none
unfoldable pub alternative_number : View → Names → ℕ → ℕ → (Production → Bool) → ℕ → List Production → ℕ
alternative_number v e i x test k [] = 0
alternative_number v e i x test k (p ∷ ps) =
    let later = alternative_number v e i x test (suc k) ps in
    let rest = alternative_number v e i x test k ps in
    let conditions = ready v e i p.right in
    let fits = and (test p) conditions in
    let number = pick fits k later in
    pick (eqb p.left x) number rest

-- the first number, or where that is 0 the second
unfoldable pub number_else : ℕ → ℕ → ℕ
number_else zero m = m
number_else (suc n) m = suc n

-- The number of the alternative of x that is taken before a token of class c, where every question is answered b: from 1, and 0 where
-- none is. It is the one that the token can begin, else the one that may derive no token, as in `choice`.
unfoldable pub alternative : List Production → ℕ → Bool → ℕ → ℕ
alternative g c b x =
    let other = alternative_number (shown c b) [] 0 x (can_skip g c) 1 g in
    number_else (alternative_number (shown c b) [] 0 x (can_begin g c) 1 g) other

-- the production of x with a number; none has number 0
unfoldable pub nth : ℕ → ℕ → List Production → Choice
nth x zero g = none
nth x (suc n) [] = none
nth x (suc zero) (p ∷ ps) =
    let rest = nth x 1 ps in
    pick (eqb p.left x) (selected p) rest
nth x (suc (suc n)) (p ∷ ps) =
    let later = nth x (suc n) ps in
    let rest = nth x (suc (suc n)) ps in
    pick (eqb p.left x) later rest

-- a token's kind, by its class
abbrev pub kind_of_class : ℕ → ℕ
kind_of_class c = pick (eqb c type_name) ident c

-- The alternative of x in grammar 1.7 that a token of a kind begins; what is not a kind begins none. Every question is answered no and
-- an IDENT taken not to be a type name: for types, expressions, statements and declarations, of which it is asked, neither matters.
unfoldable pub kind_alternative : ℕ → ℕ → ℕ
kind_alternative x kind =
    let number = alternative productions kind false x in
    pick (leb kind last_kind) number 0
