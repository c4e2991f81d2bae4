-- The computed tests of a table, which the theorems about readings ask of it, and the hints that they are given: what may
-- follow a nonterminal, which nonterminals may be empty, how much fuel one needs before a token is taken, how many rows it makes,
-- and of which kinds. Assumes nothing; a wrong hint only fails a test.
use Prim.Native.Nat.{ℕ, zero, suc, ◌+◌, ◌≤◌, max}
use mathlib.Core.Path.{◌≡◌}
use mathlib.Core.Bool.{Bool, true, false}
use mathlib.Core.List.{List, [], ◌∷◌}
use lib.Dec.{eqb, leb, ltb}
use lib.ListN.{length}
use Rattle.lexer.specs.Tests.{and, or, between, pick, among}
use Rattle.grammar.specs.Grammars.{end_of_tokens, next, query, Symbol, token, derived, condition, Makes, gives_row, row_of, gives_kind}
use Rattle.grammar.specs.Grammars.{no_row, Production, agrees}
use Rattle.grammar.specs.Rows.{levels}
use Rattle.grammar.specs.executable.Reading.{breadth, whole}
use Rattle.grammar.specs.executable.First.{skips, starts, any_of, empty, first, can_begin, can_skip}

pub record Hints : Type 0 where
  -- whether a token of a class may follow a nonterminal
  pub follow : ℕ → ℕ → Bool
  -- whether a nonterminal may derive no token
  pub nullable : ℕ → Bool
  -- the fuel that a nonterminal needs before a token is taken
  pub weight : ℕ → ℕ
  -- a nonterminal has at most twice as many rows as tokens, and so many less, or more
  pub fewer : ℕ → ℕ
  pub more : ℕ → ℕ
  -- whether a nonterminal says the kind of the row that it is a part of
  pub speaks : ℕ → Bool
  -- the kinds of rows are from 1 to this one
  pub last_kind : ℕ
  -- the kind of the row over all the tokens
  pub top_kind : ℕ

unfoldable pub implies : Bool → Bool → Bool
implies true b = b
implies false b = true

-- a test of every production
unfoldable pub every : (Production → Bool) → List Production → Bool
every test [] = true
every test (p ∷ ps) = and (test p) (every test ps)

-- what the next class may be where symbols are read and `after` says whether it may follow them
unfoldable pub may : List Production → ℕ → Bool → List Symbol → Bool
may g c after ss = or (starts c (first g c) (empty g c) ss) (and (skips c (empty g c) ss) after)

-- FIRST is closed at class c
unfoldable pub first_closed : List Production → ℕ → Production → Bool
first_closed g c p = implies (can_begin g c p) (first g c p.left)

unfoldable pub empty_closed : List Production → ℕ → Production → Bool
empty_closed g c p = implies (can_skip g c p) (empty g c p.left)

-- FOLLOW is closed at class c: what may come after a nonterminal among symbols may follow it
unfoldable pub flows : List Production → Hints → ℕ → Bool → List Symbol → Bool
flows g h c after [] = true
flows g h c after (token cs ∷ ss) = flows g h c after ss
flows g h c after (derived x ∷ ss) = and (implies (may g c after ss) (h.follow x c)) (flows g h c after ss)
flows g h c after (condition b q ∷ ss) = flows g h c after ss

unfoldable pub follow_closed : List Production → Hints → ℕ → Production → Bool
follow_closed g h c p = flows g h c (h.follow p.left c) p.right

-- a production that a reading may have to take at class c
unfoldable pub live : List Production → Hints → ℕ → Production → Bool
live g h c p = or (can_begin g c p) (and (can_skip g c p) (h.follow p.left c))

-- whether the conditions at the front ask a question, and the answer that is asked for
unfoldable pub asks : Bool → ℕ → List Symbol → Bool
asks b q [] = false
asks b q (token cs ∷ ss) = false
asks b q (derived x ∷ ss) = false
asks b q (condition a (next cs) ∷ ss) = asks b q ss
asks b q (condition a (query r) ∷ ss) = or (and (eqb q r) (agrees b a)) (asks b q ss)

-- opposite answers to one question are asked for at the front
unfoldable pub opposed : List Symbol → List Symbol → Bool
opposed [] ts = false
opposed (token cs ∷ ss) ts = false
opposed (derived x ∷ ss) ts = false
opposed (condition b (next cs) ∷ ss) ts = opposed ss ts
opposed (condition b (query q) ∷ ss) ts = or (asks (agrees b false) q ts) (opposed ss ts)

-- the alternatives of each nonterminal exclude each other at class c, by the class or by opposite conditions
unfoldable pub excludes : List Production → Hints → ℕ → Production → Production → Bool
excludes g h c p q = implies (and (eqb p.left q.left) (live g h c q)) (opposed p.right q.right)

unfoldable pub exclusive : List Production → Hints → ℕ → List Production → Bool
exclusive g h c [] = true
exclusive g h c (p ∷ ps) = and (implies (live g h c p) (every (excludes g h c p) ps)) (exclusive g h c ps)

unfoldable pub below : (ℕ → Bool) → ℕ → Bool
below test zero = true
below test (suc n) = and (test n) (below test n)

-- the tests at each class below a bound
pub record Closed (g : List Production) (h : Hints) (bound : ℕ) : Type 0 where
  pub firsts : below (λ (c : ℕ). every (first_closed g c) g) bound ≡ true
  pub empties : below (λ (c : ℕ). every (empty_closed g c) g) bound ≡ true
  pub follows : below (λ (c : ℕ). every (follow_closed g h c) g) bound ≡ true
  pub exclude : below (λ (c : ℕ). exclusive g h c g) bound ≡ true

-- no production takes the end of the tokens for a token
unfoldable pub has_no_end : List Symbol → Bool
has_no_end [] = true
has_no_end (token cs ∷ ss) = and (agrees false (among cs end_of_tokens)) (has_no_end ss)
has_no_end (derived x ∷ ss) = has_no_end ss
has_no_end (condition b q ∷ ss) = has_no_end ss

-- symbols that may derive no token
unfoldable pub vanishes : Hints → List Symbol → Bool
vanishes h [] = true
vanishes h (token cs ∷ ss) = false
vanishes h (derived x ∷ ss) = and (h.nullable x) (vanishes h ss)
vanishes h (condition b q ∷ ss) = vanishes h ss

-- the fuel that symbols need before a token is taken
unfoldable pub needs : Hints → List Symbol → ℕ
needs h [] = 1
needs h (token cs ∷ ss) = 1
needs h (derived x ∷ ss) = suc (max (h.weight x) (pick (h.nullable x) (needs h ss) 0))
needs h (condition b q ∷ ss) = suc (needs h ss)

-- ... and after any of them at most w
unfoldable pub bounded : Hints → ℕ → List Symbol → Bool
bounded h w [] = leb 1 w
bounded h w (s ∷ ss) = and (leb (needs h (s ∷ ss)) w) (bounded h w ss)

-- no left recursion: the fuel falls from a nonterminal to those at its front
unfoldable pub falls : Hints → ℕ → Production → Bool
falls h w p =
    and (has_no_end p.right) (and (implies (vanishes h p.right) (h.nullable p.left))
    (and (leb (needs h p.right) (h.weight p.left)) (bounded h w p.right)))

-- rows: a token is worth two, a nonterminal what the hints say
unfoldable pub fewer_of : Hints → List Symbol → ℕ
fewer_of h [] = 0
fewer_of h (token cs ∷ ss) = 2 + fewer_of h ss
fewer_of h (derived x ∷ ss) = h.fewer x + fewer_of h ss
fewer_of h (condition b q ∷ ss) = fewer_of h ss

unfoldable pub more_of : Hints → List Symbol → ℕ
more_of h [] = 0
more_of h (token cs ∷ ss) = more_of h ss
more_of h (derived x ∷ ss) = h.more x + more_of h ss
more_of h (condition b q ∷ ss) = more_of h ss

unfoldable pub few_rows : Hints → Production → Bool
few_rows h p = leb (levels p.makes + h.fewer p.left + more_of h p.right) (fewer_of h p.right + h.more p.left)

-- symbols that say the kind of the row that they are a part of
unfoldable pub voiced : Hints → List Symbol → Bool
voiced h [] = false
voiced h (token cs ∷ ss) = voiced h ss
voiced h (derived x ∷ ss) = or (h.speaks x) (voiced h ss)
voiced h (condition b q ∷ ss) = voiced h ss

-- Given whether the nonterminal speaks and whether the symbols do: a kind that a production makes or says is from 1 to the last;
-- where a part is to say it, a part speaks; and where the nonterminal speaks, a kind is said.
unfoldable pub kind_within : ℕ → Bool → Bool → Makes → Bool
kind_within last speaks voice (gives_row kind) = and (between 1 last kind) (agrees false speaks)
kind_within last speaks voice row_of = and voice (agrees false speaks)
kind_within last speaks voice (gives_kind kind) = between 1 last kind
kind_within last speaks voice no_row = implies speaks voice

unfoldable pub known_kind : Hints → ℕ → Production → Bool
known_kind h last p = kind_within last (h.speaks p.left) (voiced h p.right) p.makes

-- a row of this kind is made
unfoldable pub makes_row : ℕ → Makes → Bool
makes_row k (gives_row kind) = eqb kind k
makes_row k row_of = false
makes_row k (gives_kind kind) = false
makes_row k no_row = false

-- a production of x makes a row of kind k
unfoldable pub tops : ℕ → ℕ → Production → Bool
tops x k p = implies (eqb p.left x) (makes_row k p.makes)

-- whether symbols take a token of class c first, given which nonterminals do; so they do where nothing but its class is asked of it
unfoldable pub takes_first : ℕ → (ℕ → Bool) → List Symbol → Bool
takes_first c first [] = false
takes_first c first (token cs ∷ ss) = among cs c
takes_first c first (derived x ∷ ss) = first x
takes_first c first (condition b (next cs) ∷ ss) =
    let rest = takes_first c first ss in
    and (agrees b (among cs c)) rest
takes_first c first (condition b (query q) ∷ ss) = false

-- whether some production of a nonterminal does, looking through at most so many nonterminals
unfoldable pub first_taken : List Production → ℕ → ℕ → ℕ → Bool
first_taken g zero c x = false
first_taken g (suc d) c x = any_of x (takes_first c (first_taken g d c)) g

-- a production that takes a level, where it is chosen at class c, takes that token, unless it is one of the start x
unfoldable pub row_begins : List Production → ℕ → ℕ → Production → Bool
row_begins g x c p =
    let chosen = or (can_begin g c p) (can_skip g c p) in
    let taken = takes_first c (first_taken g (length g) c) p.right in
    or (eqb p.left x) (implies (ltb 0 (levels p.makes)) (implies chosen taken))

-- symbols among which a nonterminal does not stand
unfoldable pub without : ℕ → List Symbol → Bool
without x [] = true
without x (token cs ∷ ss) = without x ss
without x (derived y ∷ ss) = and (agrees false (eqb y x)) (without x ss)
without x (condition b q ∷ ss) = without x ss

-- all tests of a table whose start is x, where classes are below a bound
pub record Passes (g : List Production) (h : Hints) (bound x : ℕ) : Type 0 where
  pub closed : Closed g h bound
  -- what may follow the start is the end of the tokens
  pub ended : h.follow x end_of_tokens ≡ true
  pub falling : every (falls h (suc (breadth g))) g ≡ true
  pub start : bounded h (suc (breadth g)) (whole x) ≡ true
  pub few : every (few_rows h) g ≡ true
  pub once : h.more x ≤ 1
  pub kinds : every (known_kind h h.last_kind) g ≡ true
  pub top : every (tops x h.top_kind) g ≡ true
  pub begun : below (λ (c : ℕ). every (row_begins g x c) g) bound ≡ true
  -- the start stands on no right side
  pub apart : every (λ (p : Production). without x p.right) g ≡ true
