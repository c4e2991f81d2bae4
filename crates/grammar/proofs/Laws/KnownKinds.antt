-- The kinds of the rows of a derivation, where the table passes the tests of kinds: each is from 1 to the last, and the top row is
-- one row over all the tokens. Assumes nothing.
use Prim.Native.Nat.{ℕ, zero, suc, ◌≤◌}
use mathlib.Core.Path.{◌≡◌, refl, ap}
use mathlib.Core.Bool.{Bool, true, false}
use mathlib.Core.List.{List, [], ◌∷◌, ◌++◌, append-nil}
use native.Mathlib.Omega.{arith}
use lib.Dec.{eqb}
use borrow.Author.Tests.{eqb-true, eq-eqb}
use Rattle.lexer.specs.Tests.{or, between}
use Rattle.lexer.proofs.Laws.Tests.{and_left, and_right, or_else_lem, between_range}
use Rattle.tree.specs.TreeTable.{Row}
use Rattle.grammar.specs.Grammars.{Symbol, Makes, gives_row, row_of, gives_kind, no_row, Production, Names, View, agrees}
use Rattle.grammar.specs.Rows.{above, made, passed, first_said, levels}
use Rattle.grammar.specs.Derivations.{Derives, end, taken, held, entered, Derivation, derivation}
use Rattle.grammar.specs.Forests.{Forest}
use Rattle.grammar.proofs.Laws.Checks.{Hints, every, voiced, kind_within, known_kind, makes_row, tops}
use Rattle.grammar.proofs.Laws.CheckLaws.{implies_true, every_has}
use Rattle.grammar.proofs.Laws.Forests.{forest}

-- each row has a kind from 1 to the last
pub data KindsTo (last : ℕ) : List Row → Type 0 where
  none : KindsTo last []
  each : {r : Row} {rows : List Row} → 1 ≤ r.kind → r.kind ≤ last → KindsTo last rows → KindsTo last (r ∷ rows)

kinds_append : {last : ℕ} {rows more : List Row} → KindsTo last rows → KindsTo last more → KindsTo last (rows ++ more)
kinds_append none after = after
kinds_append (each some most rest) after = each some most (kinds_append rest after)

-- what is said is 0 or a kind up to the last, and not 0 where one speaks
record Said (last : ℕ) (speaks : Bool) (said : ℕ) : Type 0 where
  most : said ≤ last
  some : speaks ≡ true → 1 ≤ said

-- nothing is said where none speaks
silent : {last : ℕ} (speaks : Bool) → agrees false speaks ≡ true → Said last speaks 0
unfolding agrees
silent true h = let z : ◌≡◌ {A = ℕ} 0 1 = cc in absurd (omega arith)
silent false h = record { most = omega arith; some = λ (s : false ≡ true). let z : ◌≡◌ {A = ℕ} 0 1 = cc in absurd (omega arith) }

-- a production says a kind where its nonterminal speaks
passed_said : {last said : ℕ} (speaks voice : Bool) (makes : Makes) → kind_within last speaks voice makes ≡ true
    → Said last voice said → Said last speaks (passed makes said)
unfolding kind_within passed
passed_said {last = last} speaks voice (gives_row kind) t s = silent speaks (and_right (between 1 last kind) (agrees false speaks) t)
passed_said speaks voice row_of t s = silent speaks (and_right voice (agrees false speaks) t)
passed_said {last = last} speaks voice (gives_kind kind) t s =
    let (some, most) = between_range 1 last kind t in
    record { most = most; some = λ (y : speaks ≡ true). some }
passed_said speaks voice no_row t s =
    record { most = s.most; some = λ (y : speaks ≡ true). s.some (implies_true speaks voice t y) }

-- of two parts one says a kind where one speaks
first_said_lem : {last later : ℕ} (a b : Bool) (said : ℕ) → Said last a said → Said last b later → Said last (or a b) (first_said said later)
unfolding first_said
first_said_lem {later = later} a b zero s l =
    let early : a ≡ true → 1 ≤ later = λ (y : a ≡ true). let z = s.some y in absurd (omega arith) in
    record { most = l.most; some = λ (y : or a b ≡ true). or_else_lem a b early l.some y }
first_said_lem a b (suc said) s l = record { most = s.most; some = λ (y : or a b ≡ true). omega arith }

-- a production makes rows of known kinds
made_kinds : {last said : ℕ} {rows : List Row} (speaks voice : Bool) (makes : Makes) (i j : ℕ) → kind_within last speaks voice makes ≡ true
    → Said last voice said → KindsTo last rows → KindsTo last (made makes i j said rows)
unfolding kind_within made
made_kinds {last = last} speaks voice (gives_row kind) i j t s rest =
    let (some, most) = between_range 1 last kind (and_left (between 1 last kind) (agrees false speaks) t) in
    each some most rest
made_kinds speaks voice row_of i j t s rest = each (s.some (and_left voice (agrees false speaks) t)) s.most rest
made_kinds speaks voice (gives_kind kind) i j t s rest = rest
made_kinds speaks voice no_row i j t s rest = rest

-- the test of a production of x
kind_within_lem : (h : Hints) (last : ℕ) (p : Production) (x : ℕ) → p.left ≡ x → known_kind h last p ≡ true
    → kind_within last (h.speaks x) (voiced h p.right) p.makes ≡ true
unfolding known_kind
kind_within_lem h last p x left t = rw (← left) t

module _ {g : List Production} {v : View} (h : Hints) (last : ℕ) (kinds : every (known_kind h last) g ≡ true) where
  -- symbols that speak say a kind
  said_known : {e : Names} {n i j said : ℕ} {ss : List Symbol} {rows : List Row}
      → Derives g v e n ss i j rows said → Said last (voiced h ss) said
  unfolding voiced agrees
  said_known end = silent false refl
  said_known (taken c rest) = said_known rest
  said_known (held c rest) = said_known rest
  said_known (entered {x = x} {said = said} {p = p} {ss = ss} has left fits inner rest) =
      let fit = kind_within_lem h last p x left (every_has (known_kind h last) g p kinds has) in
      let own = passed_said (h.speaks x) (voiced h p.right) p.makes fit (said_known inner) in
      first_said_lem (h.speaks x) (voiced h ss) (passed p.makes said) own (said_known rest)

  -- every row of a derivation has a kind from 1 to the last
  pub kinds_known : {e : Names} {n i j said : ℕ} {ss : List Symbol} {rows : List Row}
      → Derives g v e n ss i j rows said → KindsTo last rows
  kinds_known end = none
  kinds_known (taken c rest) = kinds_known rest
  kinds_known (held c rest) = kinds_known rest
  kinds_known (entered {i = i} {j = j} {x = x} {p = p} has left fits inner rest) =
      let fit = kind_within_lem h last p x left (every_has (known_kind h last) g p kinds has) in
      kinds_append (made_kinds (h.speaks x) (voiced h p.right) p.makes i j fit (said_known inner) (kinds_known inner))
      (kinds_known rest)

-- one top row, of a kind and over all the tokens; below it are the trees of its children, with a level less
pub record Top (kind count n : ℕ) (rows : List Row) : Type 0 where
  pub children : List Row
  pub whole : rows ≡ above kind 0 count children
  pub deeper : ℕ
  pub level : n ≡ suc deeper
  pub below : Forest deeper 0 count children

makes_row_lem : (k : ℕ) (makes : Makes) → makes_row k makes ≡ true → makes ≡ gives_row k
unfolding makes_row
makes_row_lem k (gives_row kind) t = ap gives_row (eqb-true kind k t)
makes_row_lem k row_of t = let z : ◌≡◌ {A = ℕ} 0 1 = cc in absurd (omega arith)
makes_row_lem k (gives_kind kind) t = let z : ◌≡◌ {A = ℕ} 0 1 = cc in absurd (omega arith)
makes_row_lem k no_row t = let z : ◌≡◌ {A = ℕ} 0 1 = cc in absurd (omega arith)

tops_row : (x k : ℕ) (p : Production) → p.left ≡ x → tops x k p ≡ true → p.makes ≡ gives_row k
unfolding tops
tops_row x k p left t = makes_row_lem k p.makes (implies_true (eqb p.left x) (makes_row k p.makes) t (eq-eqb p.left x left))

-- where every production of the start makes a row of kind k, a derivation of a token list has one top row, and it is of kind k
pub one_top : {g : List Production} {v : View} {count : ℕ} {e : Names} {n : ℕ} {rows : List Row} → (x k : ℕ)
    → every (tops x k) g ≡ true → Derivation g v count e n x rows → Top k count n rows
unfolding made levels
one_top {g = g} {n = n} x k test (derivation (entered {below = below} {p = p} {inner = children} has left fits inner end)) =
    let makes : p.makes ≡ gives_row k = tops_row x k p left (every_has (tops x k) g p test has) in
    let level : n ≡ suc below = let sum = rw makes at fits in omega arith in
    record { children = children; whole = rw (makes, append-nil) refl; deeper = below; level = level; below = forest inner }
