-- The theorems about readings, of the tokens of a source under a list of names, for any language that is fit: an edition has them
-- all once it is shown to be `Fit`. Assumes nothing.
use Prim.Native.Nat.{ℕ, ◌+◌, ◌*◌, ◌≤◌, ◌<◌}
use mathlib.Core.Path.{◌≡◌}
use mathlib.Core.Bool.{true}
use mathlib.Core.List.{List, [], ◌∷◌}
use lib.ListN.{length}
use Rattle.lexer.specs.Tokens.{Token}
use Rattle.lexer.specs.executable.Scans.{cleanly, scan}
use Rattle.lexer.specs.Items.{Item, items}
use Rattle.lexer.proofs.Laws.Sizes.{spelled}
use Rattle.lexer.proofs.Laws.Places.{tokens_placed}
use Rattle.tree.specs.TreeTable.{Row}
use Rattle.grammar.specs.Grammars.{derived, Production, View}
use Rattle.grammar.specs.Derivations.{Derives, derivation}
use Rattle.grammar.specs.Forests.{Forest}
use Rattle.grammar.specs.executable.Reading.{Outcome, ok, stuck, deep, spent, whole, read_within}
use Rattle.grammar.specs.Languages.{Language, view}
use Rattle.grammar.specs.Sources.{names_of, view_of, DerivationOf, NoProgramOf, TooDeepOf}
use Rattle.grammar.specs.executable.ReadTokens.{read_tokens}
use Rattle.grammar.proofs.Laws.Checks.{Hints, Passes}
use Rattle.grammar.proofs.Laws.Follow.{Steady}
use Rattle.grammar.proofs.Laws.Grows.{Grows, by_levels}
use Rattle.grammar.proofs.Laws.Takes.{from, all_taken, takes_once}
use Rattle.grammar.proofs.Laws.KnownKinds.{KindsTo, kinds_known, Top, one_top}
use Rattle.grammar.proofs.Laws.Readings.{Counted, reading_sound, reading_unspent, reading_complete, derivations_same, reading_from}
use Rattle.grammar.proofs.Laws.Readings.{reading_grows, derivation_few}
use Rattle.grammar.proofs.Laws.Views.{classes, Kinds, items-length, items_kinds, view_counted}
use Rattle.grammar.proofs.Laws.Forests.{forest as trees}
use Rattle.grammar.proofs.Laws.Places.{stuck_no_program, deep_too_deep, no_program_stuck, too_deep-deep}
use Rattle.grammar.proofs.Laws.Places.{no_program_at as no-program-place, too_deep_at as too-deep-place, too_deep_none as none_within}

-- what is asked of a language
pub record Fit (l : Language) : Type 0 where
  pub marks : spelled l.lexical.marks ≡ true
  pub hints : Hints
  pub tests : Passes l.productions hints classes l.start
  pub steady : (ts : List Item) → Kinds ts → Steady (view l ts) hints classes

-- read up to a token with these rows
pub data ReadAs (o : Outcome) (j : ℕ) (rs : List Row) : Type 0 where
  read_as : {said : ℕ} → o ≡ ok j rs said → ReadAs o j rs

module _ (l : Language) (source names : List ℕ) (ts : List Token) where
  -- The tokens of a source under a list of names, given the last kind of row and the kind of a whole source's row. The
  -- productions say both, so that editions that share those have the same two.
  pub record Theorems (last_kind top_kind : ℕ) : Type 0 where
    -- 1. What is read is all of the tokens, and a derivation of them with those rows, within the levels.
    pub sound : (n j said : ℕ) (rs : List Row) → read_tokens l n source names ts ≡ ok j rs said
        → (j ≡ length ts) × (DerivationOf l source names ts n rs)
    -- 2. A derivation within the levels is what is read, with exactly its rows.
    pub complete : (n : ℕ) (rs : List Row) → DerivationOf l source names ts n rs → ReadAs (read_tokens l n source names ts) (length ts) rs
    -- 3. Any two derivations, at whatever depths, have the same rows.
    pub unique : (n m : ℕ) (rs others : List Row) → DerivationOf l source names ts n rs → DerivationOf l source names ts m others
        → rs ≡ others
    -- 4. What some fuel reads is the reading.
    pub read_from : (fuel n : ℕ) (o : Outcome)
        → read_within l.productions (view_of l source ts) fuel (names_of l source names ts) n (whole l.start) 0 ≡ o
        → (o ≡ spent → ⊥) → read_tokens l n source names ts ≡ o
    -- More levels never change an ok or a stuck.
    pub grows : (n m : ℕ) → n ≤ m → Grows by_levels (read_tokens l n source names ts) (read_tokens l m source names ts)
    -- Stuck is where `NoProgram` says, and nowhere else. A limit of no level at all is left out: there the reading is too deep before it
    -- has looked at a token.
    pub no_program : (n place : ℕ) → read_tokens l n source names ts ≡ stuck place → NoProgramOf l source names ts n place
    pub no_program_read : (n place : ℕ) → 1 ≤ n → NoProgramOf l source names ts n place → read_tokens l n source names ts ≡ stuck place
    -- Too deep is where `TooDeep` says, and nowhere else, with the same exception.
    pub too_deep : (n place : ℕ) → 1 ≤ n → read_tokens l n source names ts ≡ deep place → TooDeepOf l source names ts n place
    pub too_deep_read : (n place : ℕ) → TooDeepOf l source names ts n place → read_tokens l n source names ts ≡ deep place
    -- Where it says so, there is no derivation within the levels.
    pub too_deep_none : (n place : ℕ) (rs : List Row) → TooDeepOf l source names ts n place → DerivationOf l source names ts n rs → ⊥
    -- "6: token index, or the token count at the end"; "7: token index".
    pub no_program_at : (n place : ℕ) → NoProgramOf l source names ts n place → place ≤ length ts
    pub too_deep_at : (n place : ℕ) → TooDeepOf l source names ts n place → place < length ts
    -- 5. The explicit fuel suffices: every token list gets ok, stuck or too deep.
    pub unspent : (n : ℕ) → read_tokens l n source names ts ≡ spent → ⊥
    -- 6. A derivation takes each token once and in order.
    pub takes : (n : ℕ) (rs : List Row) → (d : DerivationOf l source names ts n rs) → all_taken d ≡ from 0 (length ts)
    -- It has at most two rows for each token and one more.
    pub few : (n : ℕ) (rs : List Row) → DerivationOf l source names ts n rs → length rs ≤ 2 * length ts + 1
    -- Its rows are trees: each row's count is that of its subtree, and its children stand in order inside its cover.
    pub forest : (n : ℕ) (rs : List Row) → DerivationOf l source names ts n rs → Forest n 0 (length ts) rs
    -- Its rows have kinds from 1 to the last.
    pub kinds : (n : ℕ) (rs : List Row) → DerivationOf l source names ts n rs → KindsTo last_kind rs
    -- One row is over all the tokens and above all other rows.
    pub top : (n : ℕ) (rs : List Row) → DerivationOf l source names ts n rs → Top top_kind (length ts) n rs

-- a language that is fit has them
module _ (l : Language) (fit : Fit l) (source names : List ℕ) (ts : List Token) (scans : scan l.lexical source ≡ cleanly ts) where
  abbrev g : List Production
  g = l.productions

  abbrev h : Hints
  h = fit.hints

  abbrev v : View
  v = view_of l source ts

  abbrev x : ℕ
  x = l.start

  -- what is shown of all that the start derives holds of a derivation
  of_derived : {P : Type 0} {n : ℕ} {rs : List Row}
      → ((said : ℕ) → Derives g v (names_of l source names ts) n (derived x ∷ []) 0 (length ts) rs said → P)
      → DerivationOf l source names ts n rs → P
  of_derived shows (derivation {said = said} d) = shows said d

  known : Kinds (items source ts)
  known = items_kinds (tokens_placed l.lexical fit.marks source ts scans)

  counted : Counted v (length ts)
  counted = rw (← items-length source ts) (view_counted l (items source ts) known)

  steady : Steady v h classes
  steady = fit.steady (items source ts) known

  pub theorems : Theorems l source names ts h.last_kind h.top_kind
  unfolding read_tokens
  theorems = record {
    sound = reading_sound g h classes x fit.tests v (length ts) steady counted _;
    complete = λ n rs. of_derived (λ said d. read_as (reading_complete g h classes x fit.tests v (length ts) steady counted _ n said rs d));
    unique = derivations_same g h classes x fit.tests v (length ts) steady counted _;
    read_from = reading_from g h classes x fit.tests v (length ts) steady counted _;
    grows = reading_grows g h classes x fit.tests v (length ts) steady counted _;
    no_program = stuck_no_program g h classes x fit.tests v (length ts) steady counted _;
    no_program_read = no_program_stuck g h classes x fit.tests v (length ts) steady counted _;
    too_deep = deep_too_deep g h classes x fit.tests v (length ts) steady counted _;
    too_deep_read = too_deep-deep g h classes x fit.tests v (length ts) steady counted _;
    too_deep_none = none_within g h classes x fit.tests v (length ts) steady counted _;
    no_program_at = no-program-place g h classes x fit.tests v (length ts) steady counted _;
    too_deep_at = too-deep-place g h classes x fit.tests v (length ts) steady counted _;
    unspent = reading_unspent g h classes x fit.tests v (length ts) steady counted _;
    takes = λ n rs d. takes_once d;
    few = derivation_few g h classes x fit.tests v (length ts) steady counted _;
    forest = λ n rs. of_derived (λ said d. trees d);
    kinds = λ n rs. of_derived (λ said d. kinds_known h h.last_kind fit.tests.kinds d);
    top = λ n rs d. one_top x h.top_kind fit.tests.top d;
  }
