-- What the reader of a whole program answers and leaves in the whole rows of the tree table, as document 01's No. 6 to 8 and
-- acceptance. Assumes nothing.
use Prim.Native.Nat.{ℕ, zero, suc, ◌+◌, ◌<◌, ◌≤◌}
use mathlib.Core.Path.{◌≡◌, refl, sym, ◌∙◌, ap, subst}
use mathlib.Core.Bool.{true}
use mathlib.Core.List.{List, ◌++◌}
use mathlib.Core.Logic.{◌⊎◌, inl, inr}
use native.Mathlib.Omega.{arith}
use lib.ListN.{length, take, get_or, length-append}
use lib.Seq.{length-take-le, take_at}
use borrow.Author.Tests.{le-leb, lt-leb}
use Rattle.lexer.specs.Tests.{and, between}
use Rattle.lexer.specs.internal.Kinds.{first_kind, last_kind}
use Rattle.lexer.specs.Editions.{edition17}
use Rattle.lexer.specs.Tokens.{Token}
use Rattle.lexer.specs.executable.Scans.{cleanly, scan}
use Rattle.lexer.specs.Table.{source_limit, token_room}
use Rattle.lexer.specs.internal.TokenRows.{rows_of, row_at, no_token}
use Rattle.lexer.specs.Items.{Item, items}
use Rattle.lexer.proofs.Laws.Editions.{spelled17}
use Rattle.lexer.proofs.Laws.Rows.{rows_of-length}
use Rattle.lexer.proofs.Laws.Places.{Placed, placed_none, placed_more, tokens_placed, tokens_few}
use Rattle.typenames.specs.TypeNames.{opening17}
use Rattle.typenames.specs.internal.Prepared.{prepared_names}
use Rattle.typenames.specs.declared.Scope.TheVariants.{Program}
use Rattle.tree.specs.TreeTable.{Row, tree_room, cleared}
use Rattle.tree.specs.internal.Trees.{put}
use Rattle.tree.proofs.Laws.Trees.{put-placed}
use Rattle.grammar.specs.Grammars.{Names, View}
use Rattle.grammar.specs.executable.Reading.{Outcome, ok, stuck, deep, spent, whole}
use Rattle.grammar.specs.internal.Nonterminals.{program}
use Rattle.grammar.specs.Nurl.{productions}
use Rattle.grammar.specs.Languages.{language17}
use Rattle.grammar.specs.Sources.{view_of, names_of}
use Rattle.grammar.specs.executable.ReadTokens.{read_tokens}
use Rattle.grammar.proofs.Laws.Nurl17.{theorems17}
use Rattle.answer.specs.executable.Answers.{judged, result}
use Rattle.answer.specs.Results.{level_limit}
use Rattle.answer.specs.declared.Answer.TheVariants.{Accepted, Refused}
use Rattle.parser.specs.internal.Steps.{Tokens, Step, Read}
use Rattle.parser.specs.internal.Readings.{Gives, Reads, read, refused6, refused7, refused_before, ReadsWhole}
use Rattle.parser.proofs.Laws.WholeRows.{cleared-put}
use Rattle.nurl.specs.internal.Results.{tree_result}

-- what a reader of some symbols says, from the first token and row on
module _ (v : View) (count : ℕ) (e : Names) (n : ℕ) (table after : List ℕ) where
  pub record ReadTo (to needed : ℕ) : Type 0 where
    row_list : List Row
    gives : Gives productions v e n (whole program) 0 (ok to row_list 0)
    enough : needed ≡ length row_list
    put_there : after ≡ put 0 row_list table

  read_to : (from to : Step) → Reads productions v count e n 0 1 (whole program) from table to after → from ≡ Read 0 0
      → (j k : ℕ) → to ≡ Read j k → ReadTo j k
  read_to from to (read {i} {r} {j} {k} {rows} g size there a b c) start x y goal =
      let at : i ≡ 0 = cc in
      let row : r ≡ 0 = cc in
      let far : j ≡ x = cc in
      let much : k ≡ y = cc in
      record {
        row_list = rows;
        gives = rw (← far) (subst (λ (i : ℕ). Gives productions v e n (whole program) i (ok j rows 0)) at g);
        enough = omega arith;
        put_there = there ∙ ap (λ (r : ℕ). put r rows table) row;
      }
  read_to from to (refused6 g l) start j k goal = let z : ◌≡◌ {A = ℕ} 0 1 = cc in absurd (omega arith)
  read_to from to (refused7 g l) start j k goal = let z : ◌≡◌ {A = ℕ} 0 1 = cc in absurd (omega arith)
  read_to from to (refused_before l) start j k goal = let z : ◌≡◌ {A = ℕ} 0 1 = cc in absurd (omega arith)

  -- .. or what it refuses
  abbrev StoppedAt : ℕ → ℕ → Type 0
  StoppedAt number place =
      ((number ≡ 6) × (Gives productions v e n (whole program) 0 (stuck place)))
      ⊎ ((number ≡ 7) × (Gives productions v e n (whole program) 0 (deep place)))

  stopped_at : (from to : Step) → Reads productions v count e n 0 1 (whole program) from table to after → from ≡ Read 0 0
      → (number place : ℕ) → to ≡ Step.Refused number place → StoppedAt number place
  stopped_at from to (read g size there a b c) start number place goal = let z : ◌≡◌ {A = ℕ} 0 1 = cc in absurd (omega arith)
  stopped_at from to (refused6 {i} {r} {place} g l) start number where_to goal =
      let at : i ≡ 0 = cc in
      let far : place ≡ where_to = cc in
      let six : number ≡ 6 = cc in
      inl (six, rw (← far) (subst (λ (i : ℕ). Gives productions v e n (whole program) i (stuck place)) at g))
  stopped_at from to (refused7 {i} {r} {place} g l) start number where_to goal =
      let at : i ≡ 0 = cc in
      let far : place ≡ where_to = cc in
      let seven : number ≡ 7 = cc in
      inr (seven, rw (← far) (subst (λ (i : ℕ). Gives productions v e n (whole program) i (deep place)) at g))
  stopped_at from to (refused_before l) start number place goal = let z : ◌≡◌ {A = ℕ} 0 1 = cc in absurd (omega arith)

-- a part that was lent comes back with its length, at the front
pub kept_size : (part table : List ℕ) (size : ℕ) → length part ≡ length (take size table) → size ≤ length table → length part ≡ size
kept_size part table size kept inside = kept ∙ length-take-le size table inside

pub front_inside : (part rest : List ℕ) (size : ℕ) → length part ≡ size → size ≤ length (part ++ rest)
front_inside part rest size l = let a = length-append part rest in omega arith

pub front_counts : (part rest : List ℕ) (size : ℕ) → length part ≡ size → size ≡ length (take size (part ++ rest))
front_counts part rest size l = rw (take_at part rest size l) (sym l)

-- what is lent of the prepared list is all of it
pub lent_names : (prepared rest : List ℕ) (size : ℕ) (ts : List Item) (e : Names) → length prepared ≡ size
    → prepared_names opening17 prepared ts ≡ e → prepared_names opening17 (take size (prepared ++ rest)) ts ≡ e
lent_names prepared rest size ts e l h = rw (take_at prepared rest size l) h

-- each token of a source is of a kind of document 01
kind-between : (k : ℕ) → first_kind ≤ k → k ≤ last_kind → between first_kind last_kind k ≡ true
unfolding between and
kind-between k low high = rw (le-leb first_kind k low, le-leb k last_kind high)

kinds_between : {s : List ℕ} {lo : ℕ} {ts : List Token} → Placed edition17 s lo ts → (at : ℕ) → at < length ts
    → between first_kind last_kind (get_or ts at no_token).kind ≡ true
kinds_between (placed_none w) at h = absurd (omega arith)
kinds_between (placed_more {t = t} l x f r) zero h = kind-between t.kind f.low f.high
kinds_between (placed_more l x f r) (suc at) h = kinds_between r at (omega arith)

-- the tokens of a source, in a table that holds nothing else
module _ (source names tokens : List ℕ) (short : length source ≤ source_limit) (scans : scan edition17 source ≡ cleanly (rows_of tokens)) where
  pub tokens_good : Tokens tokens
  unfolding row_at
  tokens_good =
      let few = tokens_few edition17 spelled17 source (rows_of tokens) scans in
      let l = rows_of-length tokens in
      record {
        few = omega arith;
        kinds = λ (at : ℕ) (h : at < token_room tokens).
            kinds_between (tokens_placed edition17 spelled17 source (rows_of tokens) scans) at (omega arith);
      }

  module _ (rows after : List ℕ) where
    abbrev v : View
    v = view_of language17 source (rows_of tokens)

    abbrev e : Names
    e = names_of language17 source names (rows_of tokens)

    -- what the reader gives is the reading of the tokens
    reads : (o : Outcome) → Gives productions v e level_limit (whole program) 0 o → (o ≡ spent → ⊥)
        → read_tokens language17 level_limit source names (rows_of tokens) ≡ o
    reads o g some = (theorems17 source names (rows_of tokens) scans).read_from (0 + g.fuel) level_limit o (g.reads 0) some

    -- rows that were put, with room for them and without
    accepted_by : (count needed : ℕ) (rs : List Row) → read_tokens language17 level_limit source names (rows_of tokens) ≡ ok count rs 0
        → needed ≡ length rs → after ≡ put 0 rs rows → needed ≤ tree_room rows
        → (Accepted count needed ≡ (tree_result source names tokens rows).answer) × (after ≡ (tree_result source names tokens rows).rows)
    unfolding judged result
    accepted_by count needed rs said enough there room =
        let all = ((theorems17 source names (rows_of tokens) scans).sound level_limit count 0 rs said).0 in
        let fits : length rs ≤ tree_room rows = omega arith in
        rw (said, le-leb (length rs) (tree_room rows) fits, all, enough, there, put-placed rs rows fits) (refl, refl)

    full_by : (count needed : ℕ) (rs : List Row) → read_tokens language17 level_limit source names (rows_of tokens) ≡ ok count rs 0
        → needed ≡ length rs → after ≡ put 0 rs rows → tree_room rows < needed
        → (Refused 8 needed ≡ (tree_result source names tokens rows).answer) × (cleared after ≡ (tree_result source names tokens rows).rows)
    unfolding judged result
    full_by count needed rs said enough there room =
        let over : tree_room rows < length rs = omega arith in
        rw (said, lt-leb (length rs) (tree_room rows) over, enough, there) (refl, cleared-put rows 0 rs)

    -- from the reader's answer, with a prepared list that gives the names
    module _ (prepared : List ℕ) (named : prepared_names opening17 prepared (items source (rows_of tokens)) ≡ e) (step : Step)
        (whole-reads : ReadsWhole source prepared tokens Program level_limit rows step after)
      where
        in_names : Reads productions v (token_room tokens) e level_limit 0 1 (whole program) (Read 0 0) rows step after
        in_names =
            subst (λ (f : Names). Reads productions v (token_room tokens) f level_limit 0 1 (whole program) (Read 0 0) rows step after)
            named whole-reads

        read-rows : (count needed : ℕ) → step ≡ Read count needed → ReadTo v (token_room tokens) e level_limit rows after count needed
        read-rows count needed h = read_to v (token_room tokens) e level_limit rows after (Read 0 0) step in_names refl count needed h

        reads_ok : (count needed : ℕ) (h : step ≡ Read count needed)
            → read_tokens language17 level_limit source names (rows_of tokens) ≡ ok count (read-rows count needed h).row_list 0
        reads_ok count needed h =
            let to = read-rows count needed h in
            reads (ok count to.row_list 0) to.gives
            (λ (z : ok count to.row_list 0 ≡ spent). let q : ◌≡◌ {A = ℕ} 0 1 = cc in omega arith)

        pub accepted_rows : (count needed : ℕ) → step ≡ Read count needed → needed ≤ tree_room rows
            → (Accepted count needed ≡ (tree_result source names tokens rows).answer) × (after ≡ (tree_result source names tokens rows).rows)
        accepted_rows count needed h fits =
            let to = read-rows count needed h in
            accepted_by count needed to.row_list (reads_ok count needed h) to.enough to.put_there fits

        pub full_rows : (count needed : ℕ) → step ≡ Read count needed → tree_room rows < needed
            → (Refused 8 needed ≡ (tree_result source names tokens rows).answer) × (cleared after ≡ (tree_result source names tokens rows).rows)
        full_rows count needed h over =
            let to = read-rows count needed h in
            full_by count needed to.row_list (reads_ok count needed h) to.enough to.put_there over

        pub refused_rows : (number place : ℕ) → step ≡ Step.Refused number place → after ≡ cleared rows
            → (Refused number place ≡ (tree_result source names tokens rows).answer) × (after ≡ (tree_result source names tokens rows).rows)
        unfolding judged result
        refused_rows number place h clear =
            cases (stopped_at v (token_room tokens) e level_limit rows after (Read 0 0) step in_names refl number place h)
          where
            cases : ((number ≡ 6) × (Gives productions v e level_limit (whole program) 0 (stuck place)))
                ⊎ ((number ≡ 7) × (Gives productions v e level_limit (whole program) 0 (deep place)))
                → (Refused number place ≡ (tree_result source names tokens rows).answer) × (after ≡ (tree_result source names tokens rows).rows)
            cases (inl (six, g)) =
                let said = reads (stuck place) g (λ (z : stuck place ≡ spent). let q : ◌≡◌ {A = ℕ} 0 1 = cc in omega arith) in
                rw (said, six) (refl, clear)
            cases (inr (seven, g)) =
                let said = reads (deep place) g (λ (z : deep place ≡ spent). let q : ◌≡◌ {A = ℕ} 0 1 = cc in omega arith) in
                rw (said, seven) (refl, clear)
