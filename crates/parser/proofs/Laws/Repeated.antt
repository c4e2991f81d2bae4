-- What the loop of every list needs of a reader that went on, and how a list is what that loop reads. Assumes nothing.
use Prim.Native.Nat.{ℕ, ◌-◌, ◌<◌, ◌≤◌}
use mathlib.Core.Path.{◌≡◌, sym, subst}
use mathlib.Core.Bool.{Bool, true, false}
use mathlib.Core.List.{List, [], ◌∷◌}
use native.Mathlib.Omega.{arith}
use Rattle.std.specs.Prelude.{Result, Ok}
use Rattle.std.specs.Borrow.{Bor, MutBor}
use Rattle.lexer.specs.Table.{token_room}
use Rattle.lexer.specs.internal.TokenRows.{rows_of}
use Rattle.lexer.specs.declared.refusals.Refusal.{Refusal}
use Rattle.grammar.specs.Grammars.{Symbol, Makes, Names, derived, no_row}
use Rattle.grammar.specs.Nurl.{productions}
use Rattle.grammar.specs.Languages.{language17}
use Rattle.grammar.specs.Sources.{view_of}
use Rattle.grammar.specs.executable.Reading.{selected, choice}
use Rattle.grammar.specs.internal.Productions.{rule_of}
use Rattle.parser.specs.internal.Steps.{Step, Read, Tokens, inside, step_at, step_of}
use Rattle.parser.specs.internal.Readings.{Reads17, read}
use Rattle.parser.specs.internal.Readers.{Stands, Advances, Asks, ReadsOne, Repeats, ReadsBy, ReadsKindsBy, names_of}
use Rattle.parser.specs.declared.Place.{Place}
use Rattle.parser.specs.declared.reading.Reading.{Reading}
use Rattle.parser.proofs.Laws.After.{After, start, went, done, list_more, list_done}
use Rattle.parser.proofs.Laws.Views.{names_fixed}
use Rattle.parser.proofs.Laws.Results.{arrived}

within_room : (r : Reading) (p : Place) → Stands r 0 p → p.token ≤ token_room r.tokens.now
within_room r p (inside few to) = few

-- the tokens ahead are fewer
pub ahead_falls : (r : Reading) (from to : Place) → (from.token < to.token) × Stands r 0 to
    → token_room r.tokens.now - to.token < token_room r.tokens.now - from.token
ahead_falls r from to on = let room = within_room r to on.1 in omega (arith, on, room)

further : (r : Reading) (source : List ℕ) (e : Names) (n y : ℕ) (from to : Place) (t t' : List ℕ)
    → Reads17 source r.tokens.now e n 1 (derived y ∷ []) (step_at from) t (step_at to) t' → from.token < to.token
further r source e n y from to t t' (read d at is on few most) = omega (arith, on)

-- a reader of a part goes on, ..
pub goes_on : (r : Reading) (of : Bor Reading) (source : List ℕ) (e : Names) (n y : ℕ) (from : Place) (result : Result Place Refusal)
    (t t' : List ℕ) → of.now ≡ r → Reads17 source of.now.tokens.now e n 1 (derived y ∷ []) (step_at from) t (step_of result) t'
    → Advances r from result
goes_on r of source e n y from result t t' is part to gives =
    let part' : Reads17 source of.now.tokens.now e n 1 (derived y ∷ []) (step_at from) t (step_of (Ok to)) t' =
    subst (λ (s : Result Place Refusal). Reads17 source of.now.tokens.now e n 1 (derived y ∷ []) (step_at from) t (step_of s) t') gives part in
    let there : Stands r 0 to = rw (← is) (arrived part') in
    (further of.now source e n y from to t t' part', there)

-- a production is read up to where a list of x comes next
abbrev pub Before : List ℕ → List ℕ → Names → ℕ → ℕ → Makes → ℕ → ℕ → List Symbol → ℕ → List Symbol → Step → List ℕ → Step → List ℕ → Type 0
Before source tokens e n below m least more ts x ss =
    After productions (view_of language17 source (rows_of tokens)) (token_room tokens) e n below m least more ts (derived x ∷ ss)

-- a list of x is read up to here, from a place on
abbrev pub Along : List ℕ → List ℕ → Names → ℕ → ℕ → Step → List ℕ → Step → List ℕ → Type 0
Along source tokens e n x =
    After productions (view_of language17 source (rows_of tokens)) (token_room tokens) e n n no_row 0 0 (derived x ∷ []) (derived x ∷ [])

-- a nonterminal x is a list of y: where one begins, it is that y and then x again, and elsewhere nothing
pub record IsList (source tokens : List ℕ) (e : Names) (x y : ℕ) (begun : Step → Bool) : Type 0 where
  pub goes : {n below least more : ℕ} {m : Makes} {ts ss : List Symbol} {s s' s'' : Step} {t t' t'' : List ℕ}
      → Before source tokens e n below m least more ts x ss s t s' t' → begun s' ≡ true
      → Reads17 source tokens e below 1 (derived y ∷ []) s' t' s'' t'' → Before source tokens e n below m least more ts x ss s t s'' t''
  pub ends : {n : ℕ} {s s' : Step} {t t' : List ℕ} → Along source tokens e n x s t s' t' → begun s' ≡ false
      → Reads17 source tokens e n 0 (derived x ∷ []) s t s' t'

-- .. by the productions that the table has for it
pub list_by : (source tokens : List ℕ) (good : Tokens tokens) (e : Names) {x y : ℕ} {begun : Step → Bool}
    → ((s : Step) (j k : ℕ) → begun s ≡ true → s ≡ Read j k
    → choice productions (view_of language17 source (rows_of tokens)) e x j ≡ selected (rule_of x no_row (derived y ∷ derived x ∷ [])))
    → ((s : Step) (j k : ℕ) → begun s ≡ false → s ≡ Read j k
    → choice productions (view_of language17 source (rows_of tokens)) e x j ≡ selected (rule_of x no_row []))
    → IsList source tokens e x y begun
list_by source tokens good e part none =
    let fixed = names_fixed source tokens good e in
    record {
      goes = λ {n} {below} {least} {more} {m} {ts} {ss} {s} {s'} a is. list_more productions _ _ _ fixed a (λ j k read. part s' j k is read);
      ends = λ {n} {s} {s'} a is. done productions _ _ _ fixed (list_done productions _ _ _ fixed a (λ j k read. none s' j k is read));
    }

-- so that a loop reads it, ..
repeats_of : (r : Reading) (source : List ℕ) (e : Names) (n x y : ℕ) (begun : Step → Bool) {asks : Asks} {reads : ReadsOne}
    → ((of : Bor Reading) (at : Place) (b : Bool) → of.now ≡ r → asks of at b → b ≡ begun (step_at at))
    → ((of : Bor Reading) (rows after : MutBor (List ℕ)) (at : Place) (result : Result Place Refusal) → of.now ≡ r
    → reads of rows at n result after
    → Reads17 source r.tokens.now e n 1 (derived y ∷ []) (step_at at) rows.now (step_of result) after.now)
    → IsList source r.tokens.now e x y begun → Repeats r source e n x asks reads
repeats_of r source e n x y begun asked one list =
    let fixed = names_fixed source r.tokens.now r.tokens_good e in
    record {
      more = λ {of} {of'} {rows} {after} {at} {result} is is' stands asks part rest.
          let read = one of' rows after at result is' part in
          done productions _ _ _ fixed
          (went productions _ _ _ fixed (list.goes (start productions _ _ _ fixed stands) (sym (asked of at true is asks)) read) rest);
      ends = λ {of} {at} is stands asks. list.ends (start productions _ _ _ fixed stands) (sym (asked of at false is asks));
    }

-- .. for the names in force, ..
pub repeats_by : (r : Reading) (n x y : ℕ) (begun : Reading → Step → Bool) {asks : Asks} {reads : ReadsOne}
    → ((of : Bor Reading) (at : Place) (b : Bool) → asks of at b → b ≡ begun of.now (step_at at))
    → ((of : Bor Reading) (rows after : MutBor (List ℕ)) (at : Place) (result : Result Place Refusal) → reads of rows at n result after
    → ReadsBy of.now n 1 y at rows.now result after.now)
    → IsList r.source.now r.tokens.now (names_of r) x y (begun r) → Repeats r r.source.now (names_of r) n x asks reads
repeats_by r n x y begun asked one =
    repeats_of r r.source.now (names_of r) n x y (begun r) (λ of at b is asks. rw (← is) (asked of at b asks))
    (λ of rows after at result is part. rw (← is) (one of rows after at result part))

-- .. or whatever the texts are
pub repeats_kinds : (r : Reading) (source : List ℕ) (e : Names) (n x y : ℕ) (begun : Reading → Step → Bool) {asks : Asks} {reads : ReadsOne}
    → ((of : Bor Reading) (at : Place) (b : Bool) → asks of at b → b ≡ begun of.now (step_at at))
    → ((of : Bor Reading) (rows after : MutBor (List ℕ)) (at : Place) (result : Result Place Refusal) → reads of rows at n result after
    → ReadsKindsBy of.now n 1 y at rows.now result after.now)
    → IsList source r.tokens.now e x y (begun r) → Repeats r source e n x asks reads
repeats_kinds r source e n x y begun asked one =
    repeats_of r source e n x y (begun r) (λ of at b is asks. rw (← is) (asked of at b asks))
    (λ of rows after at result is part. rw (← is) (one of rows after at result part source e))
