-- The readers that document 01 will not accept, and one that leaves a token out: each violates the demand that is named for it.
-- Assumes nothing.
use Prim.Native.Nat.{ℕ, suc, ◌*◌, ◌-◌}
use mathlib.Core.Path.{◌≡◌, refl, sym, ◌∙◌, ap}
use mathlib.Core.List.{List, [], ◌∷◌, ◌++◌}
use native.Mathlib.Omega.{arith}
use lib.ListN.{length, take, drop, get_or}
use Rattle.lexer.specs.Text.{bytes}
use Rattle.lexer.specs.internal.Kinds.{colon}
use Rattle.lexer.specs.Editions.{edition17}
use Rattle.lexer.specs.Tokens.{Token}
use Rattle.lexer.specs.executable.Scans.{cleanly, scan}
use Rattle.lexer.specs.Table.{token_row, token_rows, filled}
use Rattle.lexer.specs.Examples.{token_from}
use Rattle.lexer.proofs.Laws.Editions.{spelled17}
use Rattle.lexer.proofs.Laws.Examples.{scans}
use Rattle.lexer.proofs.Laws.Scans.{found_once}
use Rattle.tree.specs.internal.RowKinds.{function_row}
use Rattle.tree.specs.TreeTable.{tree_width, placed, cleared}
use Rattle.grammar.specs.Languages.{language17}
use Rattle.answer.specs.executable.Answers.{answer17}
use Rattle.answer.specs.Results.{level_limit, Result}
use Rattle.answer.specs.Demands.{Readable, Acceptance, Reader, MeetsDemands}
use Rattle.answer.specs.Examples.{node, lent_tokens, lent_rows}
use Rattle.answer.specs.declared.Answer.{Answer}
use Rattle.answer.specs.declared.Answer.TheVariants.{Accepted, Refused}
use Rattle.answer.proofs.Laws.Readable.{readable_scan, readable_same}
use Rattle.answer.proofs.Laws.Examples.{answers_to}
use Rattle.answer.proofs.Theorem.{answer_meets}

-- the sources that tell: M1, M2, and two declarations
floor : List ℕ
unfolding bytes
floor = bytes ": i floor -40"

two : List ℕ
unfolding bytes
two = bytes ": Foo { } @ g → v { }"

abbrev floor_tokens : List Token
floor_tokens = token_from ":" 0 1 ∷ token_from "keyword" 2 1 ∷ token_from "IDENT" 4 5 ∷ token_from "INT" 10 3 ∷ []

empty_accepted : (answer17 [] [] lent_tokens lent_rows).answer ≡ Accepted 0 1
unfolding answers_to
empty_accepted = refl

floor_accepted : (answer17 floor [] lent_tokens lent_rows).answer ≡ Accepted 4 4
unfolding answers_to floor
floor_accepted = refl

two_accepted : (answer17 two [] lent_tokens lent_rows).answer ≡ Accepted 10 5
unfolding answers_to two
two_accepted = refl

-- what acceptance says of the empty source
empty : Acceptance language17 [] [] level_limit lent_tokens lent_rows 0 1
    (answer17 [] [] lent_tokens lent_rows).tokens (answer17 [] [] lent_tokens lent_rows).rows
empty = (answer_meets [] [] lent_tokens lent_rows).demand2.accepted 0 1 empty_accepted

empty_tokens : scan edition17 [] ≡ cleanly []
unfolding scans
empty_tokens = refl

floor_tokens_lem : scan edition17 floor ≡ cleanly floor_tokens
unfolding scans floor
floor_tokens_lem = refl

-- readable tokens are those of the scan
tokens_are : (source : List ℕ) (ts us : List Token) → Readable language17 source [] ts → scan edition17 source ≡ cleanly us → ts ≡ us
tokens_are source ts us r h = found_once (scan edition17 source) ts us (readable_scan language17 spelled17 source [] r) h

-- one that refuses all violates `accepts`
abbrev refuses_all : Reader
refuses_all source names tokens rows =
    record { answer = Refused 6 0; tokens = filled source (scan edition17 source).found tokens; rows = cleared rows }

pub refuses_all_violates : MeetsDemands refuses_all → ⊥
refuses_all_violates meets =
    let due = (meets [] [] lent_tokens lent_rows).demand3.accepts empty.token_table.token_list empty.row_list
    empty.token_table.readable empty.room empty.derived in
    let same = ap (λ (r : Result). r.answer) due in
    let z : ◌≡◌ {A = ℕ} 0 1 = cc in
    absurd (omega arith)

-- one that answers M1 for every source violates `accepted`, by its token count
abbrev answers_m1 : Reader
answers_m1 source names tokens rows =
    record { answer = Accepted 0 1; tokens = tokens; rows = placed (node "program" 0 0 1 ∷ []) rows }

pub answers_m1_violates : MeetsDemands answers_m1 → ⊥
answers_m1_violates meets =
    let said = (meets floor [] lent_tokens lent_rows).demand2.accepted 0 1 refl in
    let count = said.token_count in
    let list = tokens_are floor said.token_table.token_list floor_tokens said.token_table.readable floor_tokens_lem in
    let four : ◌≡◌ {A = ℕ} 0 4 = rw list at count in
    absurd (omega arith)

-- one that never writes violates `accepted`, by the token table
abbrev never_writes : Reader
never_writes source names tokens rows = record { answer = (answer17 source names tokens rows).answer; tokens = tokens; rows = rows }

floor_written : (ts : List Token) → ts ≡ floor_tokens
    → lent_tokens ≡ filled floor ts lent_tokens → ⊥
unfolding filled token_row token_rows lent_tokens
floor_written ts list table =
    let first : get_or (filled floor ts lent_tokens) 0 0 ≡ colon = rw list refl in
    let kept = ap (λ (numbers : List ℕ). get_or numbers 0 0) table in
    absurd (omega arith)

pub never_writes_violates : MeetsDemands never_writes → ⊥
never_writes_violates meets =
    let said = (meets floor [] lent_tokens lent_rows).demand2.accepted 4 4 floor_accepted in
    let list = tokens_are floor said.token_table.token_list floor_tokens said.token_table.readable floor_tokens_lem in
    floor_written said.token_table.token_list list said.token_table.numbers

-- one that reads the first declaration and invents the others, here by leaving them out, violates `accepted`, by its rows
abbrev reads_first : Reader
reads_first source names tokens rows =
    let r = answer17 source names tokens rows in
    record { answer = r.answer; tokens = r.tokens; rows = take (2 * tree_width) r.rows ++ drop (2 * tree_width) rows }

two_written : get_or (answer17 two [] lent_tokens lent_rows).rows 8 0 ≡ function_row
unfolding answers_to two
two_written = refl

two_kept : get_or (reads_first two [] lent_tokens lent_rows).rows 8 0 ≡ 7
unfolding answers_to two
two_kept = refl

pub reads_first_violates : MeetsDemands reads_first → ⊥
reads_first_violates meets =
    let said = (meets two [] lent_tokens lent_rows).demand2.accepted 10 5 two_accepted in
    let due = (answer_meets two [] lent_tokens lent_rows).demand2.accepted 10 5 two_accepted in
    let list = readable_same language17 spelled17 two [] said.token_table.token_list due.token_table.token_list
    said.token_table.readable due.token_table.readable in
    let only = (answer_meets two [] lent_tokens lent_rows).demand3.only 10 5 due 200 said.row_list (rw list at said.derived) in
    let table : (answer17 two [] lent_tokens lent_rows).rows ≡ (reads_first two [] lent_tokens lent_rows).rows =
    due.row_table ∙ rw (← only) (sym said.row_table) in
    let same = ap (λ (numbers : List ℕ). get_or numbers 8 0) table in
    let written = two_written in
    let kept = two_kept in
    absurd (omega arith)

-- one that reports invented row counts violates `accepted`, for the tokens and for the tree, whose rows `only` fixes
abbrev counted : (ℕ → ℕ) → (ℕ → ℕ) → Answer → Answer
counted f g (Accepted tokens rows) = Accepted (f tokens) (g rows)
counted f g (Refused number place) = Refused number place

abbrev invents_counts : (ℕ → ℕ) → (ℕ → ℕ) → Reader
invents_counts f g source names tokens rows =
    let r = answer17 source names tokens rows in
    record { answer = counted f g r.answer; tokens = r.tokens; rows = r.rows }

pub invents_tokens_violates : MeetsDemands (invents_counts suc (λ n. n)) → ⊥
invents_tokens_violates meets =
    let said = (meets [] [] lent_tokens lent_rows).demand2.accepted 1 1 (rw empty_accepted refl) in
    let count = said.token_count in
    let list = tokens_are [] said.token_table.token_list [] said.token_table.readable empty_tokens in
    let none : ◌≡◌ {A = ℕ} 1 0 = rw list at count in
    absurd (omega arith)

pub invents_rows_violates : MeetsDemands (invents_counts (λ n. n) suc) → ⊥
invents_rows_violates meets =
    let said = (meets [] [] lent_tokens lent_rows).demand2.accepted 0 2 (rw empty_accepted refl) in
    let list = readable_same language17 spelled17 [] [] empty.token_table.token_list said.token_table.token_list
    empty.token_table.readable said.token_table.readable in
    let only = (meets [] [] lent_tokens lent_rows).demand3.only 0 2 said 200 empty.row_list (rw list at empty.derived) in
    let rows = said.row_count in
    let one : ◌≡◌ {A = ℕ} 1 (length said.row_list) = rw only at empty.row_count in
    absurd (omega arith)

-- one that leaves the first token out of the table, and does not count it, violates `accepted`, by `tiles`
abbrev drops_token : Reader
drops_token source names tokens rows =
    let r = answer17 source names tokens rows in
    let kept = drop 1 (scan edition17 source).found in
    record { answer = counted (λ n. n - 1) (λ n. n) r.answer; tokens = filled source kept tokens; rows = r.rows }

pub drops_token_violates : MeetsDemands drops_token → ⊥
drops_token_violates meets =
    let said = (meets floor [] lent_tokens lent_rows).demand2.accepted 3 4 (rw floor_accepted refl) in
    let count = said.token_count in
    let list = tokens_are floor said.token_table.token_list floor_tokens said.token_table.readable floor_tokens_lem in
    let four : ◌≡◌ {A = ℕ} 3 4 = rw list at count in
    absurd (omega arith)
