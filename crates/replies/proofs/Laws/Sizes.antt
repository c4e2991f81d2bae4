-- A reply fits its output: every number of a row that is printed has at most four digits, for it counts tokens, rows or kinds. Assumes
-- nothing.
use Prim.Native.Nat.{ℕ, zero, suc, ◌+◌, ◌*◌, ◌^◌, ◌<◌, ◌≤◌, min}
use mathlib.Core.Path.{◌≡◌, refl, ◌∙◌, ap}
use mathlib.Core.Bool.{Bool, true, false}
use mathlib.Core.List.{List, [], ◌∷◌, ◌++◌}
use native.Mathlib.Omega.{arith}
use lib.Dec.{ltb}
use Rattle.std.specs.Prelude.{Option}
use lib.ListN.{length, drop, get_or, replicate, length-append, length-drop, length-replicate}
use lib.Seq.{get_or-drop}
use borrow.Author.Tests.{le-leb}
use Rattle.lexer.specs.Tests.{pick}
use Rattle.lexer.specs.Text.{bytes}
use Rattle.lexer.specs.Table.{token_room}
use Rattle.lexer.proofs.Laws.Editions.{spelled17}
use Rattle.tree.specs.TreeTable.{Row, tree_width, tree_room, tree_rows, placed, column_at, tree_row_at}
use Rattle.tree.specs.internal.RowKinds.{named_type_row}
use Rattle.tree.proofs.Laws.Trees.{length-tree_rows}
use Rattle.grammar.specs.Forests.{Forest, nothing, tree}
use Rattle.grammar.specs.Languages.{language17}
use Rattle.grammar.proofs.Laws.KnownKinds.{KindsTo, none, each}
use Rattle.grammar.proofs.Laws.Nurl17.{theorems17}
use Rattle.answer.specs.executable.Answers.{answer17}
use Rattle.answer.specs.Results.{level_limit, Result}
use Rattle.answer.specs.Demands.{Refusal, too_long, bad_names, bad_byte, open_string, few_token_rows, no_program, too_deep, few_tree_rows}
use Rattle.answer.specs.Demands.{Demands}
use Rattle.answer.specs.declared.Answer.{Answer}
use Rattle.answer.specs.declared.Answer.TheVariants.{Accepted, Refused}
use Rattle.answer.proofs.Laws.Readable.{readable_scan}
use Rattle.answer.proofs.Theorem.{answer_meets}
use Rattle.nurl.specs.Texts.{decimal, number_text, row_line, row_lines, answer_text, written, bytes_written, overwritten}
use Rattle.nurl.proofs.Laws.Texts.{overwritten-length, digits_of_ten, digits_of_more}
use Rattle.nurl.proofs.Laws.Numbers.{refused_small}
use Rattle.replies.specs.Desk.{script_limit, desk_tokens, desk_tree, desk_result, desk_text, text_room}

-- digits
digits_of_two : (n : ℕ) → n < 100 → length (decimal n) ≤ 2
digits_of_two = digits_of_more 10 1 digits_of_ten (omega arith)

digits_of_three : (n : ℕ) → n < 1000 → length (decimal n) ≤ 3
digits_of_three = digits_of_more 100 2 digits_of_two (omega arith)

digits_of_four : (n : ℕ) → n < 10000 → length (decimal n) ≤ 4
digits_of_four = digits_of_more 1000 3 digits_of_three (omega arith)

digits_of_eight : (n : ℕ) → n < 100000000 → length (decimal n) ≤ 8
digits_of_eight =
    digits_of_more 10000000 7 (digits_of_more 1000000 6 (digits_of_more 100000 5 (digits_of_more 10000 4 digits_of_four (omega arith)) (omega arith))
    (omega arith)) (omega arith)

digits_of_word : (n : ℕ) → n < 2 ^ 32 → length (decimal n) ≤ 10
digits_of_word n small =
    digits_of_more 1000000000 9 (digits_of_more 100000000 8 digits_of_eight (omega arith)) (omega arith) n (omega arith)

-- numbers below ten thousand, and 0 past the end
abbrev Small : List ℕ → Type 0
Small numbers = (i : ℕ) → get_or numbers i 0 < 10000

small_cons : (n : ℕ) (numbers : List ℕ) → n < 10000 → Small numbers → Small (n ∷ numbers)
small_cons n numbers first rest zero = first
small_cons n numbers first rest (suc i) = rest i

small_nil : Small []
small_nil zero = omega arith
small_nil (suc i) = omega arith

small_append : (front rest : List ℕ) → Small front → Small rest → Small (front ++ rest)
small_append [] rest a b = b
small_append (n ∷ front) rest a b = small_cons n (front ++ rest) (a 0) (small_append front rest (λ (i : ℕ). a (suc i)) b)

small-drop : (n : ℕ) (numbers : List ℕ) → Small numbers → Small (drop n numbers)
small-drop n numbers all i = rw (get_or-drop) (all (n + i))

small_zeros : (n : ℕ) → Small (replicate n 0)
small_zeros zero = small_nil
small_zeros (suc n) = small_cons 0 (replicate n 0) (omega arith) (small_zeros n)

-- the places and counts of rows are no larger than what they count
data Places (most : ℕ) : List Row → Type 0 where
  no_row : Places most []
  some_row : {r : Row} {rows : List Row} → r.first ≤ most → r.cover ≤ most → r.count ≤ most → Places most rows → Places most (r ∷ rows)

places_append : {most : ℕ} {rows more : List Row} → Places most rows → Places most more → Places most (rows ++ more)
places_append no_row after = after
places_append (some_row a b c rest) after = some_row a b c (places_append rest after)

forest_forward : {n i j : ℕ} {rows : List Row} → Forest n i j rows → i ≤ j
forest_forward (nothing l) = l
forest_forward (tree l c children rest) = let a = forest_forward children in let b = forest_forward rest in omega arith

forest_places : {n i j : ℕ} {rows : List Row} → (most : ℕ) → j ≤ most → length rows ≤ most → Forest n i j rows → Places most rows
forest_places most far few (nothing l) = no_row
forest_places most far few (tree {r = r} {children = children} {rest = rest} l c below next) =
    let both = length-append children rest in
    let inner = forest_forward below in
    let outer = forest_forward next in
    some_row {r = r} (omega arith) (omega arith) (omega arith)
    (places_append (forest_places most (omega arith) (omega arith) below) (forest_places most far (omega arith) next))

small-rows : (rs : List Row) → KindsTo named_type_row rs → Places 5000 rs → Small (tree_rows rs)
unfolding tree_rows
small-rows [] none no_row = small_nil
small-rows (r ∷ rs) (each low high kinds) (some_row a b c rest) =
    small_cons r.kind (r.first ∷ r.cover ∷ r.count ∷ tree_rows rs) (omega arith)
    (small_cons r.first (r.cover ∷ r.count ∷ tree_rows rs) (omega arith)
    (small_cons r.cover (r.count ∷ tree_rows rs) (omega arith) (small_cons r.count (tree_rows rs) (omega arith) (small-rows rs kinds rest))))

small-placed : (rs : List Row) (table : List ℕ) → Small (tree_rows rs) → Small table → Small (placed rs table)
unfolding placed
small-placed rs table a b = small_append (tree_rows rs) (drop (length rs * tree_width) table) a (small-drop (length rs * tree_width) table b)

placed-length : (rs : List Row) (table : List ℕ) → length rs ≤ tree_room table → length (placed rs table) ≡ length table
unfolding placed
placed-length rs table room = let l = length-tree_rows rs in simp (length-append, length-drop) (omega arith)

-- the lines of rows
digits_of_column : (table : List ℕ) (r column : ℕ) → Small table → length (decimal (column_at table r column)) ≤ 4
unfolding column_at
digits_of_column table r column all = cases (ltb r (tree_room table))
  where
    cases : (t : Bool) → length (decimal (pick t (get_or table (r * tree_width + column) 0) 0)) ≤ 4
    cases true = digits_of_four (get_or table (r * tree_width + column) 0) (all (r * tree_width + column))
    cases false = digits_of_four 0 (omega arith)

line_of_row : (table : List ℕ) (r : ℕ) → Small table → length (row_line (tree_row_at table r)) ≤ 20
line_of_row table r all =
    let a = digits_of_column table r 0 all in
    let b = digits_of_column table r 1 all in
    let c = digits_of_column table r 2 all in
    let d = digits_of_column table r 3 all in
    simp length-append (omega arith)

lines_of_rows : (table : List ℕ) (n : ℕ) → Small table → length (row_lines table n) ≤ 20 * n
unfolding row_lines
lines_of_rows table zero all = omega arith
lines_of_rows table (suc n) all =
    let front = lines_of_rows table n all in
    let last = line_of_row table n all in
    let both = length-append (row_lines table n) (row_line (tree_row_at table n)) in
    omega arith

-- the text of an answer whose counts and rows are small, and of a refusal
text_accepted : (tokens count : ℕ) (table : List ℕ) → tokens < 10000 → count < 10000 → tree_room table ≤ 4000 → Small table
    → length (answer_text (Accepted tokens count) table) ≤ text_room
unfolding answer_text bytes
text_accepted tokens count table a b room all =
    let t = digits_of_four tokens a in
    let c = digits_of_four count b in
    let rows = lines_of_rows table (min count (tree_room table)) all in
    simp length-append (omega arith)

text_refused : (number_text place : ℕ) (table : List ℕ) → number_text < 10 → place < 2 ^ 32 → length (answer_text (Refused number_text place) table) ≤ text_room
unfolding answer_text bytes
text_refused number_text place table a b =
    let n = digits_of_ten number_text a in
    let p = digits_of_word place b in
    simp length-append (omega arith)

-- No. 1 to 8 have one digit
module _ (source names tokens rows : List ℕ) where
  refusal_digit : {number_text place : ℕ} {ta ra : List ℕ} → Refusal language17 source names level_limit tokens rows number_text place ta ra → number_text < 10
  refusal_digit (too_long a) = omega arith
  refusal_digit (bad_names a b) = omega arith
  refusal_digit (bad_byte a b) = omega arith
  refusal_digit (open_string a b) = omega arith
  refusal_digit (few_token_rows a b) = omega arith
  refusal_digit (no_program a b c) = omega arith
  refusal_digit (too_deep a b c) = omega arith
  refusal_digit (few_tree_rows a b c d) = omega arith

  -- an answer with tables of at most 5,000 and 4,000 rows
  module _ (token-room : token_room tokens ≤ 5000) (tree-room : tree_room rows ≤ 4000) (zeros : Small rows) (r : Result)
      (demands : Demands language17 source names level_limit tokens rows r) where
    accepted_fits : (t n : ℕ) → r.answer ≡ Accepted t n → length (answer_text (Accepted t n) r.rows) ≤ text_room
    accepted_fits t n h =
        let a = demands.demand2.accepted t n h in
        let ts = a.token_table.token_list in
        let scans = readable_scan language17 spelled17 source names a.token_table.readable in
        let rs = a.row_list in
        let few-tokens = a.room.for_tokens in
        let few_rows_lem = a.room.for_rows rs a.derived in
        let token_count = a.token_count in
        let row_count = a.row_count in
        let trees = (theorems17 source names ts scans).forest level_limit rs a.derived in
        let places = forest_places 5000 (omega arith) (omega arith) trees in
        let kinds = (theorems17 source names ts scans).kinds level_limit rs a.derived in
        let size = placed-length rs rows few_rows_lem in
        rw a.row_table
        (text_accepted t n (placed rs rows) (omega arith) (omega arith) (omega arith) (small-placed rs rows (small-rows rs kinds places) zeros))

    answer_fits : (a : Answer) → r.answer ≡ a → length (answer_text a r.rows) ≤ text_room
    answer_fits (Accepted t n) h = accepted_fits t n h
    answer_fits (Refused number_text place) h =
        text_refused number_text place r.rows (refusal_digit (demands.demand1.refused number_text place h))
        (refused_small source names tokens rows r demands number_text place h)

-- what two tables of these sizes are made of
desk_token_room : token_room desk_tokens ≤ 5000
unfolding desk_tokens
desk_token_room = let l = length-replicate {0} {A = ℕ} 15000 0 in omega arith

desk_tree_room : tree_room desk_tree ≤ 4000
unfolding desk_tree
desk_tree_room = let l = length-replicate {0} {A = ℕ} 16000 0 in omega arith

desk_tree-small : Small desk_tree
unfolding desk_tree
desk_tree-small = small_zeros 16000

-- "the longest text fits": whatever the script is
result_fits : (script tokens rows : List ℕ) → token_room tokens ≤ 5000 → tree_room rows ≤ 4000 → Small rows
    → length (answer_text (desk_result script tokens rows).answer (desk_result script tokens rows).rows) ≤ text_room
unfolding desk_result
result_fits script tokens rows a b c = cases (ltb script_limit (length script))
  where
    long : Result
    long = record { answer = Refused 1 0; tokens = tokens; rows = rows }

    cases : (t : Bool)
        → length (answer_text (pick t long (answer17 script [] tokens rows)).answer (pick t long (answer17 script [] tokens rows)).rows) ≤ text_room
    cases true = text_refused 1 0 rows (omega arith) (omega arith)
    cases false =
        answer_fits script [] tokens rows a b c (answer17 script [] tokens rows) (answer_meets script [] tokens rows)
        (answer17 script [] tokens rows).answer refl

pub reply_fits : (script : List ℕ) → length (desk_text script) ≤ text_room
unfolding desk_text
reply_fits script = result_fits script desk_tokens desk_tree desk_token_room desk_tree_room desk_tree-small

-- so many bytes of an output of that room hold it
pub size_inside : (script before after : List ℕ) (size : ℕ) → size ≡ length (desk_text script) → after ≡ overwritten (desk_text script) before
    → length before ≡ text_room → size ≤ length after
size_inside script before after size h there room =
    let fits = reply_fits script in
    let same = ap length there ∙ overwritten-length (desk_text script) before in
    omega arith

-- a text that fits is written whole
pub whole_text : (text : List ℕ) (room : ℕ) → length text ≤ room → bytes_written (written text room) room ≡ length text
unfolding written bytes_written
whole_text text room fits = rw (le-leb (length text) room fits)

-- the text of the answer with the desk's own tables
pub reply_text : (script tokens rows after : List ℕ) (found : Answer) → tokens ≡ desk_tokens → rows ≡ desk_tree
    → found ≡ (desk_result script tokens rows).answer → after ≡ (desk_result script tokens rows).rows → answer_text found after ≡ desk_text script
unfolding desk_text
reply_text script tokens rows after found t r a b = rw (a, b, t, r)

-- .. and how much of it is written, by what the writer of an answer said
pub reply_size : (script tokens rows after : List ℕ) (found : Answer) (room : ℕ) (said : Option ℕ) → tokens ≡ desk_tokens → rows ≡ desk_tree
    → found ≡ (desk_result script tokens rows).answer → after ≡ (desk_result script tokens rows).rows → room ≡ text_room
    → said ≡ written (answer_text found after) room → bytes_written said text_room ≡ length (desk_text script)
reply_size script tokens rows after found room said t r a b full is =
    rw (is, reply_text script tokens rows after found t r a b, full) (whole_text (desk_text script) text_room (reply_fits script))

-- .. and what the output holds then
pub reply_there : (script tokens rows after before output : List ℕ) (found : Answer) → tokens ≡ desk_tokens → rows ≡ desk_tree
    → found ≡ (desk_result script tokens rows).answer → after ≡ (desk_result script tokens rows).rows
    → output ≡ overwritten (answer_text found after) before → output ≡ overwritten (desk_text script) before
reply_there script tokens rows after before output found t r a b is = rw (← reply_text script tokens rows after found t r a b) is
