-- Texts written into a lent output: one byte more, more of a text that is cut, two texts one after the other, and the digits of a number.
-- Assumes nothing.
use Prim.Native.Nat.{ℕ, zero, suc, ◌+◌, ◌*◌, ◌/◌, ◌<◌, ◌≤◌}
use mathlib.Core.Path.{◌≡◌, refl, sym, ◌∙◌, ap}
use mathlib.Core.Bool.{Bool, true, false}
use mathlib.Core.List.{List, [], ◌∷◌, ◌++◌, append_assoc, append-nil}
use native.Mathlib.Omega.{arith}
use native.Mathlib.Numerals.{add-one, unary_clauses}
use lib.Dec.{leb, ltb}
use lib.ListN.{length, take, drop, set, length-append, length-take, length-drop, drop_of_length-le}
use lib.Seq.{take_all, take-append-le, set_at, drop-cons}
use borrow.Author.Tests.{ltb-true, ltb-false, lt-ltb, le-ltb}
use Rattle.std.specs.Prelude.{Option, Some, None}
use Rattle.std.proofs.lemmas.Bool.Decides.{nat_tests}
use Rattle.std.proofs.lemmas.Grind.{common_steps}
use Rattle.lexer.specs.Tests.{pick}
use Rattle.tree.specs.TreeTable.{tree_row_at}
use Rattle.nurl.specs.Texts.{digit, digits_within, decimal, row_line, row_lines, written, overwritten}
use Rattle.nurl.specs.declared.text.Text.{Text}
use Rattle.nurl.specs.internal.Writing.{Holds, Appends, Writes, reached}

-- what is written tells of the text
written_by : (text : List ℕ) (room : ℕ) (t : Bool) → leb (length text) room ≡ t → written text room ≡ pick t (Some (length text)) None
unfolding written
written_by text room t h = rw h

pub fits_whole : (text : List ℕ) (room at : ℕ) → Some at ≡ written text room → (at ≡ length text) × (length text ≤ room)
unfolding written
fits_whole text room at h = grind (arith, nat_tests)

over_cut : (text : List ℕ) (room : ℕ) → None ≡ written text room → room < length text
unfolding written
over_cut text room h = grind (arith, nat_tests)

-- an output with room for a text, and one without
overwritten-fits : (text before : List ℕ) → length text ≤ length before → overwritten text before ≡ text ++ drop (length text) before
unfolding overwritten
overwritten-fits text before fits = rw (take_all (length before) text fits)

overwritten-over : (text before : List ℕ) → length before ≤ length text → overwritten text before ≡ take (length before) text ++ []
unfolding overwritten
overwritten-over text before over = rw (drop_of_length-le before over)

-- the output keeps its length
pub overwritten-length : (text before : List ℕ) → length (overwritten text before) ≡ length before
unfolding overwritten
overwritten-length text before = simp (length-append, length-take, length-drop) (omega arith)

-- nothing is written yet
pub holds_none : (before : List ℕ) → Holds [] before (Some 0) before
unfolding written overwritten
holds_none before = record { says = grind (arith, nat_tests); leaves = grind (arith, common_steps) }

-- a text that fills the output, with more
past_room : (text before more : List ℕ) → length before ≤ length text → length before < length (text ++ more)
    → Holds (text ++ more) before None (overwritten text before)
unfolding written
past_room text before more full over = record {
  says = grind (arith, nat_tests);
  leaves = overwritten-over text before full
      ∙ sym (overwritten-over (text ++ more) before (omega arith) ∙ rw (take-append-le (length before) text more full));
}

-- a text that is cut stays cut
cut_stays : (more output : List ℕ) → Appends more None output None output
cut_stays more output text before h =
    let over = over_cut text (length before) h.says in
    rw h.leaves (past_room text before more (omega arith) (omega (arith, length-append text more)))

pub appends_cut : (b : ℕ) (output : List ℕ) → Appends (b ∷ []) None output None output
appends_cut b output = cut_stays (b ∷ []) output

-- one byte more, where the output is full
pub appends_full : (b at : ℕ) (output : List ℕ) → length output ≤ at → Appends (b ∷ []) (Some at) output None output
appends_full b at output full text before h =
    let whole = fits_whole text (length before) at h.says in
    let l = ap length h.leaves ∙ overwritten-length text before in
    rw h.leaves (past_room text before (b ∷ []) (omega arith) (omega (arith, length-append text (b ∷ []))))

-- .. and where it is not
set_more : (text before : List ℕ) (b : ℕ) → length text < length before
    → set (text ++ drop (length text) before) (length text) b ≡ (text ++ (b ∷ [])) ++ drop (length (text ++ (b ∷ []))) before
set_more text before b inside =
    let l : length (text ++ (b ∷ [])) ≡ suc (length text) = length-append text (b ∷ []) ∙ add-one (length text) in
    rw (drop-cons before (length text) 0 inside, l, append_assoc text (b ∷ []) (drop (suc (length text)) before))
    (set_at text _ (drop (suc (length text)) before) b (length text) refl)

pub appends_byte : (b at : ℕ) (output : List ℕ) → at < length output → Appends (b ∷ []) (Some at) output (Some (at + 1)) (set output at b)
unfolding written
appends_byte b at output inside text before h =
    let whole = fits_whole text (length before) at h.says in
    let here = whole.0 in
    let l = ap length h.leaves ∙ overwritten-length text before in
    let more = length-append text (b ∷ []) in
    let size : length (text ++ (b ∷ [])) ≡ at + 1 = omega arith in
    record {
      says = grind (arith, nat_tests);
      leaves = rw (h.leaves, overwritten-fits text before whole.1, here, overwritten-fits (text ++ (b ∷ [])) before (omega arith))
          (set_more text before b (omega arith));
    }

-- two texts one after the other
pub appends_append : (x y : List ℕ) (s r q : Option ℕ) (a b c : List ℕ) → Appends x s a r b → Appends y r b q c → Appends (x ++ y) s a q c
appends_append x y s r q a b c first second text before h =
    rw (← append_assoc text x y) (second (text ++ x) before (first text before h))

-- no text
pub appends_nothing : (s : Option ℕ) (a : List ℕ) → Appends [] s a s a
appends_nothing s a text before h = rw (append-nil text) h

-- a whole text
pub appends_all : (x : List ℕ) (r : Option ℕ) (before after : List ℕ) → Appends x (Some 0) before r after
    → (r ≡ written x (length before)) × (after ≡ overwritten x before)
appends_all x r before after w = let all = w [] before (holds_none before) in (all.says, all.leaves)

-- two methods one after the other
pub writes_append : {x y : List ℕ} {from mid to : Text} {answer : Option Unit} → Writes x from (Some tt) mid → Writes y mid answer to
    → Writes (x ++ y) from answer to
writes_append {x = x} {y = y} first second = record {
  same_output = second.same_output ∙ first.same_output;
  holds = appends_append x y _ _ _ _ _ _ first.holds second.holds;
}

-- .. and the first of two that is cut
pub writes_cut : {x : List ℕ} (y : List ℕ) {from to : Text} {answer : Option Unit} → answer ≡ None → Writes x from None to
    → Writes (x ++ y) from answer to
writes_cut {x = x} y none first = record {
  same_output = first.same_output;
  holds = rw none (appends_append x y _ _ _ _ _ _ first.holds (cut_stays y _));
}

-- .. and the lines of the first rows of more
pub rows_cut : (table : List ℕ) (n more : ℕ) {from to : Text} → Writes (row_lines table n) from None to
    → Writes (row_lines table (n + more)) from None to
unfolding row_lines
rows_cut table n zero cut = simp unary_clauses cut
rows_cut table n (suc more) cut = simp unary_clauses (writes_cut (row_line (tree_row_at table (n + more))) refl (rows_cut table n more cut))

-- a method that writes nothing
pub writes_nothing : (t : Text) → Writes [] t (Some tt) t
writes_nothing t = record { same_output = refl; holds = appends_nothing _ _ }

-- a method that writes a whole text
pub writes_all : {x : List ℕ} {from to : Text} {answer : Option Unit} → from.size ≡ 0 → Writes x from answer to
    → (reached answer to.size ≡ written x (length from.output.now)) × (to.output.now ≡ overwritten x from.output.now)
writes_all {x = x} none w = appends_all x _ _ _ (rw none at w.holds)

-- more digits than a number has change nothing
digits_more : (m k n : ℕ) → n ≤ m → n ≤ k → digits_within m n ≡ digits_within k n
unfolding digits_within
digits_more zero zero n a b = refl
digits_more zero (suc k) n a b = grind (arith, nat_tests)
digits_more (suc m) zero n a b = grind (arith, nat_tests)
digits_more (suc m) (suc k) zero a b = refl
digits_more (suc m) (suc k) (suc n) a b = rw (digits_more m k (suc n / 10) (omega arith) (omega arith))

pub decimal_last : (n : ℕ) → n < 10 → decimal n ≡ digit n ∷ []
unfolding decimal digits_within
decimal_last zero h = refl
decimal_last (suc n) h = rw (lt-ltb (suc n) 10 h)

pub decimal-more : (n : ℕ) → 10 ≤ n → decimal n ≡ decimal (n / 10) ++ (digit n ∷ [])
unfolding decimal digits_within
decimal-more zero h = absurd (omega arith)
decimal-more (suc n) h = rw (le-ltb (suc n) 10 h, digits_more n (suc n / 10) (suc n / 10) (omega arith) (omega arith))

-- how many digits a number has: one more for each ten times as many
pub digits_of_ten : (n : ℕ) → n < 10 → length (decimal n) ≤ 1
digits_of_ten n small = rw (decimal_last n small) (omega arith)

pub digits_of_more : (most digits : ℕ) → ((n : ℕ) → n < most → length (decimal n) ≤ digits) → 1 ≤ digits
    → (n : ℕ) → n < 10 * most → length (decimal n) ≤ digits + 1
digits_of_more most digits fewer some n small = cases (ltb n 10) refl
  where
    cases : (t : Bool) → ltb n 10 ≡ t → length (decimal n) ≤ digits + 1
    cases true q = omega (arith, digits_of_ten n (ltb-true _ _ q))
    cases false q =
        let more = decimal-more n (ltb-false n 10 q) in
        let front = fewer (n / 10) (omega arith) in
        rw (more, length-append (decimal (n / 10)) (digit n ∷ [])) (omega arith)
