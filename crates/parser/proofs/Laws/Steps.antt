-- What is known of steps that have come to a token, and of the conditions that are asked there. Assumes nothing.
use Prim.Native.Nat.{ℕ, ◌+◌, ◌^◌, ◌<◌, ◌≤◌}
use mathlib.Core.Path.{◌≡◌, refl}
use mathlib.Core.Bool.{Bool, true, false}
use mathlib.Core.List.{List}
use native.Mathlib.Omega.{arith}
use lib.Dec.{eqb}
use Rattle.lexer.specs.internal.TokenRows.{rows_of}
use Rattle.grammar.specs.Grammars.{Condition, Names, View, agrees, asked, met}
use Rattle.grammar.specs.Languages.{language17}
use Rattle.grammar.specs.Sources.{view_of}
use Rattle.parser.specs.internal.Steps.{Small, Spans, small, over, spans, from_refused, to_refused, opened, Within, inside}
use Rattle.parser.specs.internal.Steps.{elsewhere, next_kind, asked_at, taken_by, taken_kind, taken_if, row_left}
use Rattle.parser.specs.internal.Steps.{Step}
use Rattle.parser.specs.internal.Steps.{Read, Refused}

pub small_read : (s : Step) (at row : ℕ) → s ≡ Read at row → Small s → (at + 1 < 2 ^ 32) × (row + 1 < 2 ^ 32)
small_read (Read i r) at row e (small a b) =
    let i≡at : i ≡ at = cc in
    let r≡row : r ≡ row = cc in
    (rw (← i≡at) a, rw (← r≡row) b)
small_read (Refused number place) at row e over = let z : ◌≡◌ {A = ℕ} 0 1 = cc in absurd (omega arith)

pub spans_read : (s t : Step) (at row next last : ℕ) → s ≡ Read at row → t ≡ Read next last → Spans s t → (at ≤ next) × (row < last)
spans_read (Read i r) (Read j k) at row next last e d (spans a b) =
    let i≡at : i ≡ at = cc in
    let r≡row : r ≡ row = cc in
    let j≡next : j ≡ next = cc in
    let k≡last : k ≡ last = cc in
    (omega arith, omega arith)
spans_read (Read i r) (Refused number place) at row next last e d to_refused = let z : ◌≡◌ {A = ℕ} 0 1 = cc in absurd (omega arith)
spans_read (Refused number place) to at row next last e d from_refused = let z : ◌≡◌ {A = ℕ} 0 1 = cc in absurd (omega arith)

-- one token taken for a row
pub spans-opened : (s : Step) → Spans s (opened s)
unfolding opened
spans-opened (Read at row) = spans {at = at} {row = row} {next = at + 1} {last = row + 1} (omega arith) (omega arith)
spans-opened (Refused number place) = from_refused

-- a row left for what begins at the next token
pub reserved_within : {s s' : Step} (tokens : List ℕ) → Within tokens 0 s → s' ≡ row_left s → Within tokens 1 s'
unfolding row_left
reserved_within tokens (inside {at = i} {row = r} few to) is = rw is (inside {at = i} {row = r + 1} few (omega arith))
reserved_within tokens elsewhere is = rw is elsewhere

-- a token that is taken where it is of a kind: it is, ..
pub if_taken : (tokens : List ℕ) (kind : ℕ) (s : Step) → eqb (next_kind tokens s) kind ≡ true → taken_if tokens kind s ≡ taken_kind tokens kind s
unfolding next_kind taken_if taken_by
if_taken tokens kind (Read at row) h = rw h
if_taken tokens kind (Refused number place) h = refl

-- .. or it is not
pub if_kept : (tokens : List ℕ) (kind : ℕ) (s : Step) → eqb (next_kind tokens s) kind ≡ false → taken_if tokens kind s ≡ s
unfolding next_kind taken_if
if_kept tokens kind (Read at row) h = rw h
if_kept tokens kind (Refused number place) h = refl

pub agrees_self : (b : Bool) → agrees b b ≡ true
unfolding agrees
agrees_self true = refl
agrees_self false = refl

module _ (source tokens : List ℕ) (e : Names) where
  abbrev v : View
  v = view_of language17 source (rows_of tokens)

  -- what a condition is answered where a step has come to a token, ..
  pub asked_here : (q : Condition) (s : Step) (b : Bool) → asked_at q source tokens e s ≡ b → (j k : ℕ) → s ≡ Read j k → asked v e j q ≡ b
  unfolding asked_at
  asked_here q s b h j k is = rw is at h

  -- .. and that it is met then
  pub met_here : (q : Condition) (s : Step) (b : Bool) → asked_at q source tokens e s ≡ b → (j k : ℕ) → s ≡ Read j k → met v e j b q ≡ true
  unfolding met
  met_here q s b h j k is = rw (asked_here q s b h j k is) (agrees_self b)
