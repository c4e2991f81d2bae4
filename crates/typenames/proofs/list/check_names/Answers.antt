-- `typenames::list::check_names` meets its contract: the answer for the entries that are left is the whole answer.
-- Assumes nothing.
use Prim.Native.Nat.{ℕ, ◌≤◌}
use mathlib.Core.Path.{◌≡◌, ◌∙◌, sym, ap}
use mathlib.Core.List.{List}
use native.Mathlib.Omega.{arith}
use borrow.Author.Tests.{lt-ltb, le-ltb}
use lib.ListN.{length}
use Rattle.lexer.specs.Editions.{edition17}
use Rattle.lexer.proofs.Laws.Answers.{valued}
use Rattle.typenames.specs.NameList.{Checked, name_limit, entries, first_bad, checked}
use Rattle.typenames.specs.internal.Checks.{checked_values}
use Rattle.typenames.specs.internal.Entries.{entries_left}
use Rattle.typenames.proofs.Laws.Entries.{extent, extent-entries, bad_none, bad_here, bad_later}
use Rattle.typenames.proofs.list.check_names.Goals as goal
use Rattle.typenames.proofs.list.check_names.Goals.{After-next}

-- the answer for a list that is short enough is that for its entries
short_list : (list : List ℕ) (r : Checked) → length list ≤ name_limit → first_bad edition17 0 (entries list) ≡ r
    → (r ≡ checked edition17 list) × (checked_values r ≡ checked_values (checked edition17 list))
unfolding checked
short_list list r short says = valued checked_values r _ (rw (le-ltb name_limit _ short) (sym says))

pub returns-then-list-gt-NAME_LIMIT : goal.returns-then-list-gt-NAME_LIMIT
unfolding checked
returns-then-list-gt-NAME_LIMIT c =
    let v = valued checked_values _ _ (rw (c.new.ensures, lt-ltb name_limit _ c.if-list-gt-NAME_LIMIT.true)) in
    record { answer = v.0; values = v.1 }

pub loop-entry-init : goal.loop-entry-init
loop-entry-init c =
    let all = ap entries_left c.into_iter-entry-iterator.ensures.into_iter_gives ∙ c.of-entry-items.ensures in
    (omega (arith, ap extent all, extent-entries c.args.list.now), rw all)

pub returns-then-not-is_name : goal.returns-then-not-is_name
returns-then-not-is_name c =
    let loop = c.loop-entry in
    let bad = bad_here edition17 loop.place _ _ _ c.in-Some.ensures.steps (sym c.is_name.ensures ∙ c.if-not-is_name.true) in
    let v = short_list c.args.list.now _ c.if-list-gt-NAME_LIMIT.false (loop.invariant.1 ∙ bad) in
    rw c.new-then-not-is_name.ensures (record { answer = v.0; values = v.1 })

pub loop-entry-preserved : goal.loop-entry-preserved
loop-entry-preserved c =
    let loop = c.loop-entry in
    let steps = c.in-Some.ensures.steps in
    let good = bad_later edition17 loop.place _ _ _ steps (sym c.is_name.ensures ∙ c.if-not-is_name.false) in
    (omega (arith, ap extent steps), loop.invariant.1 ∙ good)

pub returns : goal.returns
returns c =
    let loop = c.loop-entry in
    let v = short_list c.args.list.now _ c.if-list-gt-NAME_LIMIT.false (loop.invariant.1 ∙ bad_none edition17 loop.place _ c.in-None.ensures.steps.0) in
    record { answer = v.0; values = v.1 }
