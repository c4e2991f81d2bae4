-- `typenames::declarations::next_name` meets its contract: no name is declared before the row reached. Assumes nothing.
use Prim.Native.Nat.{◌+◌, ◌<◌}
use mathlib.Core.Path.{◌≡◌, ◌∙◌, sym}
use Rattle.lexer.specs.Table.{token_room}
use Rattle.lexer.specs.internal.Kinds.{colon}
use Rattle.lexer.specs.internal.TokenRows.{kind_at}
use Rattle.typenames.specs.TypeNames.{opening17}
use Rattle.typenames.proofs.Laws.Declared.{offset_at, offset_le, offset_other, deeper_le, reached_on, next_found, next_none}
use native.Mathlib.Omega.{arith}
use Rattle.typenames.proofs.declarations.next_name.Goals as goal
use Rattle.typenames.proofs.declarations.next_name.Goals.{In-Some, then-kind-eq-COLON+in_default, else-kind-eq-COLON}

-- the name that is found stands in one of the three rows from the row reached on
inside : (c : In-Some) → c.loop-at.at + c.in-Some.offset < token_room c.args.tokens.now
inside c =
    let loop = c.loop-at in
    let tokens = c.args.tokens.now in
    let le = offset_le opening17 loop.depth colon (kind_at tokens (loop.at + 1)) (kind_at tokens (loop.at + 2)) in
    let room = c.room.ensures in
    let end = c.saturating_sub-at-end.ensures in
    let offset = c.in-Some.ensures.number in
    omega arith

pub overflow_add-result : goal.overflow_add-result
overflow_add-result c =
    let below = inside (goal.at.overflow_add-result c).In-Some in
    let room = c.room.ensures in
    omega arith

pub returns-in-Some-clause-next : goal.returns-in-Some-clause-next
returns-in-Some-clause-next c =
    let loop = c.loop-at in
    let tokens = c.args.tokens.now in
    let kind : kind_at tokens loop.at ≡ colon = sym c.kind_at-kind.ensures ∙ c.if-kind-eq-COLON.true in
    let offset : c.in-Some.offset ≡ offset_at opening17 tokens loop.at loop.depth = c.in-Some.ensures.number ∙ rw kind in
    let some = c.in-Some.ensures.found in
    let room = c.room.ensures in
    let end = c.saturating_sub-at-end.ensures in
    let within : loop.at + 2 < token_room tokens = omega arith in
    rw offset (next_found loop.invariant.1 within (omega arith) (omega arith))

pub returns-in-Some-clause-inside : goal.returns-in-Some-clause-inside
returns-in-Some-clause-inside c = inside (goal.at.returns-in-Some-clause-inside c).In-Some

pub loop-at-preserved : goal.loop-at-preserved
loop-at-preserved c =
    let loop = c.loop-at in
    let tokens = c.args.tokens.now in
    let deep = deeper_le loop.depth c.kind_at-kind.result in
    let room = c.room.ensures in
    let end = c.saturating_sub-at-end.ensures in
    let within : loop.at + 2 < token_room tokens = omega arith in
    let none : offset_at opening17 tokens loop.at loop.depth ≡ 0 = elim c.if-kind-eq-COLON.branch [
      | then-kind-eq-COLON+in_default w ↦ rw (sym c.kind_at-kind.ensures ∙ w.if-kind-eq-COLON.true) (sym w.in_default.ensures.number)
      | else-kind-eq-COLON w ↦ offset_other opening17 loop.depth _ _ _ (λ e. w.if-kind-eq-COLON.false (c.kind_at-kind.ensures ∙ e))
    ] in
    (omega arith, rw (c.depth_after-depth.ensures, c.kind_at-kind.ensures) (reached_on loop.invariant.1 within none))

pub returns-clause-next : goal.returns-clause-next
returns-clause-next c =
    let room = c.room.ensures in
    let end = c.saturating_sub-at-end.ensures in
    next_none c.loop-at.invariant.1 (omega arith)
