-- `lexer::locations::location_at` meets its contract: the numbers are those of the place reached. Assumes nothing.
use Prim.Native.Nat.{◌<◌, ◌≤◌}
use mathlib.Core.Path.{◌≡◌, ◌∙◌, sym}
use native.Mathlib.Omega.{arith}
use lib.ListN.{length, take, get_or, length-take}
use Rattle.std.proofs.lemmas.List.{get_or-take}
use Rattle.lexer.proofs.Laws.Locations.{ends_line, in_a_line, origin-first, column_on, line_on, Small, location_small}
use Rattle.lexer.proofs.locations.location_at.Goals as goal
use Rattle.lexer.proofs.locations.location_at.Goals.{At-loop-b, else-b-eq-NEWLINE, then-b-eq-NEWLINE}

pub loop-b-init : goal.loop-b-init
loop-b-init c = origin-first c.args.source.now

module _ (c : At-loop-b) where
  -- neither number is larger than the bytes passed, and one more
  small : c.loop-b.b-index ≤ length c.args.source.now → Small (record { line = c.loop-b.line; column = c.loop-b.column }) c.loop-b.b-index
  small h = rw c.loop-b.invariant (location_small c.args.source.now c.loop-b.b-index h)

pub overflow_add-column : goal.overflow_add-column
overflow_add-column c =
    let inside = c.loop-b-test.true in
    let passed = length-take c.min.result c.args.source.now in
    let bound = small (goal.at.overflow_add-column c).At-loop-b (omega arith) in
    omega arith

pub overflow_add-line : goal.overflow_add-line
overflow_add-line c =
    let inside = c.loop-b-test.true in
    let passed = length-take c.min.result c.args.source.now in
    let bound = small (goal.at.overflow_add-line c).At-loop-b (omega arith) in
    omega arith

pub loop-b-preserved : goal.loop-b-preserved
loop-b-preserved c =
    let s = c.args.source.now in
    let i = c.loop-b.b-index in
    let passed = length-take c.min.result s in
    let inside : i < length s = omega (arith, c.loop-b-test.true) in
    let byte : get_or (take c.min.result s) i 0 ≡ get_or s i 0 = get_or-take _ s i 0 (omega (arith, c.loop-b-test.true)) in
    elim c.if-b-eq-NEWLINE.branch [
      | then-b-eq-NEWLINE w ↦
          let ends = ends_line _ (sym byte ∙ w.if-b-eq-NEWLINE.true) in
          rw (w.line-is, w.column-is) (line_on s i _ _ inside c.loop-b.invariant ends)
      | else-b-eq-NEWLINE w ↦
          let goes = in_a_line _ (λ e. w.if-b-eq-NEWLINE.false (byte ∙ e)) in
          rw (w.line-is, w.column-is) (column_on s i _ _ inside c.loop-b.invariant goes)
    ]
