-- `lexer::rows::put` meets its contract: so many numbers of the row are written. Assumes nothing.
use Prim.Native.Nat.{◌*◌, ◌<◌}
use native.Mathlib.Numerals.{add-one}
use native.Mathlib.Omega.{arith}
use lib.ListN.{length, length-set}
use mathlib.Core.Path.{◌∙◌}
use Rattle.lexer.proofs.Laws.Rows.{sets_more}
use Rattle.lexer.proofs.rows.put.Goals as goal

pub loop-column-preserved : goal.loop-column-preserved
loop-column-preserved g c =
    let so_far = c.loop-column.invariant in
    let inside : c.loop-column.column < length c.args.numbers = omega (arith, c.loop-column-test.true) in
    (length-set _ _ _ ∙ so_far.0, rw (so_far.1, add-one) (sets_more c.args.numbers c.args.table.now (c.args.row * g.row.WIDTH) c.loop-column.column inside))
