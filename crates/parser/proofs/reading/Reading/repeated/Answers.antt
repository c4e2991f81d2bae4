-- `Reading::repeated` meets its contract. Assumes nothing.
use mathlib.Core.Path.{refl}
use Rattle.parser.proofs.Laws.Results.{exit, passed}
use Rattle.parser.proofs.Laws.Repeated.{ahead_falls}
use Rattle.parser.proofs.reading.Reading.repeated.Goals as goal

pub loop-read-init : goal.loop-read-init
loop-read-init g c = (c.requires.stands, λ source e x repeats to table reads. reads)

pub loop-read-smaller : goal.loop-read-smaller
loop-read-smaller g c =
    ahead_falls c.args.self.now c.loop-read.place c.in_ok-place.place
    ((c.requires.each _ _ _ refl c.loop-read.invariant.0 c.loop-read-test.ensures).1 _ _ c.read.ensures _ c.in_ok-place.was)

pub loop-read-preserved : goal.loop-read-preserved
loop-read-preserved g c = (
  ((c.requires.each _ _ _ refl c.loop-read.invariant.0 c.loop-read-test.ensures).1 _ _ c.read.ensures _ c.in_ok-place.was).1,
  λ source e x repeats to table rest.
      c.loop-read.invariant.1 source e x repeats to table
      (repeats.more refl refl c.loop-read.invariant.0 c.loop-read-test.ensures c.in_ok-place.ensures rest),
)

pub returns-in_err-place-clause-reads : goal.returns-in_err-place-clause-reads
returns-in_err-place-clause-reads g c = λ source e x repeats.
    rw (exit _ _ c.from_residual.ensures.1)
    (c.loop-read.invariant.1 source e x repeats _ _
    (repeats.more refl refl c.loop-read.invariant.0 c.loop-read-test.ensures c.in_err-place.ensures passed))

pub returns-clause-reads : goal.returns-clause-reads
returns-clause-reads g c = λ source e x repeats.
    c.loop-read.invariant.1 source e x repeats _ _ (repeats.ends refl c.loop-read.invariant.0 c.loop-read-test.ensures)
