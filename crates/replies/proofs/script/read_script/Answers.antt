-- A turn that goes on puts a byte or takes one retry, and what is read in the end is what was taken from the input.
use Rattle.std.proofs.Common.{ap, Ok, subst, rules, length-drop, length-take, length-append, arith}
use Rattle.replies.specs.internal.Input.{AfterCall}
use Rattle.replies.proofs.Laws.Calls.{puts_no_more, takes}
use Rattle.replies.proofs.script.read_script.Goals as goal

pub loop-reading-preserved : goal.loop-reading-preserved
loop-reading-preserved g c =
    let kept = c.read-call.auto.buf in
    let rest = length-drop c.loop-reading.reading.done c.loop-reading.buffer in
    let after = subst (AfterCall _ _) (ap Ok c.in-Continue.is) c.in_ok-on.ensures in
    let on = puts_no_more _ _ _ _ after c.read-call.ensures.bound in (
      search rules,
      simp (length-append, length-take) (omega arith),
      takes _ _ _ _ _ _ _ _ _ after c.read-call.ensures.bound c.read-call.ensures.bytes c.loop-reading.invariant.1 c.loop-reading.invariant.2,
    )
