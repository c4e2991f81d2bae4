-- A reply fits the output that is made for it, and is that of all that the input brings.
use Rattle.std.proofs.Common.{◌≡◌, ◌+◌, refl, sym, rules, length, length-take-le}
use Rattle.replies.specs.Desk.{script_limit}
use Rattle.replies.proofs.Laws.Served.{served, printed}
use Rattle.replies.proofs.Laws.Sizes.{size_inside}
use Rattle.replies.proofs.service.serve.Goals as goal

pub slice_bounds-text-end : goal.slice_bounds-text-end
slice_bounds-text-end g c = size_inside _ _ _ _ c.write_reply-size.ensures.size c.write_reply-size.ensures.output (search rules)

pub slice_bounds-write_all-end-2 : goal.slice_bounds-write_all-end-2
slice_bounds-write_all-end-2 g c =
    sym (length-take-le _ _ (size_inside _ _ _ _ c.write_reply-size.ensures.size c.write_reply-size.ensures.output (search rules)))

pub returns : goal.returns
returns g c =
    let text = printed _ _ _ _ c.write_reply-size.ensures.size c.write_reply-size.ensures.output (search rules) in
    let long : length c.read_script.new.buffer ≡ script_limit + 1 = search rules in
    let read = c.in-Ok.ensures in
    served _ _ _ _ _ _ _ _ _ long (read.script _ refl) read.bytes read.end text c.write_all-2.ensures.bytes
