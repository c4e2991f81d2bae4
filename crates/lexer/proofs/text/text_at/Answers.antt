-- `lexer::text::text_at` meets its contract: the place and the length of the token are cut to what the source has. Assumes nothing.
use native.Mathlib.Nat.{add-sub_cancel_left}
use Rattle.lexer.specs.Items.{item_of}
use Rattle.lexer.proofs.Laws.Items.{text_cut}
use Rattle.lexer.proofs.text.text_at.Goals as goal

pub returns : goal.returns
unfolding item_of
returns c =
    let start = c.min-start in
    let len = c.min-len in
    let size-at = c.size_at in
    let start-at = c.start_at in
    let args = c.args in
    let size = add-sub_cancel_left start.result len.result in
    rw (size, len.ensures, size-at.ensures, start.ensures, start-at.ensures)
    (text_cut args.source.now _ _)
