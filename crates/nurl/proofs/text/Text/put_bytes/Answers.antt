-- `nurl::text::Text::put_bytes` meets its contract: the bytes after those passed are cut. Assumes nothing.
use Rattle.std.proofs.Common.{drop, ◌+◌}
use Rattle.std.proofs.lemmas.List.{take_more, take-append-drop}
use Rattle.nurl.proofs.Laws.Texts.{writes_append, writes_cut}
use Rattle.nurl.proofs.text.Text.put_bytes.Goals as goal

pub returns-in_err-put_byte : goal.returns-in_err-put_byte
returns-in_err-put_byte c =
    let bytes = c.args.bytes.now in
    let i = c.loop-byte.byte-index in
    rw (← take-append-drop (i + 1) bytes, take_more bytes i 0 c.loop-byte-test.true)
    (writes_cut (drop (i + 1) bytes) c.from_residual.ensures (writes_append c.loop-byte.invariant c.in_err-put_byte.ensures))
