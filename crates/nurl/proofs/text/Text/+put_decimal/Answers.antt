-- `nurl::text::Text::put_decimal`, which calls itself, meets its contract. Assumes nothing.
use Rattle.nurl.proofs.Laws.Texts.{decimal_last, decimal-more, writes_append, writes_cut}
use Rattle.nurl.proofs.text.Text.+put_decimal.Goals.{then-n-ge10+in_ok-put_decimal, else-n-ge10}
use Rattle.nurl.proofs.text.Text.+put_decimal.Goals as goal

pub returns-in_err-put_decimal : goal.returns-in_err-put_decimal
returns-in_err-put_decimal t c = rw (decimal-more c.args.n c.if-n-ge10.true) (writes_cut _ c.from_residual.ensures c.in_err-put_decimal.ensures)

pub returns : goal.returns
returns t c = elim c.if-n-ge10.branch [
  | then-n-ge10+in_ok-put_decimal w ↦
      let last = rw w.self-is at c.put_byte.ensures in
      rw (decimal-more c.args.n w.if-n-ge10.true) (writes_append w.in_ok-put_decimal.ensures last)
  | else-n-ge10 w ↦
      let only = rw w.self-is at c.put_byte.ensures in
      rw (decimal_last c.args.n w.if-n-ge10.false) only
]
