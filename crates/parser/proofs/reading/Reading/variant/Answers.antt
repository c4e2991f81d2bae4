-- `Reading::variant` meets its contract. Assumes nothing.
use native.Mathlib.Omega.{arith}
use Rattle.parser.proofs.Laws.Readers.{one_below}
use Rattle.parser.proofs.Laws.Results.{leaves, no_level, passed, closable, row_read, wide}
use Rattle.parser.proofs.Laws.Definitions.{variant_reads, variant_deep}
use Rattle.parser.proofs.reading.Reading.variant.Goals as goal

pub returns-in_err-below-clause-reads : goal.returns-in_err-below-clause-reads
returns-in_err-below-clause-reads c =
    no_level _ _ c.from_residual.ensures.1 c.in_err-below.ensures.stops
    (variant_deep c.args.self.now.source.now _ c.args.self.now.tokens_good _ _ c.requires.named)

pub returns-in_err-named-clause-reads : goal.returns-in_err-named-clause-reads
returns-in_err-named-clause-reads c =
    leaves _ _ c.from_residual-in_err-named.ensures.1
    (variant_reads c.args.self.now.source.now _ c.args.self.now.tokens_good _ c.requires.stands (one_below c.in_ok-below.ensures.goes)
    c.requires.named c.reserve-inner.ensures.answer c.in_err-named.ensures.answer passed)

pub returns-in_err-held-clause-reads : goal.returns-in_err-held-clause-reads
returns-in_err-held-clause-reads c =
    leaves _ _ c.from_residual-in_err-held.ensures.1
    (variant_reads c.args.self.now.source.now _ c.args.self.now.tokens_good _ c.requires.stands (one_below c.in_ok-below.ensures.goes)
    c.requires.named c.reserve-inner.ensures.answer c.in_ok-named.ensures.answer c.in_err-held.ensures.reads)

pub close_row-requires : goal.close_row-requires
close_row-requires c =
    closable c.args.self.now.source.now _ c.args.self.now.tokens_good _ {t = c.args.rows.now} (wide c.requires.stands)
    (variant_reads c.args.self.now.source.now _ c.args.self.now.tokens_good _ c.requires.stands (one_below c.in_ok-below.ensures.goes)
    c.requires.named c.reserve-inner.ensures.answer c.in_ok-named.ensures.answer c.in_ok-held.ensures.reads)

pub returns-clause-reads : goal.returns-clause-reads
returns-clause-reads c =
    row_read c.args.self.now.source.now _ c.args.self.now.tokens_good _
    (variant_reads c.args.self.now.source.now _ c.args.self.now.tokens_good _ c.requires.stands (one_below c.in_ok-below.ensures.goes)
    c.requires.named c.reserve-inner.ensures.answer c.in_ok-named.ensures.answer c.in_ok-held.ensures.reads)
    (omega arith) c.close_row.ensures.answer c.close_row.ensures.table
