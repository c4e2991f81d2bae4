-- `Reading::list` meets its contract. Assumes nothing.
use mathlib.Core.Path.{refl}
use mathlib.Core.List.{[]}
use native.Mathlib.Omega.{arith}
use Rattle.parser.specs.internal.Steps.{taken_by}
use Rattle.parser.specs.internal.Words.{with_keywords}
use Rattle.parser.proofs.Laws.Readers.{one_below}
use Rattle.parser.proofs.Laws.Results.{leaves, no_level, passed, closable, row_read, wide}
use Rattle.parser.proofs.Laws.Lists.{list_read, list_deep, list_bracket}
use Rattle.parser.proofs.reading.Reading.list.Goals as goal

pub returns-in_err-below-clause-reads : goal.returns-in_err-below-clause-reads
returns-in_err-below-clause-reads c = λ source e.
    no_level _ _ c.from_residual.ensures.1 c.in_err-below.ensures.stops
    (list_deep source _ c.args.self.now.tokens_good e (with_keywords c.args.words) _ c.requires.opens)

pub open-opened-requires-clause-some : goal.open-opened-requires-clause-some
open-opened-requires-clause-some c =
    let is = list_bracket (with_keywords c.args.words) _ _ c.requires.opens in
    omega (arith, is)

pub returns-in_err-first-clause-reads : goal.returns-in_err-first-clause-reads
unfolding taken_by
returns-in_err-first-clause-reads c = λ source e.
    leaves _ _ c.from_residual-in_err-first.ensures.1
    (list_read source _ c.args.self.now.tokens_good e (with_keywords c.args.words) c.requires.opens (wide c.requires.stands)
    (one_below c.in_ok-below.ensures.goes) c.open-opened.ensures.answer c.in_err-first.ensures.answer passed refl)

pub returns-in_err-ended-clause-reads : goal.returns-in_err-ended-clause-reads
returns-in_err-ended-clause-reads c = λ source e.
    leaves _ _ c.from_residual-in_err-ended.ensures.1
    (list_read source _ c.args.self.now.tokens_good e (with_keywords c.args.words) c.requires.opens (wide c.requires.stands)
    (one_below c.in_ok-below.ensures.goes) c.open-opened.ensures.answer c.in_ok-first.ensures.answer
    (c.more_words-listed.ensures.reads _ _ source e) c.in_err-ended.ensures.answer)

pub close_row-requires : goal.close_row-requires
close_row-requires c =
    closable [] _ c.args.self.now.tokens_good [] {t = c.args.rows.now} (wide c.requires.stands)
    (list_read [] _ c.args.self.now.tokens_good [] (with_keywords c.args.words) c.requires.opens (wide c.requires.stands)
    (one_below c.in_ok-below.ensures.goes) c.open-opened.ensures.answer c.in_ok-first.ensures.answer
    (c.more_words-listed.ensures.reads _ _ [] []) c.in_ok-ended.ensures.answer)

pub returns-clause-reads : goal.returns-clause-reads
returns-clause-reads c = λ source e.
    row_read source _ c.args.self.now.tokens_good e
    (list_read source _ c.args.self.now.tokens_good e (with_keywords c.args.words) c.requires.opens (wide c.requires.stands)
    (one_below c.in_ok-below.ensures.goes) c.open-opened.ensures.answer c.in_ok-first.ensures.answer
    (c.more_words-listed.ensures.reads _ _ source e) c.in_ok-ended.ensures.answer)
    (omega arith) c.close_row.ensures.answer c.close_row.ensures.table
