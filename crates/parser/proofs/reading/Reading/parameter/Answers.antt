-- `Reading::parameter` meets its contract. Assumes nothing.
use mathlib.Core.List.{[]}
use Rattle.parser.specs.internal.Presence.{is_required}
use Rattle.parser.proofs.Laws.Readers.{one_below}
use Rattle.parser.proofs.Laws.Results.{leaves, no_level, closable, row_read, wide}
use Rattle.parser.proofs.Laws.Parameters.{named-read, named_deep, named_least, unnamed}
use Rattle.parser.proofs.reading.Reading.parameter.Goals as goal

pub returns-in_err-below-clause-reads : goal.returns-in_err-below-clause-reads
returns-in_err-below-clause-reads c = λ source e.
    no_level _ _ c.from_residual.ensures.1 c.in_err-below.ensures.stops
    (named_deep source _ c.args.self.now.tokens_good e (is_required c.args.naming) _ c.requires.begins)

pub returns-in_err-typed-clause-reads : goal.returns-in_err-typed-clause-reads
returns-in_err-typed-clause-reads c = λ source e.
    leaves _ _ c.from_residual-in_err-typed.ensures.1
    (named-read source _ c.args.self.now.tokens_good e (is_required c.args.naming) c.requires.begins c.requires.stands
    (one_below c.in_ok-below.ensures.goes)
    c.reserve-inner.ensures.answer (c.in_err-typed.ensures.reads source e) (unnamed (is_required c.args.naming) _))

pub returns-in_err-named-clause-reads : goal.returns-in_err-named-clause-reads
returns-in_err-named-clause-reads c = λ source e.
    leaves _ _ c.from_residual-in_err-named.ensures.1
    (named-read source _ c.args.self.now.tokens_good e (is_required c.args.naming) c.requires.begins c.requires.stands
    (one_below c.in_ok-below.ensures.goes)
    c.reserve-inner.ensures.answer (c.in_ok-typed.ensures.reads source e) c.in_err-named.ensures.answer)

pub close_row-requires : goal.close_row-requires
close_row-requires c =
    closable [] _ c.args.self.now.tokens_good [] {t = c.args.rows.now} (wide c.requires.stands)
    (named-read [] _ c.args.self.now.tokens_good [] (is_required c.args.naming) c.requires.begins c.requires.stands
    (one_below c.in_ok-below.ensures.goes)
    c.reserve-inner.ensures.answer (c.in_ok-typed.ensures.reads [] []) c.in_ok-named.ensures.answer)

pub returns-clause-reads : goal.returns-clause-reads
returns-clause-reads c = λ source e.
    row_read source _ c.args.self.now.tokens_good e
    (named-read source _ c.args.self.now.tokens_good e (is_required c.args.naming) c.requires.begins c.requires.stands
    (one_below c.in_ok-below.ensures.goes)
    c.reserve-inner.ensures.answer (c.in_ok-typed.ensures.reads source e) c.in_ok-named.ensures.answer)
    (named_least (is_required c.args.naming)) c.close_row.ensures.answer c.close_row.ensures.table
