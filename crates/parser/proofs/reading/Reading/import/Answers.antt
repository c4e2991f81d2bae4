-- `Reading::import` meets its contract. Assumes nothing.
use mathlib.Core.Path.{refl}
use mathlib.Core.List.{[]}
use native.Mathlib.Numerals.{add-one}
use native.Mathlib.Omega.{arith}
use Rattle.grammar.specs.internal.Nonterminals.{declaration}
use Rattle.parser.specs.internal.Steps.{taken_if}
use Rattle.parser.proofs.Laws.Openings.{no_declaration}
use Rattle.parser.proofs.Laws.Results.{leaves, closable, row_read, some_kind}
use Rattle.parser.proofs.Laws.Declarations.{import}
use Rattle.parser.proofs.reading.Reading.import.Goals as goal

pub open-opened-requires-clause-some : goal.open-opened-requires-clause-some
open-opened-requires-clause-some c = some_kind declaration no_declaration _ c.requires.form

pub returns-in_err-sourced-clause-reads : goal.returns-in_err-sourced-clause-reads
unfolding taken_if
returns-in_err-sourced-clause-reads c = λ source e.
    leaves _ _ c.from_residual.ensures.1
    (import source _ c.args.self.now.tokens_good e c.requires.form c.requires.stands (add-one c.args.below)
    c.open-opened.ensures.answer c.in_err-sourced.ensures.answer refl)

pub close_row-requires : goal.close_row-requires
close_row-requires c =
    closable [] _ c.args.self.now.tokens_good [] {t = c.args.rows.now} c.requires.stands
    (import [] _ c.args.self.now.tokens_good [] c.requires.form c.requires.stands (add-one c.args.below) c.open-opened.ensures.answer
    c.in_ok-sourced.ensures.answer c.take_if-named.ensures.answer)

pub returns-clause-reads : goal.returns-clause-reads
returns-clause-reads c = λ source e.
    row_read source _ c.args.self.now.tokens_good e
    (import source _ c.args.self.now.tokens_good e c.requires.form c.requires.stands (add-one c.args.below)
    c.open-opened.ensures.answer c.in_ok-sourced.ensures.answer c.take_if-named.ensures.answer)
    (omega arith) c.close_row.ensures.answer c.close_row.ensures.table
