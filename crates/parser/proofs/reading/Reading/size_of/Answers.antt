-- `Reading::size_of` meets its contract. Assumes nothing.
use mathlib.Core.List.{[]}
use native.Mathlib.Numerals.{add-one}
use native.Mathlib.Omega.{arith}
use Rattle.grammar.specs.internal.Nonterminals.{expression}
use Rattle.parser.proofs.Laws.Openings.{no_expression}
use Rattle.parser.proofs.Laws.Results.{leaves, closable, row_read, some_kind}
use Rattle.parser.proofs.Laws.Expressions.{size_of}
use Rattle.parser.proofs.reading.Reading.size_of.Goals as goal

pub open-opened-requires-clause-some : goal.open-opened-requires-clause-some
open-opened-requires-clause-some c = some_kind expression no_expression _ c.requires.form

pub returns-in_err-typed-clause-reads : goal.returns-in_err-typed-clause-reads
returns-in_err-typed-clause-reads c = λ source e.
    leaves _ _ c.from_residual.ensures.1
    (size_of source _ c.args.self.now.tokens_good e c.requires.form c.requires.stands (add-one _)
    c.open-opened.ensures.answer (c.in_err-typed.ensures.reads source e))

pub close_row-requires : goal.close_row-requires
close_row-requires c =
    closable [] _ c.args.self.now.tokens_good [] {t = c.args.rows.now} c.requires.stands
    (size_of [] _ c.args.self.now.tokens_good [] c.requires.form c.requires.stands (add-one _) c.open-opened.ensures.answer
    (c.in_ok-typed.ensures.reads [] []))

pub returns-clause-reads : goal.returns-clause-reads
returns-clause-reads c = λ source e.
    row_read source _ c.args.self.now.tokens_good e
    (size_of source _ c.args.self.now.tokens_good e c.requires.form c.requires.stands (add-one _)
    c.open-opened.ensures.answer (c.in_ok-typed.ensures.reads source e))
    (omega arith) c.close_row.ensures.answer c.close_row.ensures.table
