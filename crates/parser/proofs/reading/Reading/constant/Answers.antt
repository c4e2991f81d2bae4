-- `Reading::constant` meets its contract. Assumes nothing.
use mathlib.Core.Path.{refl}
use mathlib.Core.List.{[]}
use native.Mathlib.Numerals.{add-one}
use native.Mathlib.Omega.{arith}
use Rattle.grammar.specs.internal.Nonterminals.{declaration}
use Rattle.parser.specs.internal.Steps.{taken_by}
use Rattle.parser.proofs.Laws.Openings.{no_declaration}
use Rattle.parser.proofs.Laws.Results.{leaves, passed, closable, row_read, some_kind}
use Rattle.parser.proofs.Laws.Definitions.{constant}
use Rattle.parser.proofs.reading.Reading.constant.Goals as goal

pub open-opened-requires-clause-some : goal.open-opened-requires-clause-some
open-opened-requires-clause-some c = some_kind declaration no_declaration _ c.requires.form

pub returns-in_err-typed-clause-reads : goal.returns-in_err-typed-clause-reads
unfolding taken_by
returns-in_err-typed-clause-reads c = λ source e.
    leaves _ _ c.from_residual.ensures.1
    (constant source _ c.args.self.now.tokens_good e c.requires.form c.requires.stands (add-one c.args.below)
    c.open-opened.ensures.answer (rw c.open-opened.ensures.answer c.requires.opens) (rw c.open-opened.ensures.answer c.requires.bar)
    c.take_if-mutable.ensures.answer (c.in_err-typed.ensures.reads source e) refl passed)

pub returns-in_err-named-clause-reads : goal.returns-in_err-named-clause-reads
returns-in_err-named-clause-reads c = λ source e.
    leaves _ _ c.from_residual-in_err-named.ensures.1
    (constant source _ c.args.self.now.tokens_good e c.requires.form c.requires.stands (add-one c.args.below)
    c.open-opened.ensures.answer (rw c.open-opened.ensures.answer c.requires.opens) (rw c.open-opened.ensures.answer c.requires.bar)
    c.take_if-mutable.ensures.answer (c.in_ok-typed.ensures.reads source e) c.in_err-named.ensures.answer passed)

pub returns-in_err-valued-clause-reads : goal.returns-in_err-valued-clause-reads
returns-in_err-valued-clause-reads c = λ source e.
    leaves _ _ c.from_residual-in_err-valued.ensures.1
    (constant source _ c.args.self.now.tokens_good e c.requires.form c.requires.stands (add-one c.args.below)
    c.open-opened.ensures.answer (rw c.open-opened.ensures.answer c.requires.opens) (rw c.open-opened.ensures.answer c.requires.bar)
    c.take_if-mutable.ensures.answer (c.in_ok-typed.ensures.reads source e) c.in_ok-named.ensures.answer (c.in_err-valued.ensures.reads source e))

pub close_row-requires : goal.close_row-requires
close_row-requires c =
    closable [] _ c.args.self.now.tokens_good [] {t = c.args.rows.now} c.requires.stands
    (constant [] _ c.args.self.now.tokens_good [] c.requires.form c.requires.stands (add-one c.args.below)
    c.open-opened.ensures.answer (rw c.open-opened.ensures.answer c.requires.opens) (rw c.open-opened.ensures.answer c.requires.bar)
    c.take_if-mutable.ensures.answer (c.in_ok-typed.ensures.reads [] []) c.in_ok-named.ensures.answer (c.in_ok-valued.ensures.reads [] []))

pub returns-clause-reads : goal.returns-clause-reads
returns-clause-reads c = λ source e.
    row_read source _ c.args.self.now.tokens_good e
    (constant source _ c.args.self.now.tokens_good e c.requires.form c.requires.stands (add-one c.args.below)
    c.open-opened.ensures.answer (rw c.open-opened.ensures.answer c.requires.opens) (rw c.open-opened.ensures.answer c.requires.bar)
    c.take_if-mutable.ensures.answer (c.in_ok-typed.ensures.reads source e) c.in_ok-named.ensures.answer (c.in_ok-valued.ensures.reads source e))
    (omega arith) c.close_row.ensures.answer c.close_row.ensures.table
