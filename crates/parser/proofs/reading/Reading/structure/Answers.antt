-- `Reading::structure` meets its contract. Assumes nothing.
use mathlib.Core.Path.{refl}
use mathlib.Core.List.{[]}
use native.Mathlib.Numerals.{add-one}
use native.Mathlib.Omega.{arith}
use Rattle.grammar.specs.internal.Nonterminals.{declaration}
use Rattle.parser.specs.internal.Steps.{taken_by}
use Rattle.parser.proofs.Laws.Openings.{no_declaration}
use Rattle.parser.proofs.Laws.Results.{leaves, passed, closable, row_read, some_kind}
use Rattle.parser.proofs.Laws.Definitions.{struct}
use Rattle.parser.proofs.reading.Reading.structure.Goals as goal

pub open-opened-requires-clause-some : goal.open-opened-requires-clause-some
open-opened-requires-clause-some c = some_kind declaration no_declaration _ c.requires.form

pub returns-in_err-named-clause-reads : goal.returns-in_err-named-clause-reads
unfolding taken_by
returns-in_err-named-clause-reads c = λ source e.
    leaves _ _ c.from_residual.ensures.1
    (struct source _ c.args.self.now.tokens_good e c.requires.form c.requires.stands (add-one c.args.below)
    c.open-opened.ensures.answer (rw c.open-opened.ensures.answer c.requires.opens) c.in_err-named.ensures.answer passed refl passed refl)

pub returns-in_err-listed-clause-reads : goal.returns-in_err-listed-clause-reads
unfolding taken_by
returns-in_err-listed-clause-reads c = λ source e.
    leaves _ _ c.from_residual-in_err-listed.ensures.1
    (struct source _ c.args.self.now.tokens_good e c.requires.form c.requires.stands (add-one c.args.below)
    c.open-opened.ensures.answer (rw c.open-opened.ensures.answer c.requires.opens) c.in_ok-named.ensures.answer
    (c.in_err-listed.ensures.reads source e) refl passed refl)

pub returns-in_err-braced-clause-reads : goal.returns-in_err-braced-clause-reads
unfolding taken_by
returns-in_err-braced-clause-reads c = λ source e.
    leaves _ _ c.from_residual-in_err-braced.ensures.1
    (struct source _ c.args.self.now.tokens_good e c.requires.form c.requires.stands (add-one c.args.below)
    c.open-opened.ensures.answer (rw c.open-opened.ensures.answer c.requires.opens) c.in_ok-named.ensures.answer
    (c.in_ok-listed.ensures.reads source e) c.in_err-braced.ensures.answer passed refl)

pub returns-in_err-held-clause-reads : goal.returns-in_err-held-clause-reads
unfolding taken_by
returns-in_err-held-clause-reads c = λ source e.
    leaves _ _ c.from_residual-in_err-held.ensures.1
    (struct source _ c.args.self.now.tokens_good e c.requires.form c.requires.stands (add-one c.args.below)
    c.open-opened.ensures.answer (rw c.open-opened.ensures.answer c.requires.opens) c.in_ok-named.ensures.answer
    (c.in_ok-listed.ensures.reads source e) c.in_ok-braced.ensures.answer (c.in_err-held.ensures.reads source e) refl)

pub returns-in_err-ended-clause-reads : goal.returns-in_err-ended-clause-reads
returns-in_err-ended-clause-reads c = λ source e.
    leaves _ _ c.from_residual-in_err-ended.ensures.1
    (struct source _ c.args.self.now.tokens_good e c.requires.form c.requires.stands (add-one c.args.below)
    c.open-opened.ensures.answer (rw c.open-opened.ensures.answer c.requires.opens) c.in_ok-named.ensures.answer
    (c.in_ok-listed.ensures.reads source e) c.in_ok-braced.ensures.answer (c.in_ok-held.ensures.reads source e) c.in_err-ended.ensures.answer)

pub close_row-requires : goal.close_row-requires
close_row-requires c =
    closable [] _ c.args.self.now.tokens_good [] {t = c.args.rows.now} c.requires.stands
    (struct [] _ c.args.self.now.tokens_good [] c.requires.form c.requires.stands (add-one c.args.below) c.open-opened.ensures.answer
    (rw c.open-opened.ensures.answer c.requires.opens) c.in_ok-named.ensures.answer (c.in_ok-listed.ensures.reads [] [])
    c.in_ok-braced.ensures.answer (c.in_ok-held.ensures.reads [] []) c.in_ok-ended.ensures.answer)

pub returns-clause-reads : goal.returns-clause-reads
returns-clause-reads c = λ source e.
    row_read source _ c.args.self.now.tokens_good e
    (struct source _ c.args.self.now.tokens_good e c.requires.form c.requires.stands (add-one c.args.below)
    c.open-opened.ensures.answer (rw c.open-opened.ensures.answer c.requires.opens) c.in_ok-named.ensures.answer
    (c.in_ok-listed.ensures.reads source e) c.in_ok-braced.ensures.answer (c.in_ok-held.ensures.reads source e) c.in_ok-ended.ensures.answer)
    (omega arith) c.close_row.ensures.answer c.close_row.ensures.table
