-- `Reading::enumeration` meets its contract. Assumes nothing.
use mathlib.Core.Path.{refl, ap, ◌∙◌}
use native.Mathlib.Numerals.{add-one}
use native.Mathlib.Omega.{arith}
use Rattle.grammar.specs.internal.Nonterminals.{declaration}
use Rattle.parser.specs.internal.Steps.{taken_by, next_kind}
use Rattle.parser.proofs.Laws.Openings.{no_declaration}
use Rattle.parser.proofs.Laws.Results.{leaves, passed, closable, row_read, some_kind}
use Rattle.parser.proofs.Laws.Definitions.{enum}
use Rattle.parser.proofs.reading.Reading.enumeration.Goals as goal

pub open-opened-requires-clause-some : goal.open-opened-requires-clause-some
open-opened-requires-clause-some c = some_kind declaration no_declaration _ c.requires.form

pub returns-in_err-marked-clause-reads : goal.returns-in_err-marked-clause-reads
unfolding taken_by
returns-in_err-marked-clause-reads c =
    leaves _ _ c.from_residual.ensures.1
    (enum c.args.self.now.source.now _ c.args.self.now.tokens_good _ c.requires.form c.requires.stands (add-one c.args.below)
    c.open-opened.ensures.answer (ap (next_kind _) c.open-opened.ensures.answer ∙ c.requires.bar) c.in_err-marked.ensures.answer refl refl passed
    refl)

pub returns-in_err-named-clause-reads : goal.returns-in_err-named-clause-reads
unfolding taken_by
returns-in_err-named-clause-reads c =
    leaves _ _ c.from_residual-in_err-named.ensures.1
    (enum c.args.self.now.source.now _ c.args.self.now.tokens_good _ c.requires.form c.requires.stands (add-one c.args.below)
    c.open-opened.ensures.answer (ap (next_kind _) c.open-opened.ensures.answer ∙ c.requires.bar) c.in_ok-marked.ensures.answer
    c.in_err-named.ensures.answer refl passed refl)

pub returns-in_err-braced-clause-reads : goal.returns-in_err-braced-clause-reads
unfolding taken_by
returns-in_err-braced-clause-reads c =
    leaves _ _ c.from_residual-in_err-braced.ensures.1
    (enum c.args.self.now.source.now _ c.args.self.now.tokens_good _ c.requires.form c.requires.stands (add-one c.args.below)
    c.open-opened.ensures.answer (ap (next_kind _) c.open-opened.ensures.answer ∙ c.requires.bar) c.in_ok-marked.ensures.answer
    c.in_ok-named.ensures.answer c.in_err-braced.ensures.answer passed refl)

pub returns-in_err-held-clause-reads : goal.returns-in_err-held-clause-reads
unfolding taken_by
returns-in_err-held-clause-reads c =
    leaves _ _ c.from_residual-in_err-held.ensures.1
    (enum c.args.self.now.source.now _ c.args.self.now.tokens_good _ c.requires.form c.requires.stands (add-one c.args.below)
    c.open-opened.ensures.answer (ap (next_kind _) c.open-opened.ensures.answer ∙ c.requires.bar) c.in_ok-marked.ensures.answer
    c.in_ok-named.ensures.answer c.in_ok-braced.ensures.answer c.in_err-held.ensures.reads refl)

pub returns-in_err-ended-clause-reads : goal.returns-in_err-ended-clause-reads
returns-in_err-ended-clause-reads c =
    leaves _ _ c.from_residual-in_err-ended.ensures.1
    (enum c.args.self.now.source.now _ c.args.self.now.tokens_good _ c.requires.form c.requires.stands (add-one c.args.below)
    c.open-opened.ensures.answer (ap (next_kind _) c.open-opened.ensures.answer ∙ c.requires.bar) c.in_ok-marked.ensures.answer
    c.in_ok-named.ensures.answer c.in_ok-braced.ensures.answer c.in_ok-held.ensures.reads c.in_err-ended.ensures.answer)

pub close_row-requires : goal.close_row-requires
close_row-requires c =
    closable c.args.self.now.source.now _ c.args.self.now.tokens_good _ {t = c.args.rows.now} c.requires.stands
    (enum c.args.self.now.source.now _ c.args.self.now.tokens_good _ c.requires.form c.requires.stands (add-one c.args.below)
    c.open-opened.ensures.answer (ap (next_kind _) c.open-opened.ensures.answer ∙ c.requires.bar) c.in_ok-marked.ensures.answer
    c.in_ok-named.ensures.answer c.in_ok-braced.ensures.answer c.in_ok-held.ensures.reads c.in_ok-ended.ensures.answer)

pub returns-clause-reads : goal.returns-clause-reads
returns-clause-reads c =
    row_read c.args.self.now.source.now _ c.args.self.now.tokens_good _
    (enum c.args.self.now.source.now _ c.args.self.now.tokens_good _ c.requires.form c.requires.stands (add-one c.args.below)
    c.open-opened.ensures.answer (ap (next_kind _) c.open-opened.ensures.answer ∙ c.requires.bar) c.in_ok-marked.ensures.answer
    c.in_ok-named.ensures.answer c.in_ok-braced.ensures.answer c.in_ok-held.ensures.reads c.in_ok-ended.ensures.answer)
    (omega arith) c.close_row.ensures.answer c.close_row.ensures.table
