-- `Reading::function` meets its contract. Assumes nothing.
use mathlib.Core.Path.{refl, sym, ◌∙◌}
use native.Mathlib.Omega.{arith}
use Rattle.parser.specs.internal.Presence.{is_required}
use Rattle.parser.specs.internal.Readers.{names_of}
use Rattle.parser.specs.internal.Steps.{step_at, taken_by}
use Rattle.parser.proofs.Laws.Readers.{one_below}
use Rattle.parser.proofs.Laws.Results.{leaves, no_level, passed, closable, row_read}
use Rattle.parser.proofs.Laws.Functions.{Headed, header_reads, header_deep, header_ends, body_reads}
use Rattle.parser.proofs.reading.Reading.function.Goals as goal
use Rattle.parser.proofs.reading.Reading.function.Goals.{After-lacks_body}

pub returns-in_err-below-clause-reads : goal.returns-in_err-below-clause-reads
returns-in_err-below-clause-reads c =
    no_level _ _ c.from_residual.ensures.1 c.in_err-below.ensures.stops
    (header_deep c.args.self.now.source.now _ c.args.self.now.tokens_good _ (is_required c.args.bodies) _ c.requires.at_sign
    )

pub returns-in_err-named-clause-reads : goal.returns-in_err-named-clause-reads
unfolding taken_by
returns-in_err-named-clause-reads c =
    leaves _ _ c.from_residual-in_err-named.ensures.1
    (header_reads c.args.self.now.source.now _ c.args.self.now.tokens_good _ (is_required c.args.bodies) c.requires.at_sign c.requires.stands
    (one_below c.in_ok-below.ensures.goes) c.open-opened.ensures.answer c.in_err-named.ensures.answer passed passed refl passed)

pub returns-in_err-listed-clause-reads : goal.returns-in_err-listed-clause-reads
unfolding taken_by
returns-in_err-listed-clause-reads c =
    leaves _ _ c.from_residual-in_err-listed.ensures.1
    (header_reads c.args.self.now.source.now _ c.args.self.now.tokens_good _ (is_required c.args.bodies) c.requires.at_sign c.requires.stands
    (one_below c.in_ok-below.ensures.goes) c.open-opened.ensures.answer c.in_ok-named.ensures.answer
    (c.in_err-listed.ensures.reads c.args.self.now.source.now _) passed refl passed)

pub returns-in_err-given-clause-reads : goal.returns-in_err-given-clause-reads
unfolding taken_by
returns-in_err-given-clause-reads c =
    leaves _ _ c.from_residual-in_err-given.ensures.1
    (header_reads c.args.self.now.source.now _ c.args.self.now.tokens_good _ (is_required c.args.bodies) c.requires.at_sign c.requires.stands
    (one_below c.in_ok-below.ensures.goes) c.open-opened.ensures.answer c.in_ok-named.ensures.answer
    (c.in_ok-listed.ensures.reads c.args.self.now.source.now _) (c.in_err-given.ensures.reads c.args.self.now.source.now _) refl passed)

pub returns-in_err-arrowed-clause-reads : goal.returns-in_err-arrowed-clause-reads
returns-in_err-arrowed-clause-reads c =
    leaves _ _ c.from_residual-in_err-arrowed.ensures.1
    (header_reads c.args.self.now.source.now _ c.args.self.now.tokens_good _ (is_required c.args.bodies) c.requires.at_sign c.requires.stands
    (one_below c.in_ok-below.ensures.goes) c.open-opened.ensures.answer c.in_ok-named.ensures.answer
    (c.in_ok-listed.ensures.reads c.args.self.now.source.now _) (c.in_ok-given.ensures.reads c.args.self.now.source.now _)
    c.in_err-arrowed.ensures.answer passed)

pub returns-in_err-typed-clause-reads : goal.returns-in_err-typed-clause-reads
returns-in_err-typed-clause-reads c =
    leaves _ _ c.from_residual-in_err-typed.ensures.1
    (header_reads c.args.self.now.source.now _ c.args.self.now.tokens_good _ (is_required c.args.bodies) c.requires.at_sign c.requires.stands
    (one_below c.in_ok-below.ensures.goes) c.open-opened.ensures.answer c.in_ok-named.ensures.answer
    (c.in_ok-listed.ensures.reads c.args.self.now.source.now _) (c.in_ok-given.ensures.reads c.args.self.now.source.now _)
    c.in_ok-arrowed.ensures.answer (c.in_err-typed.ensures.reads c.args.self.now.source.now _))

-- the header is read where the body is asked for
headed : (c : After-lacks_body) → let r = c.args.self.now in
    Headed r.source.now _ r.tokens_good (names_of r) (is_required c.args.bodies) c.args.left c.in_ok-below.below (step_at c.args.from) c.args.rows.now
    (step_at c.in_ok-typed.typed) c.read_type.new.rows
headed c =
    header_reads c.args.self.now.source.now _ c.args.self.now.tokens_good _ (is_required c.args.bodies) c.requires.at_sign c.requires.stands
    (one_below c.in_ok-below.ensures.goes) c.open-opened.ensures.answer c.in_ok-named.ensures.answer
    (c.in_ok-listed.ensures.reads c.args.self.now.source.now _) (c.in_ok-given.ensures.reads c.args.self.now.source.now _)
    c.in_ok-arrowed.ensures.answer (c.in_ok-typed.ensures.reads c.args.self.now.source.now _)

pub close_row-requires : goal.close_row-requires
close_row-requires c =
    closable c.args.self.now.source.now _ c.args.self.now.tokens_good _ c.requires.stands
    (header_ends c.args.self.now.source.now _ c.args.self.now.tokens_good _ (is_required c.args.bodies)
    (headed (goal.at.close_row-requires c).After-lacks_body) (sym c.lacks_body.ensures ∙ c.if-lacks_body.true))

pub returns-then-lacks_body-clause-reads : goal.returns-then-lacks_body-clause-reads
returns-then-lacks_body-clause-reads c =
    row_read c.args.self.now.source.now _ c.args.self.now.tokens_good _
    (header_ends c.args.self.now.source.now _ c.args.self.now.tokens_good _ (is_required c.args.bodies)
    (headed (goal.at.returns-then-lacks_body-clause-reads c).After-lacks_body) (sym c.lacks_body.ensures ∙ c.if-lacks_body.true))
    (omega arith) c.close_row.ensures.answer c.close_row.ensures.table

pub returns-in_err-ended-clause-reads : goal.returns-in_err-ended-clause-reads
returns-in_err-ended-clause-reads c =
    leaves _ _ c.from_residual-in_err-ended.ensures.1
    (body_reads c.args.self.now.source.now _ c.args.self.now.tokens_good _ (is_required c.args.bodies)
    (headed (goal.at.returns-in_err-ended-clause-reads c).After-lacks_body) (sym c.lacks_body.ensures ∙ c.if-lacks_body.false)
    c.in_err-ended.ensures.reads)

pub close_row-requires-2 : goal.close_row-requires-2
close_row-requires-2 c =
    closable c.args.self.now.source.now _ c.args.self.now.tokens_good _ c.requires.stands
    (body_reads c.args.self.now.source.now _ c.args.self.now.tokens_good _ (is_required c.args.bodies)
    (headed (goal.at.close_row-requires-2 c).After-lacks_body) (sym c.lacks_body.ensures ∙ c.if-lacks_body.false) c.in_ok-ended.ensures.reads)

pub returns-clause-reads : goal.returns-clause-reads
returns-clause-reads c =
    row_read c.args.self.now.source.now _ c.args.self.now.tokens_good _
    (body_reads c.args.self.now.source.now _ c.args.self.now.tokens_good _ (is_required c.args.bodies)
    (headed (goal.at.returns-clause-reads c).After-lacks_body) (sym c.lacks_body.ensures ∙ c.if-lacks_body.false) c.in_ok-ended.ensures.reads)
    (omega arith) c.close_row-2.ensures.answer c.close_row-2.ensures.table
