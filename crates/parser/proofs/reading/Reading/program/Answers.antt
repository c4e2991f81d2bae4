-- `Reading::program` meets its contract. Assumes nothing.
use mathlib.Core.Path.{◌≡◌, ◌∙◌, sym, ap}
use Rattle.grammar.specs.Nurl.{productions}
use Rattle.grammar.specs.internal.Nonterminals.{declaration}
use Rattle.grammar.proofs.Laws.Forms.{declaration_begins}
use Rattle.parser.specs.internal.Steps.{step_at, begins_part}
use Rattle.parser.proofs.Laws.After.{after_within}
use Rattle.parser.proofs.Laws.Views.{names_fixed}
use Rattle.parser.proofs.Laws.Readers.{one_below}
use Rattle.parser.proofs.Laws.Loops.{reads_falls, begins_kind}
use Rattle.parser.proofs.Laws.Openings.{no_declaration}
use Rattle.parser.proofs.Laws.Declarations.{declarations_go, declarations_end}
use Rattle.parser.proofs.Laws.Programs.{first_within, program_begun, program_closing, program-closed, program_deep}
use Rattle.parser.proofs.Laws.Results.{leaves, no_level}
use Rattle.parser.proofs.reading.Reading.program.Goals as goal
use Rattle.parser.proofs.reading.Reading.program.Goals.{After-is_some}

-- what the loop asks of the next token
begins : (c : After-is_some) → c.is_some.result ≡ begins_part declaration c.args.self.now.tokens.now (step_at c.loop-rows.place)
unfolding begins_part
begins c = c.is_some.ensures ∙ declaration_begins c.declaration_form.result ∙ rw (c.declaration_form.ensures, c.kind.ensures)

pub returns-in_err-below : goal.returns-in_err-below
returns-in_err-below c =
    no_level _ _ c.from_residual.ensures.1 c.in_err-below.ensures.stops
    (program_deep c.args.self.now.source.now _ c.args.self.now.tokens_good _ _)

pub reserve-place-requires : goal.reserve-place-requires
reserve-place-requires c = first_within _

pub loop-rows-init : goal.loop-rows-init
loop-rows-init c =
    program_begun c.args.self.now.source.now _ c.args.self.now.tokens_good _ (first_within _)
    (one_below c.in_ok-below.ensures.goes) c.reserve-place.ensures.answer

pub declaration-requires : goal.declaration-requires
declaration-requires c =
    after_within productions _ _ _ (names_fixed c.args.self.now.source.now _ c.args.self.now.tokens_good _) c.loop-rows.invariant

pub returns-in_err-place : goal.returns-in_err-place
returns-in_err-place c =
    leaves _ _ c.from_residual-in_err-place.ensures.1
    (declarations_go c.args.self.now.source.now _ c.args.self.now.tokens_good _ c.loop-rows.invariant
    (sym (begins (goal.at.returns-in_err-place c).After-is_some) ∙ c.loop-rows-test.true) c.in_err-place.ensures.reads)

pub loop-rows-smaller : goal.loop-rows-smaller
loop-rows-smaller c =
    reads_falls _ c.in_ok-place.ensures.reads
    (begins_kind declaration no_declaration _ _ (sym (begins (goal.at.loop-rows-smaller c).After-is_some) ∙ c.loop-rows-test.true))

pub loop-rows-preserved : goal.loop-rows-preserved
loop-rows-preserved c =
    declarations_go c.args.self.now.source.now _ c.args.self.now.tokens_good _ c.loop-rows.invariant
    (sym (begins (goal.at.loop-rows-preserved c).After-is_some) ∙ c.loop-rows-test.true) c.in_ok-place.ensures.reads

pub close_row-requires : goal.close_row-requires
close_row-requires c =
    program_closing c.args.self.now.source.now _ c.args.self.now.tokens_good _ (first_within _) c.loop-rows.invariant

pub returns : goal.returns
returns c =
    program-closed c.args.self.now.source.now _ c.args.self.now.tokens_good _
    (declarations_end c.args.self.now.source.now _ c.args.self.now.tokens_good _ c.loop-rows.invariant
    (sym (begins (goal.at.returns c).After-is_some) ∙ c.loop-rows-test.false))
    (ap step_at c.close_row.ensures.answer) c.close_row.ensures.table
