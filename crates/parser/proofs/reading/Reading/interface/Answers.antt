-- `Reading::interface` meets its contract. Assumes nothing.
use mathlib.Core.Path.{refl, sym, ◌∙◌}
use Prim.Native.Nat.{◌+◌}
use native.Mathlib.Numerals.{add-one}
use native.Mathlib.Omega.{arith}
use Rattle.grammar.specs.internal.Nonterminals.{declaration}
use Rattle.parser.specs.internal.Readers.{names_of}
use Rattle.parser.specs.internal.Steps.{step_at, taken_by}
use Rattle.parser.proofs.Laws.Openings.{no_declaration}
use Rattle.parser.proofs.Laws.Results.{leaves, passed, closable, row_read, some_kind}
use Rattle.parser.proofs.Laws.Functions.{Interfaced, interfaced, trait, impl}
use Rattle.parser.proofs.Laws.Declarations.{interface_declares}
use Rattle.parser.proofs.reading.Reading.interface.Goals as goal
use Rattle.parser.proofs.reading.Reading.interface.Goals.{After-next_is}

-- what a trait and an implementation begin with is read where they part
head : (c : After-next_is) → let r = c.args.self.now in
    Interfaced r.source.now _ r.tokens_good (names_of r) (c.args.below + 1) c.args.below (step_at c.args.from) c.args.rows.now
    (step_at c.in_ok-listed.listed) c.optional_list.new.rows
head c =
    interfaced c.args.self.now.source.now _ c.args.self.now.tokens_good _ c.requires.form c.requires.stands (add-one c.args.below)
    c.open-opened.ensures.answer c.in_ok-named.ensures.answer (c.in_ok-listed.ensures.reads c.args.self.now.source.now _)

pub open-opened-requires-clause-some : goal.open-opened-requires-clause-some
open-opened-requires-clause-some c = some_kind declaration no_declaration _ c.requires.form

pub returns-in_err-braced-clause-reads : goal.returns-in_err-braced-clause-reads
unfolding taken_by
returns-in_err-braced-clause-reads c =
    interface_declares c.args.self.now.source.now _ c.args.self.now.tokens_good _ c.requires.form c.requires.stands
    (leaves _ _ c.from_residual-in_err-braced.ensures.1
    (trait c.args.self.now.source.now _ c.args.self.now.tokens_good _ (head (goal.at.returns-in_err-braced-clause-reads c).After-next_is)
    (sym c.next_is.ensures ∙ c.if-next_is.true) c.in_err-braced.ensures.answer passed refl))

pub returns-in_err-held-clause-reads : goal.returns-in_err-held-clause-reads
unfolding taken_by
returns-in_err-held-clause-reads c =
    interface_declares c.args.self.now.source.now _ c.args.self.now.tokens_good _ c.requires.form c.requires.stands
    (leaves _ _ c.from_residual-in_err-held.ensures.1
    (trait c.args.self.now.source.now _ c.args.self.now.tokens_good _ (head (goal.at.returns-in_err-held-clause-reads c).After-next_is)
    (sym c.next_is.ensures ∙ c.if-next_is.true) c.in_ok-braced.ensures.answer c.in_err-held.ensures.reads refl))

pub returns-in_err-ended-clause-reads : goal.returns-in_err-ended-clause-reads
returns-in_err-ended-clause-reads c =
    interface_declares c.args.self.now.source.now _ c.args.self.now.tokens_good _ c.requires.form c.requires.stands
    (leaves _ _ c.from_residual-in_err-ended.ensures.1
    (trait c.args.self.now.source.now _ c.args.self.now.tokens_good _ (head (goal.at.returns-in_err-ended-clause-reads c).After-next_is)
    (sym c.next_is.ensures ∙ c.if-next_is.true) c.in_ok-braced.ensures.answer c.in_ok-held.ensures.reads c.in_err-ended.ensures.answer))

pub close_row-requires : goal.close_row-requires
close_row-requires c =
    closable c.args.self.now.source.now _ c.args.self.now.tokens_good _ {t = c.args.rows.now} c.requires.stands
    (trait c.args.self.now.source.now _ c.args.self.now.tokens_good _ (head (goal.at.close_row-requires c).After-next_is)
    (sym c.next_is.ensures ∙ c.if-next_is.true) c.in_ok-braced.ensures.answer c.in_ok-held.ensures.reads c.in_ok-ended.ensures.answer)

pub returns-then-next_is-clause-reads : goal.returns-then-next_is-clause-reads
returns-then-next_is-clause-reads c =
    interface_declares c.args.self.now.source.now _ c.args.self.now.tokens_good _ c.requires.form c.requires.stands
    (row_read c.args.self.now.source.now _ c.args.self.now.tokens_good _
    (trait c.args.self.now.source.now _ c.args.self.now.tokens_good _ (head (goal.at.returns-then-next_is-clause-reads c).After-next_is)
    (sym c.next_is.ensures ∙ c.if-next_is.true) c.in_ok-braced.ensures.answer c.in_ok-held.ensures.reads c.in_ok-ended.ensures.answer)
    (omega arith) c.close_row.ensures.answer c.close_row.ensures.table)

pub returns-in_err-named-clause-reads : goal.returns-in_err-named-clause-reads
returns-in_err-named-clause-reads c =
    interface_declares c.args.self.now.source.now _ c.args.self.now.tokens_good _ c.requires.form c.requires.stands
    (leaves _ _ c.from_residual.ensures.1
    (interfaced c.args.self.now.source.now _ c.args.self.now.tokens_good _ c.requires.form c.requires.stands (add-one c.args.below)
    c.open-opened.ensures.answer c.in_err-named.ensures.answer passed))

pub returns-in_err-listed-clause-reads : goal.returns-in_err-listed-clause-reads
returns-in_err-listed-clause-reads c =
    interface_declares c.args.self.now.source.now _ c.args.self.now.tokens_good _ c.requires.form c.requires.stands
    (leaves _ _ c.from_residual-in_err-listed.ensures.1
    (interfaced c.args.self.now.source.now _ c.args.self.now.tokens_good _ c.requires.form c.requires.stands (add-one c.args.below)
    c.open-opened.ensures.answer c.in_ok-named.ensures.answer (c.in_err-listed.ensures.reads c.args.self.now.source.now _)))

pub returns-in_err-typed-clause-reads : goal.returns-in_err-typed-clause-reads
unfolding taken_by
returns-in_err-typed-clause-reads c =
    interface_declares c.args.self.now.source.now _ c.args.self.now.tokens_good _ c.requires.form c.requires.stands
    (leaves _ _ c.from_residual-in_err-typed.ensures.1
    (impl c.args.self.now.source.now _ c.args.self.now.tokens_good _ (head (goal.at.returns-in_err-typed-clause-reads c).After-next_is)
    (sym c.next_is.ensures ∙ c.if-next_is.false) (c.in_err-typed.ensures.reads c.args.self.now.source.now _) refl passed refl))

pub returns-in_err-braced-2-clause-reads : goal.returns-in_err-braced-2-clause-reads
unfolding taken_by
returns-in_err-braced-2-clause-reads c =
    interface_declares c.args.self.now.source.now _ c.args.self.now.tokens_good _ c.requires.form c.requires.stands
    (leaves _ _ c.from_residual-in_err-braced-2.ensures.1
    (impl c.args.self.now.source.now _ c.args.self.now.tokens_good _ (head (goal.at.returns-in_err-braced-2-clause-reads c).After-next_is)
    (sym c.next_is.ensures ∙ c.if-next_is.false) (c.in_ok-typed.ensures.reads c.args.self.now.source.now _) c.in_err-braced-2.ensures.answer passed
    refl))

pub returns-in_err-held-2-clause-reads : goal.returns-in_err-held-2-clause-reads
unfolding taken_by
returns-in_err-held-2-clause-reads c =
    interface_declares c.args.self.now.source.now _ c.args.self.now.tokens_good _ c.requires.form c.requires.stands
    (leaves _ _ c.from_residual-in_err-held-2.ensures.1
    (impl c.args.self.now.source.now _ c.args.self.now.tokens_good _ (head (goal.at.returns-in_err-held-2-clause-reads c).After-next_is)
    (sym c.next_is.ensures ∙ c.if-next_is.false) (c.in_ok-typed.ensures.reads c.args.self.now.source.now _) c.in_ok-braced-2.ensures.answer
    c.in_err-held-2.ensures.reads refl))

pub returns-in_err-ended-2-clause-reads : goal.returns-in_err-ended-2-clause-reads
returns-in_err-ended-2-clause-reads c =
    interface_declares c.args.self.now.source.now _ c.args.self.now.tokens_good _ c.requires.form c.requires.stands
    (leaves _ _ c.from_residual-in_err-ended-2.ensures.1
    (impl c.args.self.now.source.now _ c.args.self.now.tokens_good _ (head (goal.at.returns-in_err-ended-2-clause-reads c).After-next_is)
    (sym c.next_is.ensures ∙ c.if-next_is.false) (c.in_ok-typed.ensures.reads c.args.self.now.source.now _) c.in_ok-braced-2.ensures.answer
    c.in_ok-held-2.ensures.reads c.in_err-ended-2.ensures.answer))

pub close_row-requires-2 : goal.close_row-requires-2
close_row-requires-2 c =
    closable c.args.self.now.source.now _ c.args.self.now.tokens_good _ {t = c.args.rows.now} c.requires.stands
    (impl c.args.self.now.source.now _ c.args.self.now.tokens_good _ (head (goal.at.close_row-requires-2 c).After-next_is)
    (sym c.next_is.ensures ∙ c.if-next_is.false) (c.in_ok-typed.ensures.reads c.args.self.now.source.now _) c.in_ok-braced-2.ensures.answer
    c.in_ok-held-2.ensures.reads c.in_ok-ended-2.ensures.answer)

pub returns-clause-reads : goal.returns-clause-reads
returns-clause-reads c =
    interface_declares c.args.self.now.source.now _ c.args.self.now.tokens_good _ c.requires.form c.requires.stands
    (row_read c.args.self.now.source.now _ c.args.self.now.tokens_good _
    (impl c.args.self.now.source.now _ c.args.self.now.tokens_good _ (head (goal.at.returns-clause-reads c).After-next_is)
    (sym c.next_is.ensures ∙ c.if-next_is.false) (c.in_ok-typed.ensures.reads c.args.self.now.source.now _) c.in_ok-braced-2.ensures.answer
    c.in_ok-held-2.ensures.reads c.in_ok-ended-2.ensures.answer)
    (omega arith) c.close_row-2.ensures.answer c.close_row-2.ensures.table)
