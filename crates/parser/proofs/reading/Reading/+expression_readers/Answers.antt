-- The readers of expressions, statements and blocks meet their contracts. Assumes nothing.
use Prim.Native.Nat.{ℕ, ◌-◌}
use mathlib.Core.List.{[], ◌∷◌}
use mathlib.Core.Path.{refl, sym, ◌∙◌, ◌≡◌}
use native.Mathlib.Numerals.{add-one}
use native.Mathlib.Omega.{arith}
use native.Mathlib.Nat.{sub-zero}
use denote.Enum.Bare.{same_true, same_false}
use Rattle.tree.specs.internal.RowKinds.{let_row}
use Rattle.grammar.specs.Grammars.{token, derived}
use Rattle.grammar.specs.internal.Classes.{name}
use Rattle.grammar.specs.Nurl.{productions}
use mathlib.Core.List.{[], ◌∷◌}
use Rattle.std.proofs.Common.{rules, of_calls}
use Rattle.lexer.specs.Tests.{among}
use Rattle.lexer.specs.internal.Kinds.{ident, boolean}
use Rattle.grammar.specs.internal.Nonterminals.{expression, statement, arm as anArm, arms as armList, expressions as expressionList}
use Rattle.grammar.specs.internal.Nonterminals.{statements as statementList}
use Rattle.grammar.specs.contracts.forms.StatementForm.{the_type}
use Rattle.grammar.specs.declared.forms.StatementForm.TheVariants.{Expression}
use Rattle.grammar.specs.internal.Forms.{expression_form_number, statement_form_number}
use Rattle.grammar.proofs.Laws.Forms.{expression_begins}
use Rattle.parser.specs.internal.Steps.{next_kind, begins_part, taken_by}
use Rattle.parser.specs.internal.Operators.{binary, negation, return, complement, conditional, member, slice_elements, aggregate_elements}
use Rattle.parser.proofs.Laws.After.{after_within}
use Rattle.parser.proofs.Laws.Repeated.{goes_on, repeats_by}
use Rattle.parser.proofs.Laws.Views.{names_fixed}
use Rattle.parser.proofs.Laws.Readers.{operand}
use Rattle.parser.proofs.Laws.Openings.{no_expression, none_number, some_number, no_statement, form_number}
use Rattle.parser.proofs.Laws.Results.{arrived, same_level, Begun, leaves, no_level, passed, closable, row_read, wide, some_kind, some_alternative}
use Rattle.parser.proofs.Laws.Matches.{arm_kind, arm_deep, arm_whole, arms_list}
use Rattle.parser.proofs.Laws.Statements.{block_deep, block_stuck, block_whole, defer_block, for_each, let_plain, let_typed, let_valued, set_element, set_name}
use Rattle.parser.proofs.Laws.Statements.{tilde_left, more_than_expression, statement_deep, statement_expression, statement_stuck, statements_list}
use Rattle.parser.proofs.Laws.Statements.{tilde_complement, while_loop}
use Rattle.parser.proofs.Laws.Expressions.{block_passes, call, cast_refused, closure, elements, elements_some, operation_some, expression-deep, expression_here}
use Rattle.parser.proofs.Laws.Expressions.{expression_stuck, expressions_list, literal-expression, match_expression, name_expression}
use Rattle.parser.proofs.Laws.Expressions.{operation, plain_cast, pointer_cast, try_expression}
use Rattle.parser.proofs.reading.Reading.+expression_readers.Goals as goal
use Rattle.parser.proofs.reading.Reading.+expression_readers.Goals.{
  let_statement-Joined-plain_name,
  let_statement-then-plain_name,
  let_statement-else-plain_name+in_ok-typed,
}

-- `arm`

pub arm-returns-in_err-below : goal.arm-returns-in_err-below
arm-returns-in_err-below t c =
    no_level _ _ c.from_residual.ensures.1 c.in_err-below.ensures.stops
    (arm_deep c.args.self.now.source.now _ c.args.self.now.tokens_good _ _ c.requires.from_value)

pub arm-open-opened-requires-clause-some : goal.arm-open-opened-requires-clause-some
arm-open-opened-requires-clause-some t c = arm_kind c.requires.from_value

pub arm-returns-in_err-bound : goal.arm-returns-in_err-bound
unfolding taken_by
arm-returns-in_err-bound t c =
    leaves _ _ c.from_residual-in_err-bound.ensures.1
    (arm_whole c.args.self.now.source.now _ c.args.self.now.tokens_good _ c.requires.from_value c.requires.stands
    (c.in_ok-below.ensures.goes ∙ add-one _) c.open-opened.ensures.answer (c.in_err-bound.ensures.reads c.args.self.now.source.now _) refl
    passed)

pub arm-returns-in_err-marked : goal.arm-returns-in_err-marked
arm-returns-in_err-marked t c =
    leaves _ _ c.from_residual-in_err-marked.ensures.1
    (arm_whole c.args.self.now.source.now _ c.args.self.now.tokens_good _ c.requires.from_value c.requires.stands
    (c.in_ok-below.ensures.goes ∙ add-one _) c.open-opened.ensures.answer (c.in_ok-bound.ensures.reads c.args.self.now.source.now _)
    c.in_err-marked.ensures.answer passed)

pub arm-returns-in_err-valued : goal.arm-returns-in_err-valued
arm-returns-in_err-valued t c =
    leaves _ _ c.from_residual-in_err-valued.ensures.1
    (arm_whole c.args.self.now.source.now _ c.args.self.now.tokens_good _ c.requires.from_value c.requires.stands
    (c.in_ok-below.ensures.goes ∙ add-one _) c.open-opened.ensures.answer (c.in_ok-bound.ensures.reads c.args.self.now.source.now _)
    c.in_ok-marked.ensures.answer c.in_err-valued.ensures)

pub arm-close_row-requires : goal.arm-close_row-requires
arm-close_row-requires t c =
    closable c.args.self.now.source.now _ c.args.self.now.tokens_good _ {t = c.args.rows.now} c.requires.stands
    (arm_whole c.args.self.now.source.now _ c.args.self.now.tokens_good _ c.requires.from_value c.requires.stands
    (c.in_ok-below.ensures.goes ∙ add-one _) c.open-opened.ensures.answer (c.in_ok-bound.ensures.reads c.args.self.now.source.now _)
    c.in_ok-marked.ensures.answer c.in_ok-valued.ensures)

pub arm-returns : goal.arm-returns
arm-returns t c =
    row_read c.args.self.now.source.now _ c.args.self.now.tokens_good _
    (arm_whole c.args.self.now.source.now _ c.args.self.now.tokens_good _ c.requires.from_value c.requires.stands
    (c.in_ok-below.ensures.goes ∙ add-one _) c.open-opened.ensures.answer (c.in_ok-bound.ensures.reads c.args.self.now.source.now _)
    c.in_ok-marked.ensures.answer c.in_ok-valued.ensures)
    (omega arith) c.close_row.ensures.answer c.close_row.ensures.table

pub arm-take-requires : goal.arm-take-requires
arm-take-requires t c = wide c.in_ok-bound.ensures.arrives

pub arm-expression-requires : goal.arm-expression-requires
arm-expression-requires t c = (omega (arith, c.decreases, c.in_ok-below.ensures.goes), wide c.in_ok-marked.ensures.arrives)

-- `arms`

pub arms-repeated-requires : goal.arms-repeated-requires
arms-repeated-requires t c κs = (
  (refl, tt),
  (
    c.requires,
    (
      search (of_calls, rules),
      λ of rows at is stands asks. (
        (omega (arith, c.decreases), (rw is (wide stands), sym asks.1)),
        λ result after one. goes_on _ of _ _ _ anArm at result _ _ is one.1,
      ),
    ),
  ),
)

pub arms-returns : goal.arms-returns
arms-returns t c =
    c.repeated.ensures.reads _ _ _
    (repeats_by c.args.self.now _ armList anArm (λ r s. among (ident ∷ boolean ∷ []) (next_kind r.tokens.now s))
    (λ of at b asks. asks.1) (λ of rows after at result one. one.1)
    (arms_list _ _ c.args.self.now.tokens_good _))

-- `assignment`

pub assignment-open-opened-requires-clause-some : goal.assignment-open-opened-requires-clause-some
assignment-open-opened-requires-clause-some t c = some_kind statement no_statement _ c.requires.form

pub assignment-returns-in_err-marked : goal.assignment-returns-in_err-marked
assignment-returns-in_err-marked t c =
    leaves _ _ c.from_residual.ensures.1
    (set_element c.args.self.now.source.now _ c.args.self.now.tokens_good _ c.requires.form c.requires.stands (add-one _)
    c.open-opened.ensures.answer (sym c.next_is.ensures ∙ c.if-next_is.true) c.in_err-marked.ensures.answer passed passed passed)

pub assignment-returns-in_err-whole : goal.assignment-returns-in_err-whole
assignment-returns-in_err-whole t c =
    leaves _ _ c.from_residual-in_err-whole.ensures.1
    (set_element c.args.self.now.source.now _ c.args.self.now.tokens_good _ c.requires.form c.requires.stands (add-one _)
    c.open-opened.ensures.answer (sym c.next_is.ensures ∙ c.if-next_is.true) c.in_ok-marked.ensures.answer c.in_err-whole.ensures passed passed)

pub assignment-returns-in_err-index : goal.assignment-returns-in_err-index
assignment-returns-in_err-index t c =
    leaves _ _ c.from_residual-in_err-index.ensures.1
    (set_element c.args.self.now.source.now _ c.args.self.now.tokens_good _ c.requires.form c.requires.stands (add-one _)
    c.open-opened.ensures.answer (sym c.next_is.ensures ∙ c.if-next_is.true) c.in_ok-marked.ensures.answer c.in_ok-whole.ensures
    c.in_err-index.ensures passed)

pub assignment-returns-in_err-valued : goal.assignment-returns-in_err-valued
assignment-returns-in_err-valued t c =
    leaves _ _ c.from_residual-in_err-valued.ensures.1
    (set_element c.args.self.now.source.now _ c.args.self.now.tokens_good _ c.requires.form c.requires.stands (add-one _)
    c.open-opened.ensures.answer (sym c.next_is.ensures ∙ c.if-next_is.true) c.in_ok-marked.ensures.answer c.in_ok-whole.ensures
    c.in_ok-index.ensures c.in_err-valued.ensures)

pub assignment-close_row-requires : goal.assignment-close_row-requires
assignment-close_row-requires t c =
    closable _ _ c.args.self.now.tokens_good _ {t = c.args.rows.now} c.requires.stands
    (set_element c.args.self.now.source.now _ c.args.self.now.tokens_good _ c.requires.form c.requires.stands (add-one _)
    c.open-opened.ensures.answer (sym c.next_is.ensures ∙ c.if-next_is.true) c.in_ok-marked.ensures.answer c.in_ok-whole.ensures
    c.in_ok-index.ensures c.in_ok-valued.ensures)

pub assignment-returns-then-next_is : goal.assignment-returns-then-next_is
assignment-returns-then-next_is t c =
    row_read _ _ c.args.self.now.tokens_good _
    (set_element c.args.self.now.source.now _ c.args.self.now.tokens_good _ c.requires.form c.requires.stands (add-one _)
    c.open-opened.ensures.answer (sym c.next_is.ensures ∙ c.if-next_is.true) c.in_ok-marked.ensures.answer c.in_ok-whole.ensures
    c.in_ok-index.ensures c.in_ok-valued.ensures)
    (omega arith) c.close_row.ensures.answer c.close_row.ensures.table

pub assignment-returns-in_err-named : goal.assignment-returns-in_err-named
assignment-returns-in_err-named t c =
    leaves _ _ c.from_residual-in_err-named.ensures.1
    (set_name c.args.self.now.source.now _ c.args.self.now.tokens_good _ c.requires.form c.requires.stands (add-one _)
    c.open-opened.ensures.answer (sym c.next_is.ensures ∙ c.if-next_is.false) c.in_err-named.ensures.answer passed)

pub assignment-returns-in_err-valued-2 : goal.assignment-returns-in_err-valued-2
assignment-returns-in_err-valued-2 t c =
    leaves _ _ c.from_residual-in_err-valued-2.ensures.1
    (set_name c.args.self.now.source.now _ c.args.self.now.tokens_good _ c.requires.form c.requires.stands (add-one _)
    c.open-opened.ensures.answer (sym c.next_is.ensures ∙ c.if-next_is.false) c.in_ok-named.ensures.answer c.in_err-valued-2.ensures)

pub assignment-close_row-requires-2 : goal.assignment-close_row-requires-2
assignment-close_row-requires-2 t c =
    closable _ _ c.args.self.now.tokens_good _ {t = c.args.rows.now} c.requires.stands
    (set_name c.args.self.now.source.now _ c.args.self.now.tokens_good _ c.requires.form c.requires.stands (add-one _)
    c.open-opened.ensures.answer (sym c.next_is.ensures ∙ c.if-next_is.false) c.in_ok-named.ensures.answer c.in_ok-valued-2.ensures)

pub assignment-returns : goal.assignment-returns
assignment-returns t c =
    row_read _ _ c.args.self.now.tokens_good _
    (set_name c.args.self.now.source.now _ c.args.self.now.tokens_good _ c.requires.form c.requires.stands (add-one _)
    c.open-opened.ensures.answer (sym c.next_is.ensures ∙ c.if-next_is.false) c.in_ok-named.ensures.answer c.in_ok-valued-2.ensures)
    (omega arith) c.close_row-2.ensures.answer c.close_row-2.ensures.table

pub assignment-take-requires : goal.assignment-take-requires
assignment-take-requires t c = wide c.open-opened.ensures.stands

pub assignment-expression-requires : goal.assignment-expression-requires
assignment-expression-requires t c = (omega (arith, c.decreases), wide c.in_ok-marked.ensures.arrives)

pub assignment-expression-requires-then-next_is : goal.assignment-expression-requires-then-next_is
assignment-expression-requires-then-next_is t c = (omega (arith, c.decreases), wide (arrived c.in_ok-whole.ensures))

pub assignment-expression-requires-then-next_is-2 : goal.assignment-expression-requires-then-next_is-2
assignment-expression-requires-then-next_is-2 t c = (omega (arith, c.decreases), wide (arrived c.in_ok-index.ensures))

pub assignment-take-requires-2 : goal.assignment-take-requires-2
assignment-take-requires-2 t c = wide c.open-opened.ensures.stands

pub assignment-expression-requires-2 : goal.assignment-expression-requires-2
assignment-expression-requires-2 t c = (omega (arith, c.decreases), wide c.in_ok-named.ensures.arrives)

-- `block`

pub block-returns-then-not-next_is-clause-reads : goal.block-returns-then-not-next_is-clause-reads
block-returns-then-not-next_is-clause-reads t c =
    rw c.no_program.ensures (block_stuck c.args.self.now.source.now _ c.args.self.now.tokens_good _ _ (sym c.next_is.ensures ∙ c.if-not-next_is.true))

pub block-returns-in_err-below-clause-reads : goal.block-returns-in_err-below-clause-reads
block-returns-in_err-below-clause-reads t c =
    no_level _ _ c.from_residual.ensures.1 c.in_err-below.ensures.stops
    (block_deep c.args.self.now.source.now _ c.args.self.now.tokens_good _ _ (sym c.next_is.ensures ∙ c.if-not-next_is.false))

pub block-returns-in_err-listed-clause-reads : goal.block-returns-in_err-listed-clause-reads
unfolding taken_by
block-returns-in_err-listed-clause-reads t c =
    leaves _ _ c.from_residual-in_err-listed.ensures.1
    (block_whole c.args.self.now.source.now _ c.args.self.now.tokens_good _ (sym c.next_is.ensures ∙ c.if-not-next_is.false) c.requires
    (c.in_ok-below.ensures.goes ∙ add-one _) c.open-opened.ensures.answer c.in_err-listed.ensures refl)

pub block-returns-in_err-ended-clause-reads : goal.block-returns-in_err-ended-clause-reads
block-returns-in_err-ended-clause-reads t c =
    leaves _ _ c.from_residual-in_err-ended.ensures.1
    (block_whole c.args.self.now.source.now _ c.args.self.now.tokens_good _ (sym c.next_is.ensures ∙ c.if-not-next_is.false) c.requires
    (c.in_ok-below.ensures.goes ∙ add-one _) c.open-opened.ensures.answer c.in_ok-listed.ensures c.in_err-ended.ensures.answer)

pub block-close_row-requires : goal.block-close_row-requires
block-close_row-requires t c =
    closable _ _ c.args.self.now.tokens_good _ {t = c.args.rows.now} c.requires
    (block_whole c.args.self.now.source.now _ c.args.self.now.tokens_good _ (sym c.next_is.ensures ∙ c.if-not-next_is.false) c.requires
    (c.in_ok-below.ensures.goes ∙ add-one _) c.open-opened.ensures.answer c.in_ok-listed.ensures c.in_ok-ended.ensures.answer)

pub block-returns-clause-reads : goal.block-returns-clause-reads
block-returns-clause-reads t c =
    row_read _ _ c.args.self.now.tokens_good _
    (block_whole c.args.self.now.source.now _ c.args.self.now.tokens_good _ (sym c.next_is.ensures ∙ c.if-not-next_is.false) c.requires
    (c.in_ok-below.ensures.goes ∙ add-one _) c.open-opened.ensures.answer c.in_ok-listed.ensures c.in_ok-ended.ensures.answer)
    (omega arith) c.close_row.ensures.answer c.close_row.ensures.table

pub block-statements-requires : goal.block-statements-requires
block-statements-requires t c = (omega (arith, c.decreases, c.in_ok-below.ensures.goes), c.open-opened.ensures.stands)

pub block-take-requires : goal.block-take-requires
block-take-requires t c = wide (arrived c.in_ok-listed.ensures)

-- `call`

pub call-open-opened-requires-clause-some : goal.call-open-opened-requires-clause-some
call-open-opened-requires-clause-some t c = some_kind expression no_expression _ c.requires.form

pub call-returns-in_err-named : goal.call-returns-in_err-named
unfolding taken_by
call-returns-in_err-named t c =
    leaves _ _ c.from_residual.ensures.1
    (call c.args.self.now.source.now _ c.args.self.now.tokens_good _ c.requires.form c.requires.stands (add-one _)
    c.open-opened.ensures.answer c.in_err-named.ensures.answer passed passed refl)

pub call-returns-in_err-listed : goal.call-returns-in_err-listed
unfolding taken_by
call-returns-in_err-listed t c =
    leaves _ _ c.from_residual-in_err-listed.ensures.1
    (call c.args.self.now.source.now _ c.args.self.now.tokens_good _ c.requires.form c.requires.stands (add-one _)
    c.open-opened.ensures.answer c.in_ok-named.ensures.answer (c.in_err-listed.ensures.reads c.args.self.now.source.now _) passed refl)

pub call-returns-in_err-given : goal.call-returns-in_err-given
unfolding taken_by
call-returns-in_err-given t c =
    leaves _ _ c.from_residual-in_err-given.ensures.1
    (call c.args.self.now.source.now _ c.args.self.now.tokens_good _ c.requires.form c.requires.stands (add-one _)
    c.open-opened.ensures.answer c.in_ok-named.ensures.answer (c.in_ok-listed.ensures.reads c.args.self.now.source.now _)
    c.in_err-given.ensures refl)

pub call-returns-in_err-ended : goal.call-returns-in_err-ended
call-returns-in_err-ended t c =
    leaves _ _ c.from_residual-in_err-ended.ensures.1
    (call c.args.self.now.source.now _ c.args.self.now.tokens_good _ c.requires.form c.requires.stands (add-one _)
    c.open-opened.ensures.answer c.in_ok-named.ensures.answer (c.in_ok-listed.ensures.reads c.args.self.now.source.now _) c.in_ok-given.ensures
    c.in_err-ended.ensures.answer)

pub call-close_row-requires : goal.call-close_row-requires
call-close_row-requires t c =
    closable c.args.self.now.source.now _ c.args.self.now.tokens_good _ {t = c.args.rows.now} c.requires.stands
    (call c.args.self.now.source.now _ c.args.self.now.tokens_good _ c.requires.form c.requires.stands (add-one _)
    c.open-opened.ensures.answer c.in_ok-named.ensures.answer (c.in_ok-listed.ensures.reads c.args.self.now.source.now _) c.in_ok-given.ensures
    c.in_ok-ended.ensures.answer)

pub call-returns : goal.call-returns
call-returns t c =
    row_read c.args.self.now.source.now _ c.args.self.now.tokens_good _
    (call c.args.self.now.source.now _ c.args.self.now.tokens_good _ c.requires.form c.requires.stands (add-one _)
    c.open-opened.ensures.answer c.in_ok-named.ensures.answer (c.in_ok-listed.ensures.reads c.args.self.now.source.now _) c.in_ok-given.ensures
    c.in_ok-ended.ensures.answer)
    (omega arith) c.close_row.ensures.answer c.close_row.ensures.table

pub call-take-requires : goal.call-take-requires
call-take-requires t c = wide c.open-opened.ensures.stands

pub call-expressions-requires : goal.call-expressions-requires
call-expressions-requires t c = (omega (arith, c.decreases), c.in_ok-listed.ensures.arrives)

pub call-take-requires-2 : goal.call-take-requires-2
call-take-requires-2 t c = wide (arrived c.in_ok-given.ensures)

-- `cast`

pub cast-open-opened-requires-clause-some : goal.cast-open-opened-requires-clause-some
cast-open-opened-requires-clause-some t c = some_kind expression no_expression _ c.requires.form

pub cast-returns-in_err-selected : goal.cast-returns-in_err-selected
cast-returns-in_err-selected t c =
    leaves _ _ c.from_residual-in_err-selected.ensures.1
    (pointer_cast c.args.self.now.source.now _ c.args.self.now.tokens_good _ c.requires.form c.requires.stands (add-one _)
    c.open-opened.ensures.answer c.next_is-pointer.ensures c.if-pointer.true (c.in_ok-typed.ensures.reads c.args.self.now.source.now _)
    c.in_ok-valued.ensures (c.in_err-selected.ensures.reads _))

pub cast-close_row-requires : goal.cast-close_row-requires
cast-close_row-requires t c =
    closable c.args.self.now.source.now _ c.args.self.now.tokens_good _ {t = c.args.rows.now} c.requires.stands
    (pointer_cast c.args.self.now.source.now _ c.args.self.now.tokens_good _ c.requires.form c.requires.stands (add-one _)
    c.open-opened.ensures.answer c.next_is-pointer.ensures c.if-pointer.true (c.in_ok-typed.ensures.reads c.args.self.now.source.now _)
    c.in_ok-valued.ensures (c.in_ok-selected.ensures.reads _))

pub cast-returns-then-pointer : goal.cast-returns-then-pointer
cast-returns-then-pointer t c =
    row_read c.args.self.now.source.now _ c.args.self.now.tokens_good _
    (pointer_cast c.args.self.now.source.now _ c.args.self.now.tokens_good _ c.requires.form c.requires.stands (add-one _)
    c.open-opened.ensures.answer c.next_is-pointer.ensures c.if-pointer.true (c.in_ok-typed.ensures.reads c.args.self.now.source.now _)
    c.in_ok-valued.ensures (c.in_ok-selected.ensures.reads _))
    (omega arith) c.close_row.ensures.answer c.close_row.ensures.table

pub cast-close_row-requires-2 : goal.cast-close_row-requires-2
cast-close_row-requires-2 t c =
    closable c.args.self.now.source.now _ c.args.self.now.tokens_good _ {t = c.args.rows.now} c.requires.stands
    (plain_cast c.args.self.now.source.now _ c.args.self.now.tokens_good _ c.requires.form c.requires.stands (add-one _)
    c.open-opened.ensures.answer c.next_is-pointer.ensures c.if-pointer.false (c.in_ok-typed.ensures.reads c.args.self.now.source.now _)
    c.in_ok-valued.ensures)

pub cast-returns : goal.cast-returns
cast-returns t c =
    row_read c.args.self.now.source.now _ c.args.self.now.tokens_good _
    (plain_cast c.args.self.now.source.now _ c.args.self.now.tokens_good _ c.requires.form c.requires.stands (add-one _)
    c.open-opened.ensures.answer c.next_is-pointer.ensures c.if-pointer.false (c.in_ok-typed.ensures.reads c.args.self.now.source.now _)
    c.in_ok-valued.ensures)
    (omega arith) c.close_row-2.ensures.answer c.close_row-2.ensures.table

pub cast-returns-in_err-typed : goal.cast-returns-in_err-typed
cast-returns-in_err-typed t c =
    leaves _ _ c.from_residual.ensures.1
    (cast_refused c.args.self.now.source.now _ c.args.self.now.tokens_good _ c.requires.form c.requires.stands (add-one _)
    c.open-opened.ensures.answer (c.in_err-typed.ensures.reads _ _) passed)

pub cast-returns-in_err-valued : goal.cast-returns-in_err-valued
cast-returns-in_err-valued t c =
    leaves _ _ c.from_residual-in_err-valued.ensures.1
    (cast_refused c.args.self.now.source.now _ c.args.self.now.tokens_good _ c.requires.form c.requires.stands (add-one _)
    c.open-opened.ensures.answer (c.in_ok-typed.ensures.reads _ _) c.in_err-valued.ensures)

pub cast-read_type-requires : goal.cast-read_type-requires
cast-read_type-requires t c = wide c.open-opened.ensures.stands

pub cast-expression-requires : goal.cast-expression-requires
cast-expression-requires t c = (omega (arith, c.decreases), wide c.in_ok-typed.ensures.arrives)

pub cast-selector-requires : goal.cast-selector-requires
cast-selector-requires t c = arrived c.in_ok-valued.ensures

-- `defer`

pub defer-open-opened-requires-clause-some : goal.defer-open-opened-requires-clause-some
defer-open-opened-requires-clause-some t c = some_kind statement no_statement _ c.requires.form

pub defer-returns-in_err-ended : goal.defer-returns-in_err-ended
defer-returns-in_err-ended t c =
    leaves _ _ c.from_residual.ensures.1
    (defer_block c.args.self.now.source.now _ c.args.self.now.tokens_good _ c.requires.form c.requires.stands (add-one _)
    c.open-opened.ensures.answer c.in_err-ended.ensures.reads)

pub defer-close_row-requires : goal.defer-close_row-requires
defer-close_row-requires t c =
    closable _ _ c.args.self.now.tokens_good _ {t = c.args.rows.now} c.requires.stands
    (defer_block c.args.self.now.source.now _ c.args.self.now.tokens_good _ c.requires.form c.requires.stands (add-one _)
    c.open-opened.ensures.answer c.in_ok-ended.ensures.reads)

pub defer-returns : goal.defer-returns
defer-returns t c =
    row_read _ _ c.args.self.now.tokens_good _
    (defer_block c.args.self.now.source.now _ c.args.self.now.tokens_good _ c.requires.form c.requires.stands (add-one _)
    c.open-opened.ensures.answer c.in_ok-ended.ensures.reads)
    (omega arith) c.close_row.ensures.answer c.close_row.ensures.table

pub defer-block-requires : goal.defer-block-requires
defer-block-requires t c = (omega (arith, c.decreases), wide c.open-opened.ensures.stands)

-- `elements`

pub elements-open-opened-requires-clause-some : goal.elements-open-opened-requires-clause-some
elements-open-opened-requires-clause-some t c =
    some_alternative expression no_expression _ (λ z.
    let some = elements_some c.requires.elements in
    absurd (omega (arith, z, some)))

pub elements-returns-in_err-typed : goal.elements-returns-in_err-typed
unfolding taken_by
elements-returns-in_err-typed t c =
    leaves _ _ c.from_residual.ensures.1
    (elements c.args.self.now.source.now _ c.args.self.now.tokens_good _ c.requires.elements refl c.requires.stands
    (add-one _) c.open-opened.ensures.answer (c.in_err-typed.ensures.reads c.args.self.now.source.now _) refl passed refl)

pub elements-returns-in_err-marked : goal.elements-returns-in_err-marked
unfolding taken_by
elements-returns-in_err-marked t c =
    leaves _ _ c.from_residual-in_err-marked.ensures.1
    (elements c.args.self.now.source.now _ c.args.self.now.tokens_good _ c.requires.elements refl c.requires.stands
    (add-one _) c.open-opened.ensures.answer (c.in_ok-typed.ensures.reads c.args.self.now.source.now _)
    c.in_err-marked.ensures.answer passed refl)

pub elements-returns-in_err-held : goal.elements-returns-in_err-held
unfolding taken_by
elements-returns-in_err-held t c =
    leaves _ _ c.from_residual-in_err-held.ensures.1
    (elements c.args.self.now.source.now _ c.args.self.now.tokens_good _ c.requires.elements refl c.requires.stands
    (add-one _) c.open-opened.ensures.answer (c.in_ok-typed.ensures.reads c.args.self.now.source.now _)
    c.in_ok-marked.ensures.answer c.in_err-held.ensures refl)

pub elements-returns-in_err-ended : goal.elements-returns-in_err-ended
elements-returns-in_err-ended t c =
    leaves _ _ c.from_residual-in_err-ended.ensures.1
    (elements c.args.self.now.source.now _ c.args.self.now.tokens_good _ c.requires.elements refl c.requires.stands
    (add-one _) c.open-opened.ensures.answer (c.in_ok-typed.ensures.reads c.args.self.now.source.now _)
    c.in_ok-marked.ensures.answer c.in_ok-held.ensures c.in_err-ended.ensures.answer)

pub elements-close_row-requires : goal.elements-close_row-requires
elements-close_row-requires t c =
    closable c.args.self.now.source.now _ c.args.self.now.tokens_good _ {t = c.args.rows.now} c.requires.stands
    (elements c.args.self.now.source.now _ c.args.self.now.tokens_good _ c.requires.elements refl c.requires.stands
    (add-one _) c.open-opened.ensures.answer (c.in_ok-typed.ensures.reads c.args.self.now.source.now _)
    c.in_ok-marked.ensures.answer c.in_ok-held.ensures c.in_ok-ended.ensures.answer)

pub elements-returns : goal.elements-returns
elements-returns t c =
    row_read c.args.self.now.source.now _ c.args.self.now.tokens_good _
    (elements c.args.self.now.source.now _ c.args.self.now.tokens_good _ c.requires.elements refl c.requires.stands
    (add-one _) c.open-opened.ensures.answer (c.in_ok-typed.ensures.reads c.args.self.now.source.now _)
    c.in_ok-marked.ensures.answer c.in_ok-held.ensures c.in_ok-ended.ensures.answer)
    (omega arith) c.close_row.ensures.answer c.close_row.ensures.table

pub elements-read_type-requires : goal.elements-read_type-requires
elements-read_type-requires t c = wide c.open-opened.ensures.stands

pub elements-take-requires : goal.elements-take-requires
elements-take-requires t c = wide c.in_ok-typed.ensures.arrives

pub elements-expressions-requires : goal.elements-expressions-requires
elements-expressions-requires t c = (omega (arith, c.decreases), c.in_ok-marked.ensures.arrives)

pub elements-take-requires-2 : goal.elements-take-requires-2
elements-take-requires-2 t c = wide (arrived c.in_ok-held.ensures)

-- `expression`

pub expression-returns-in_default : goal.expression-returns-in_default
expression-returns-in_default t c =
    rw c.no_program.ensures
    (expression_stuck c.args.self.now.source.now _ c.args.self.now.tokens_good _ _
    (none_number expression_form_number expression c.kind.ensures c.expression_form.ensures c.in_default.is))

pub expression-returns-in_err-below : goal.expression-returns-in_err-below
expression-returns-in_err-below t c =
    no_level _ _ c.from_residual.ensures.1 c.in_err-below.ensures.stops
    (expression-deep c.args.self.now.source.now _ c.args.self.now.tokens_good _ _
    (some_number expression_form_number expression expression_begins c.kind.ensures c.expression_form.ensures c.in-Some.is))

pub expression-leaf-requires-clause-some : goal.expression-leaf-requires-clause-some
expression-leaf-requires-clause-some t c =
    some_kind expression no_expression _
    (expression_here c.kind.ensures c.expression_form.ensures c.in-Some.is c.in-Literal.is)

pub expression-leaf-requires-in-Name-clause-some : goal.expression-leaf-requires-in-Name-clause-some
expression-leaf-requires-in-Name-clause-some t c =
    some_kind expression no_expression _
    (expression_here c.kind.ensures c.expression_form.ensures c.in-Some.is c.in-Name.is)

pub expression-operation-requires : goal.expression-operation-requires
expression-operation-requires t c =
    let is = expression_here c.kind.ensures c.expression_form.ensures c.in-Some.is c.in-Binary.is in
    (omega (arith, c.decreases, c.in_ok-below.ensures.goes), (c.requires, rw is binary))

pub expression-operation-requires-in-Not : goal.expression-operation-requires-in-Not
expression-operation-requires-in-Not t c =
    let is = expression_here c.kind.ensures c.expression_form.ensures c.in-Some.is c.in-Not.is in
    (omega (arith, c.decreases, c.in_ok-below.ensures.goes), (c.requires, rw is negation))

pub expression-operation-requires-in-Return : goal.expression-operation-requires-in-Return
expression-operation-requires-in-Return t c =
    let is = expression_here c.kind.ensures c.expression_form.ensures c.in-Some.is c.in-Return.is in
    (omega (arith, c.decreases, c.in_ok-below.ensures.goes), (c.requires, rw is return))

pub expression-operation-requires-in-Complement : goal.expression-operation-requires-in-Complement
expression-operation-requires-in-Complement t c =
    let is = expression_here c.kind.ensures c.expression_form.ensures c.in-Some.is c.in-Complement.is in
    (omega (arith, c.decreases, c.in_ok-below.ensures.goes), (c.requires, rw is complement))

pub expression-operation-requires-in-Conditional : goal.expression-operation-requires-in-Conditional
expression-operation-requires-in-Conditional t c =
    let is = expression_here c.kind.ensures c.expression_form.ensures c.in-Some.is c.in-Conditional.is in
    (omega (arith, c.decreases, c.in_ok-below.ensures.goes), (c.requires, rw is conditional))

pub expression-operation-requires-in-Member : goal.expression-operation-requires-in-Member
expression-operation-requires-in-Member t c =
    let is = expression_here c.kind.ensures c.expression_form.ensures c.in-Some.is c.in-Member.is in
    (omega (arith, c.decreases, c.in_ok-below.ensures.goes), (c.requires, rw is member))

pub expression-try_or_closure-requires : goal.expression-try_or_closure-requires
expression-try_or_closure-requires t c =
    let is = expression_here c.kind.ensures c.expression_form.ensures c.in-Some.is c.in-Try.is in
    (omega (arith, c.decreases, c.in_ok-below.ensures.goes), (c.requires, is))

pub expression-call-requires : goal.expression-call-requires
expression-call-requires t c =
    let is = expression_here c.kind.ensures c.expression_form.ensures c.in-Some.is c.in-Call.is in
    (omega (arith, c.decreases, c.in_ok-below.ensures.goes), (c.requires, is))

pub expression-cast-requires : goal.expression-cast-requires
expression-cast-requires t c =
    let is = expression_here c.kind.ensures c.expression_form.ensures c.in-Some.is c.in-Cast.is in
    (omega (arith, c.decreases, c.in_ok-below.ensures.goes), (c.requires, is))

pub expression-match_expression-requires : goal.expression-match_expression-requires
expression-match_expression-requires t c =
    let is = expression_here c.kind.ensures c.expression_form.ensures c.in-Some.is c.in-Match.is in
    (omega (arith, c.decreases, c.in_ok-below.ensures.goes), (c.requires, is))

pub expression-elements-requires : goal.expression-elements-requires
expression-elements-requires t c =
    let is = expression_here c.kind.ensures c.expression_form.ensures c.in-Some.is c.in-Slice.is in
    (omega (arith, c.decreases, c.in_ok-below.ensures.goes), (c.requires, rw is slice_elements))

pub expression-elements-requires-in-Aggregate : goal.expression-elements-requires-in-Aggregate
expression-elements-requires-in-Aggregate t c =
    let is = expression_here c.kind.ensures c.expression_form.ensures c.in-Some.is c.in-Aggregate.is in
    (omega (arith, c.decreases, c.in_ok-below.ensures.goes), (c.requires, rw is aggregate_elements))

pub expression-size_of-requires-clause-form : goal.expression-size_of-requires-clause-form
expression-size_of-requires-clause-form t c =
    expression_here c.kind.ensures c.expression_form.ensures c.in-Some.is c.in-Sizeof.is

pub expression-returns-in-Literal : goal.expression-returns-in-Literal
expression-returns-in-Literal t c =
    literal-expression c.args.self.now.source.now _ c.args.self.now.tokens_good _
    (expression_here c.kind.ensures c.expression_form.ensures c.in-Some.is c.in-Literal.is)
    c.requires (c.in_ok-below.ensures.goes ∙ add-one _) c.leaf.ensures.answer c.leaf.ensures.table

pub expression-returns-in-Name : goal.expression-returns-in-Name
expression-returns-in-Name t c =
    name_expression c.args.self.now.source.now _ c.args.self.now.tokens_good _
    (expression_here c.kind.ensures c.expression_form.ensures c.in-Some.is c.in-Name.is)
    c.requires (c.in_ok-below.ensures.goes ∙ add-one _) c.leaf-in-Name.ensures.answer c.leaf-in-Name.ensures.table

pub expression-returns-in-Block : goal.expression-returns-in-Block
expression-returns-in-Block t c =
    block_passes c.args.self.now.source.now _ c.args.self.now.tokens_good _
    (expression_here c.kind.ensures c.expression_form.ensures c.in-Some.is c.in-Block.is)
    c.requires c.block.ensures.reads

pub expression-block-requires : goal.expression-block-requires
expression-block-requires t c = (omega (arith, c.decreases), c.requires)

pub expression-returns-in-Binary : goal.expression-returns-in-Binary
expression-returns-in-Binary t c = same_level _ c.in_ok-below.ensures.goes c.operation.ensures

pub expression-returns-in-Not : goal.expression-returns-in-Not
expression-returns-in-Not t c = same_level _ c.in_ok-below.ensures.goes c.operation-in-Not.ensures

pub expression-returns-in-Return : goal.expression-returns-in-Return
expression-returns-in-Return t c = same_level _ c.in_ok-below.ensures.goes c.operation-in-Return.ensures

pub expression-returns-in-Complement : goal.expression-returns-in-Complement
expression-returns-in-Complement t c = same_level _ c.in_ok-below.ensures.goes c.operation-in-Complement.ensures

pub expression-returns-in-Try : goal.expression-returns-in-Try
expression-returns-in-Try t c = same_level _ c.in_ok-below.ensures.goes c.try_or_closure.ensures

pub expression-returns-in-Conditional : goal.expression-returns-in-Conditional
expression-returns-in-Conditional t c = same_level _ c.in_ok-below.ensures.goes c.operation-in-Conditional.ensures

pub expression-returns-in-Call : goal.expression-returns-in-Call
expression-returns-in-Call t c = same_level _ c.in_ok-below.ensures.goes c.call.ensures

pub expression-returns-in-Slice : goal.expression-returns-in-Slice
expression-returns-in-Slice t c = same_level _ c.in_ok-below.ensures.goes c.elements.ensures

pub expression-returns-in-Aggregate : goal.expression-returns-in-Aggregate
expression-returns-in-Aggregate t c = same_level _ c.in_ok-below.ensures.goes c.elements-in-Aggregate.ensures

pub expression-returns-in-Member : goal.expression-returns-in-Member
expression-returns-in-Member t c = same_level _ c.in_ok-below.ensures.goes c.operation-in-Member.ensures

pub expression-returns-in-Cast : goal.expression-returns-in-Cast
expression-returns-in-Cast t c = same_level _ c.in_ok-below.ensures.goes c.cast.ensures

pub expression-returns-in-Match : goal.expression-returns-in-Match
expression-returns-in-Match t c = same_level _ c.in_ok-below.ensures.goes c.match_expression.ensures

pub expression-returns-in-Sizeof : goal.expression-returns-in-Sizeof
expression-returns-in-Sizeof t c = same_level _ c.in_ok-below.ensures.goes (c.size_of.ensures.reads _ _)

-- `expressions`

pub expressions-repeated-requires : goal.expressions-repeated-requires
expressions-repeated-requires t c κs = (
  (refl, tt),
  (
    c.requires,
    (
      search (of_calls, rules),
      λ of rows at is stands asks. (
        (omega (arith, c.decreases), rw is (wide stands)),
        λ result after one. goes_on _ of _ _ _ expression at result _ _ is one.1,
      ),
    ),
  ),
)

pub expressions-returns : goal.expressions-returns
expressions-returns t c =
    c.repeated.ensures.reads _ _ _
    (repeats_by c.args.self.now _ expressionList expression (λ r s. begins_part expression r.tokens.now s)
    (λ of at b asks. asks.1) (λ of rows after at result one. one.1)
    (expressions_list _ _ c.args.self.now.tokens_good _))

-- `let_statement`

pub let_statement-open-opened-requires-clause-some : goal.let_statement-open-opened-requires-clause-some
let_statement-open-opened-requires-clause-some t c = some_kind statement no_statement _ c.requires.form

pub let_statement-returns-in_err-typed : goal.let_statement-returns-in_err-typed
let_statement-returns-in_err-typed t c =
    leaves _ _ c.from_residual.ensures.1
    (let_typed c.args.self.now.source.now _ c.args.self.now.tokens_good _ c.requires.form c.requires.stands (add-one _) c.open-opened.ensures.answer
    c.take_if-mutable.ensures.answer (sym c.plain_name.ensures ∙ c.if-plain_name.false) (c.in_err-typed.ensures.reads _ _))

-- where the name is next
let_begun : (t : ℕ) (c : let_statement-Joined-plain_name t)
    → Begun c.args.self.now c.args.below let_row statement (token name ∷ derived expression ∷ []) c.args.from c.args.rows.now
    c.if-plain_name.typed c.if-plain_name.rows
let_begun t c =
    elim c.if-plain_name.branch [
      | let_statement-then-plain_name w ↦ rw (w.typed-is, w.rows-is)
          (let_plain c.args.self.now.source.now _ c.args.self.now.tokens_good _ c.requires.form c.requires.stands (add-one _) c.open-opened.ensures.answer
          c.take_if-mutable.ensures.answer (sym c.plain_name.ensures ∙ w.if-plain_name.true))
      | let_statement-else-plain_name+in_ok-typed w ↦ rw (w.typed-is, w.rows-is)
          (let_typed c.args.self.now.source.now _ c.args.self.now.tokens_good _ c.requires.form c.requires.stands (add-one _) c.open-opened.ensures.answer
          c.take_if-mutable.ensures.answer (sym c.plain_name.ensures ∙ w.if-plain_name.false) (w.in_ok-typed.ensures.reads _ _))
    ]

pub let_statement-take-requires : goal.let_statement-take-requires
let_statement-take-requires t c =
    wide (after_within productions _ _ _ (names_fixed _ _ c.args.self.now.tokens_good _)
    (let_begun t (goal.at.let_statement-take-requires t c).Joined-plain_name))

pub let_statement-returns-in_err-named : goal.let_statement-returns-in_err-named
let_statement-returns-in_err-named t c =
    leaves _ _ c.from_residual-in_err-named.ensures.1
    (let_valued c.args.self.now.source.now _ c.args.self.now.tokens_good _ (let_begun t (goal.at.let_statement-returns-in_err-named t c).Joined-plain_name)
    c.in_err-named.ensures.answer passed)

pub let_statement-returns-in_err-valued : goal.let_statement-returns-in_err-valued
let_statement-returns-in_err-valued t c =
    leaves _ _ c.from_residual-in_err-valued.ensures.1
    (let_valued c.args.self.now.source.now _ c.args.self.now.tokens_good _ (let_begun t (goal.at.let_statement-returns-in_err-valued t c).Joined-plain_name)
    c.in_ok-named.ensures.answer c.in_err-valued.ensures)

pub let_statement-close_row-requires : goal.let_statement-close_row-requires
let_statement-close_row-requires t c =
    closable _ _ c.args.self.now.tokens_good _ {t = c.args.rows.now} c.requires.stands
    (let_valued c.args.self.now.source.now _ c.args.self.now.tokens_good _ (let_begun t (goal.at.let_statement-close_row-requires t c).Joined-plain_name)
    c.in_ok-named.ensures.answer c.in_ok-valued.ensures)

pub let_statement-returns : goal.let_statement-returns
let_statement-returns t c =
    row_read _ _ c.args.self.now.tokens_good _
    (let_valued c.args.self.now.source.now _ c.args.self.now.tokens_good _ (let_begun t (goal.at.let_statement-returns t c).Joined-plain_name)
    c.in_ok-named.ensures.answer c.in_ok-valued.ensures)
    (omega arith) c.close_row.ensures.answer c.close_row.ensures.table

pub let_statement-read_type-requires : goal.let_statement-read_type-requires
let_statement-read_type-requires t c = wide c.take_if-mutable.ensures.stands

pub let_statement-expression-requires : goal.let_statement-expression-requires
let_statement-expression-requires t c = (omega (arith, c.decreases), wide c.in_ok-named.ensures.arrives)

-- `match_expression`

pub match_expression-open-opened-requires-clause-some : goal.match_expression-open-opened-requires-clause-some
match_expression-open-opened-requires-clause-some t c = some_kind expression no_expression _ c.requires.form

pub match_expression-returns-in_err-matched : goal.match_expression-returns-in_err-matched
unfolding taken_by
match_expression-returns-in_err-matched t c =
    leaves _ _ c.from_residual.ensures.1
    (match_expression c.args.self.now.source.now _ c.args.self.now.tokens_good _ c.requires.form c.requires.stands
    (add-one _) c.open-opened.ensures.answer c.in_err-matched.ensures refl passed refl)

pub match_expression-returns-in_err-braced : goal.match_expression-returns-in_err-braced
unfolding taken_by
match_expression-returns-in_err-braced t c =
    leaves _ _ c.from_residual-in_err-braced.ensures.1
    (match_expression c.args.self.now.source.now _ c.args.self.now.tokens_good _ c.requires.form c.requires.stands
    (add-one _) c.open-opened.ensures.answer c.in_ok-matched.ensures c.in_err-braced.ensures.answer passed refl)

pub match_expression-returns-in_err-listed : goal.match_expression-returns-in_err-listed
unfolding taken_by
match_expression-returns-in_err-listed t c =
    leaves _ _ c.from_residual-in_err-listed.ensures.1
    (match_expression c.args.self.now.source.now _ c.args.self.now.tokens_good _ c.requires.form c.requires.stands
    (add-one _) c.open-opened.ensures.answer c.in_ok-matched.ensures c.in_ok-braced.ensures.answer
    c.in_err-listed.ensures refl)

pub match_expression-returns-in_err-ended : goal.match_expression-returns-in_err-ended
match_expression-returns-in_err-ended t c =
    leaves _ _ c.from_residual-in_err-ended.ensures.1
    (match_expression c.args.self.now.source.now _ c.args.self.now.tokens_good _ c.requires.form c.requires.stands
    (add-one _) c.open-opened.ensures.answer c.in_ok-matched.ensures c.in_ok-braced.ensures.answer
    c.in_ok-listed.ensures c.in_err-ended.ensures.answer)

pub match_expression-close_row-requires : goal.match_expression-close_row-requires
match_expression-close_row-requires t c =
    closable c.args.self.now.source.now _ c.args.self.now.tokens_good _ {t = c.args.rows.now} c.requires.stands
    (match_expression c.args.self.now.source.now _ c.args.self.now.tokens_good _ c.requires.form c.requires.stands
    (add-one _) c.open-opened.ensures.answer c.in_ok-matched.ensures c.in_ok-braced.ensures.answer
    c.in_ok-listed.ensures c.in_ok-ended.ensures.answer)

pub match_expression-returns : goal.match_expression-returns
match_expression-returns t c =
    row_read c.args.self.now.source.now _ c.args.self.now.tokens_good _
    (match_expression c.args.self.now.source.now _ c.args.self.now.tokens_good _ c.requires.form c.requires.stands
    (add-one _) c.open-opened.ensures.answer c.in_ok-matched.ensures c.in_ok-braced.ensures.answer
    c.in_ok-listed.ensures c.in_ok-ended.ensures.answer)
    (omega arith) c.close_row.ensures.answer c.close_row.ensures.table

pub match_expression-expression-requires : goal.match_expression-expression-requires
match_expression-expression-requires t c = (omega (arith, c.decreases), wide c.open-opened.ensures.stands)

pub match_expression-take-requires : goal.match_expression-take-requires
match_expression-take-requires t c = wide (arrived c.in_ok-matched.ensures)

pub match_expression-arms-requires : goal.match_expression-arms-requires
match_expression-arms-requires t c = (omega (arith, c.decreases), c.in_ok-braced.ensures.arrives)

pub match_expression-take-requires-2 : goal.match_expression-take-requires-2
match_expression-take-requires-2 t c = wide (arrived c.in_ok-listed.ensures)

-- `operation`

pub operation-open-place-requires-clause-some : goal.operation-open-place-requires-clause-some
operation-open-place-requires-clause-some t c =
    some_alternative expression no_expression _ (λ z.
    let some = operation_some c.requires.operation in
    absurd (omega (arith, z, some)))

pub operation-loop-init : goal.operation-loop-init
operation-loop-init t c = (
  omega arith,
  rw sub-zero
      (operation c.args.self.now.source.now _ c.args.self.now.tokens_good _ c.requires.operation refl c.requires.stands (add-one _)
      c.open-place.ensures.answer),
)

pub operation-expression-requires : goal.operation-expression-requires
operation-expression-requires t c = (
  omega (arith, c.decreases),
  wide (after_within productions _ _ _ (names_fixed c.args.self.now.source.now _ c.args.self.now.tokens_good _) c.loop.invariant.1),
)

pub operation-returns-in_err-place : goal.operation-returns-in_err-place
operation-returns-in_err-place t c =
    leaves _ _ c.from_residual.ensures.1
    (operand productions _ _ _ (names_fixed c.args.self.now.source.now _ c.args.self.now.tokens_good _) _ _ (omega (arith, c.loop-test.true))
    c.loop.invariant.1 c.in_err-place.ensures)

pub operation-loop-preserved : goal.operation-loop-preserved
operation-loop-preserved t c = (
  omega (arith, c.loop-test.true),
  operand productions _ _ _ (names_fixed c.args.self.now.source.now _ c.args.self.now.tokens_good _) _ _ (omega (arith, c.loop-test.true))
      c.loop.invariant.1 c.in_ok-place.ensures,
)

pub operation-close_row-requires : goal.operation-close_row-requires
operation-close_row-requires t c =
    closable c.args.self.now.source.now _ c.args.self.now.tokens_good _ c.requires.stands c.loop.invariant.1

pub operation-returns : goal.operation-returns
operation-returns t c =
    let all : c.args.operands - c.loop.counter ≡ 0 = omega (arith, c.loop-test.false) in
    row_read c.args.self.now.source.now _ c.args.self.now.tokens_good _ (rw all at c.loop.invariant.1) (omega arith)
    c.close_row.ensures.answer c.close_row.ensures.table

-- `statement`

pub statement-returns-in_default : goal.statement-returns-in_default
statement-returns-in_default t c =
    let here = none_number statement_form_number statement c.kind.ensures c.statement_form.ensures c.in_default.is in
    rw c.no_program.ensures (statement_stuck c.args.self.now.source.now _ c.args.self.now.tokens_good _ _ here)

pub statement-returns-then-eq : goal.statement-returns-then-eq
statement-returns-then-eq t c =
    let is = same_true the_type _ c.in-Some.form Expression (sym c.eq.ensures ∙ c.if-eq.true) in
    let here = form_number statement_form_number statement c.kind.ensures c.statement_form.ensures c.in-Some.is is in
    statement_expression c.args.self.now.source.now _ c.args.self.now.tokens_good _ here c.requires c.expression.ensures

pub statement-returns-in_err-below : goal.statement-returns-in_err-below
statement-returns-in_err-below t c =
    let here = form_number statement_form_number statement c.kind.ensures c.statement_form.ensures c.in-Some.is refl in
    let more = more_than_expression _ (same_false the_type c.in-Some.form Expression (sym c.eq.ensures ∙ c.if-eq.false)) in
    no_level _ _ c.from_residual.ensures.1 c.in_err-below.ensures.stops
    (statement_deep c.args.self.now.source.now _ c.args.self.now.tokens_good _ _ (omega (arith, here, more)))

pub statement-tilde_statement-requires : goal.statement-tilde_statement-requires
statement-tilde_statement-requires t c =
    let other = same_false the_type c.in-Some.form Expression (sym c.eq.ensures ∙ c.if-eq.false) in
    let is = tilde_left _ other c.in_default-form.not-Let c.in_default-form.not-Assignment c.in_default-form.not-Defer in (
      omega (arith, c.decreases, c.in_ok-below.ensures.goes),
      (c.requires, form_number statement_form_number statement c.kind.ensures c.statement_form.ensures c.in-Some.is is),
    )

pub statement-expression-requires : goal.statement-expression-requires
statement-expression-requires t c = (omega (arith, c.decreases), c.requires)

pub statement-let_statement-requires : goal.statement-let_statement-requires
statement-let_statement-requires t c =
    let is = form_number statement_form_number statement c.kind.ensures c.statement_form.ensures c.in-Some.is c.in-Let.is in
    (omega (arith, c.decreases, c.in_ok-below.ensures.goes), (c.requires, is))

pub statement-assignment-requires : goal.statement-assignment-requires
statement-assignment-requires t c =
    let is = form_number statement_form_number statement c.kind.ensures c.statement_form.ensures c.in-Some.is c.in-Assignment.is in
    (omega (arith, c.decreases, c.in_ok-below.ensures.goes), (c.requires, is))

pub statement-defer-requires : goal.statement-defer-requires
statement-defer-requires t c =
    let is = form_number statement_form_number statement c.kind.ensures c.statement_form.ensures c.in-Some.is c.in-Defer.is in
    (omega (arith, c.decreases, c.in_ok-below.ensures.goes), (c.requires, is))

pub statement-returns-in-Let : goal.statement-returns-in-Let
statement-returns-in-Let t c = same_level _ c.in_ok-below.ensures.goes c.let_statement.ensures

pub statement-returns-in-Assignment : goal.statement-returns-in-Assignment
statement-returns-in-Assignment t c = same_level _ c.in_ok-below.ensures.goes c.assignment.ensures

pub statement-returns-in-Defer : goal.statement-returns-in-Defer
statement-returns-in-Defer t c = same_level _ c.in_ok-below.ensures.goes c.defer.ensures

pub statement-returns-in_default-form : goal.statement-returns-in_default-form
statement-returns-in_default-form t c = same_level _ c.in_ok-below.ensures.goes c.tilde_statement.ensures

-- `statements`

pub statements-repeated-requires : goal.statements-repeated-requires
statements-repeated-requires t c κs = (
  (refl, tt),
  (
    c.requires,
    (
      search (of_calls, rules),
      λ of rows at is stands asks. (
        (omega (arith, c.decreases), rw is (wide stands)),
        λ result after one. goes_on _ of _ _ _ statement at result _ _ is one.1,
      ),
    ),
  ),
)

pub statements-returns : goal.statements-returns
statements-returns t c =
    c.repeated.ensures.reads _ _ _
    (repeats_by c.args.self.now _ statementList statement (λ r s. begins_part statement r.tokens.now s)
    (λ of at b asks. asks.1) (λ of rows after at result one. one.1)
    (statements_list c.args.self.now.source.now _ c.args.self.now.tokens_good _))

-- `tilde_statement`

pub tilde_statement-open-opened-requires-clause-some : goal.tilde_statement-open-opened-requires-clause-some
tilde_statement-open-opened-requires-clause-some t c = some_kind statement no_statement _ c.requires.form

pub tilde_statement-returns-in_err-named : goal.tilde_statement-returns-in_err-named
tilde_statement-returns-in_err-named t c =
    leaves _ _ c.from_residual.ensures.1
    (for_each c.args.self.now.source.now _ c.args.self.now.tokens_good _ c.requires.form c.requires.stands (add-one _)
    c.open-opened.ensures.answer (sym (c.two_names.ensures _ _) ∙ c.if-two_names.true) c.in_err-named.ensures.answer passed
    passed)

pub tilde_statement-returns-in_err-listed : goal.tilde_statement-returns-in_err-listed
tilde_statement-returns-in_err-listed t c =
    leaves _ _ c.from_residual-in_err-listed.ensures.1
    (for_each c.args.self.now.source.now _ c.args.self.now.tokens_good _ c.requires.form c.requires.stands (add-one _)
    c.open-opened.ensures.answer (sym (c.two_names.ensures _ _) ∙ c.if-two_names.true) c.in_ok-named.ensures.answer
    c.in_err-listed.ensures passed)

pub tilde_statement-returns-in_err-ended : goal.tilde_statement-returns-in_err-ended
tilde_statement-returns-in_err-ended t c =
    leaves _ _ c.from_residual-in_err-ended.ensures.1
    (for_each c.args.self.now.source.now _ c.args.self.now.tokens_good _ c.requires.form c.requires.stands (add-one _)
    c.open-opened.ensures.answer (sym (c.two_names.ensures _ _) ∙ c.if-two_names.true) c.in_ok-named.ensures.answer
    c.in_ok-listed.ensures c.in_err-ended.ensures.reads)

pub tilde_statement-close_row-requires : goal.tilde_statement-close_row-requires
tilde_statement-close_row-requires t c =
    closable _ _ c.args.self.now.tokens_good _ {t = c.args.rows.now} c.requires.stands
    (for_each c.args.self.now.source.now _ c.args.self.now.tokens_good _ c.requires.form c.requires.stands (add-one _)
    c.open-opened.ensures.answer (sym (c.two_names.ensures _ _) ∙ c.if-two_names.true) c.in_ok-named.ensures.answer
    c.in_ok-listed.ensures c.in_ok-ended.ensures.reads)

pub tilde_statement-returns-then-two_names : goal.tilde_statement-returns-then-two_names
tilde_statement-returns-then-two_names t c =
    row_read _ _ c.args.self.now.tokens_good _
    (for_each c.args.self.now.source.now _ c.args.self.now.tokens_good _ c.requires.form c.requires.stands (add-one _)
    c.open-opened.ensures.answer (sym (c.two_names.ensures _ _) ∙ c.if-two_names.true) c.in_ok-named.ensures.answer
    c.in_ok-listed.ensures c.in_ok-ended.ensures.reads)
    (omega arith) c.close_row.ensures.answer c.close_row.ensures.table

pub tilde_statement-returns-in_err-ended-2 : goal.tilde_statement-returns-in_err-ended-2
tilde_statement-returns-in_err-ended-2 t c =
    leaves _ _ c.from_residual-in_err-ended-2.ensures.1
    (while_loop c.args.self.now.source.now _ c.args.self.now.tokens_good _ c.requires.form c.requires.stands (add-one _)
    c.open-opened.ensures.answer (sym (c.two_names.ensures _ _) ∙ c.if-two_names.false) c.in_ok-tested.ensures
    (sym c.next_is.ensures ∙ c.if-next_is.true) c.in_err-ended-2.ensures.reads)

pub tilde_statement-close_row-requires-then-next_is : goal.tilde_statement-close_row-requires-then-next_is
tilde_statement-close_row-requires-then-next_is t c =
    closable _ _ c.args.self.now.tokens_good _ {t = c.args.rows.now} c.requires.stands
    (while_loop c.args.self.now.source.now _ c.args.self.now.tokens_good _ c.requires.form c.requires.stands (add-one _)
    c.open-opened.ensures.answer (sym (c.two_names.ensures _ _) ∙ c.if-two_names.false) c.in_ok-tested.ensures
    (sym c.next_is.ensures ∙ c.if-next_is.true) c.in_ok-ended-2.ensures.reads)

pub tilde_statement-returns-then-next_is : goal.tilde_statement-returns-then-next_is
tilde_statement-returns-then-next_is t c =
    row_read _ _ c.args.self.now.tokens_good _
    (while_loop c.args.self.now.source.now _ c.args.self.now.tokens_good _ c.requires.form c.requires.stands (add-one _)
    c.open-opened.ensures.answer (sym (c.two_names.ensures _ _) ∙ c.if-two_names.false) c.in_ok-tested.ensures
    (sym c.next_is.ensures ∙ c.if-next_is.true) c.in_ok-ended-2.ensures.reads)
    (omega arith) c.close_row-then-next_is.ensures.answer c.close_row-then-next_is.ensures.table

pub tilde_statement-returns-in_err-tested : goal.tilde_statement-returns-in_err-tested
unfolding next_kind
tilde_statement-returns-in_err-tested t c =
    leaves _ _ c.from_residual-in_err-tested.ensures.1
    (tilde_complement c.args.self.now.source.now _ c.args.self.now.tokens_good _ c.requires.form c.requires.stands
    (add-one _) c.open-opened.ensures.answer
    (sym (c.two_names.ensures _ _) ∙ c.if-two_names.false) c.in_err-tested.ensures refl)

pub tilde_statement-close_row-requires-2 : goal.tilde_statement-close_row-requires-2
tilde_statement-close_row-requires-2 t c =
    closable _ _ c.args.self.now.tokens_good _ {t = c.args.rows.now} c.requires.stands
    (tilde_complement c.args.self.now.source.now _ c.args.self.now.tokens_good _ c.requires.form c.requires.stands
    (add-one _) c.open-opened.ensures.answer
    (sym (c.two_names.ensures _ _) ∙ c.if-two_names.false) c.in_ok-tested.ensures
    (sym c.next_is.ensures ∙ c.if-next_is.false))

pub tilde_statement-returns : goal.tilde_statement-returns
tilde_statement-returns t c =
    row_read _ _ c.args.self.now.tokens_good _
    (tilde_complement c.args.self.now.source.now _ c.args.self.now.tokens_good _ c.requires.form c.requires.stands
    (add-one _) c.open-opened.ensures.answer
    (sym (c.two_names.ensures _ _) ∙ c.if-two_names.false) c.in_ok-tested.ensures
    (sym c.next_is.ensures ∙ c.if-next_is.false))
    (omega arith) c.close_row-2.ensures.answer c.close_row-2.ensures.table

pub tilde_statement-take-requires : goal.tilde_statement-take-requires
tilde_statement-take-requires t c = wide c.open-opened.ensures.stands

pub tilde_statement-expression-requires : goal.tilde_statement-expression-requires
tilde_statement-expression-requires t c = (omega (arith, c.decreases), wide c.in_ok-named.ensures.arrives)

pub tilde_statement-block-requires : goal.tilde_statement-block-requires
tilde_statement-block-requires t c = (omega (arith, c.decreases), wide (arrived c.in_ok-listed.ensures))

pub tilde_statement-expression-requires-2 : goal.tilde_statement-expression-requires-2
tilde_statement-expression-requires-2 t c = (omega (arith, c.decreases), wide c.open-opened.ensures.stands)

pub tilde_statement-block-requires-then-next_is : goal.tilde_statement-block-requires-then-next_is
tilde_statement-block-requires-then-next_is t c = (omega (arith, c.decreases), wide (arrived c.in_ok-tested.ensures))

-- `try_or_closure`

pub try_or_closure-open-opened-requires-clause-some : goal.try_or_closure-open-opened-requires-clause-some
try_or_closure-open-opened-requires-clause-some t c = some_kind expression no_expression _ c.requires.form

pub try_or_closure-returns-in_err-listed : goal.try_or_closure-returns-in_err-listed
unfolding taken_by
try_or_closure-returns-in_err-listed t c =
    leaves _ _ c.from_residual.ensures.1
    (closure c.args.self.now.source.now _ c.args.self.now.tokens_good _ c.requires.form c.requires.stands (add-one _)
    c.open-opened.ensures.answer c.opens_closure.ensures c.if-opens_closure.true (c.in_err-listed.ensures.reads c.args.self.now.source.now _) refl
    passed passed)

pub try_or_closure-returns-in_err-marked : goal.try_or_closure-returns-in_err-marked
try_or_closure-returns-in_err-marked t c =
    leaves _ _ c.from_residual-in_err-marked.ensures.1
    (closure c.args.self.now.source.now _ c.args.self.now.tokens_good _ c.requires.form c.requires.stands (add-one _)
    c.open-opened.ensures.answer c.opens_closure.ensures c.if-opens_closure.true (c.in_ok-listed.ensures.reads c.args.self.now.source.now _)
    c.in_err-marked.ensures.answer passed passed)

pub try_or_closure-returns-in_err-typed : goal.try_or_closure-returns-in_err-typed
try_or_closure-returns-in_err-typed t c =
    leaves _ _ c.from_residual-in_err-typed.ensures.1
    (closure c.args.self.now.source.now _ c.args.self.now.tokens_good _ c.requires.form c.requires.stands (add-one _)
    c.open-opened.ensures.answer c.opens_closure.ensures c.if-opens_closure.true (c.in_ok-listed.ensures.reads c.args.self.now.source.now _)
    c.in_ok-marked.ensures.answer (c.in_err-typed.ensures.reads c.args.self.now.source.now _) passed)

pub try_or_closure-returns-in_err-ended : goal.try_or_closure-returns-in_err-ended
try_or_closure-returns-in_err-ended t c =
    leaves _ _ c.from_residual-in_err-ended.ensures.1
    (closure c.args.self.now.source.now _ c.args.self.now.tokens_good _ c.requires.form c.requires.stands (add-one _)
    c.open-opened.ensures.answer c.opens_closure.ensures c.if-opens_closure.true (c.in_ok-listed.ensures.reads c.args.self.now.source.now _)
    c.in_ok-marked.ensures.answer (c.in_ok-typed.ensures.reads c.args.self.now.source.now _) c.in_err-ended.ensures.reads)

pub try_or_closure-close_row-requires : goal.try_or_closure-close_row-requires
try_or_closure-close_row-requires t c =
    closable c.args.self.now.source.now _ c.args.self.now.tokens_good _ {t = c.args.rows.now} c.requires.stands
    (closure c.args.self.now.source.now _ c.args.self.now.tokens_good _ c.requires.form c.requires.stands (add-one _)
    c.open-opened.ensures.answer c.opens_closure.ensures c.if-opens_closure.true (c.in_ok-listed.ensures.reads c.args.self.now.source.now _)
    c.in_ok-marked.ensures.answer (c.in_ok-typed.ensures.reads c.args.self.now.source.now _) c.in_ok-ended.ensures.reads)

pub try_or_closure-returns-then-opens_closure : goal.try_or_closure-returns-then-opens_closure
try_or_closure-returns-then-opens_closure t c =
    row_read c.args.self.now.source.now _ c.args.self.now.tokens_good _
    (closure c.args.self.now.source.now _ c.args.self.now.tokens_good _ c.requires.form c.requires.stands (add-one _)
    c.open-opened.ensures.answer c.opens_closure.ensures c.if-opens_closure.true (c.in_ok-listed.ensures.reads c.args.self.now.source.now _)
    c.in_ok-marked.ensures.answer (c.in_ok-typed.ensures.reads c.args.self.now.source.now _) c.in_ok-ended.ensures.reads)
    (omega arith) c.close_row.ensures.answer c.close_row.ensures.table

pub try_or_closure-returns-in_err-tried : goal.try_or_closure-returns-in_err-tried
try_or_closure-returns-in_err-tried t c =
    leaves _ _ c.from_residual-in_err-tried.ensures.1
    (try_expression c.args.self.now.source.now _ c.args.self.now.tokens_good _ c.requires.form c.requires.stands
    (add-one _) c.open-opened.ensures.answer c.opens_closure.ensures c.if-opens_closure.false c.in_err-tried.ensures)

pub try_or_closure-close_row-requires-2 : goal.try_or_closure-close_row-requires-2
try_or_closure-close_row-requires-2 t c =
    closable c.args.self.now.source.now _ c.args.self.now.tokens_good _ {t = c.args.rows.now} c.requires.stands
    (try_expression c.args.self.now.source.now _ c.args.self.now.tokens_good _ c.requires.form c.requires.stands
    (add-one _) c.open-opened.ensures.answer c.opens_closure.ensures c.if-opens_closure.false c.in_ok-tried.ensures)

pub try_or_closure-returns : goal.try_or_closure-returns
try_or_closure-returns t c =
    row_read c.args.self.now.source.now _ c.args.self.now.tokens_good _
    (try_expression c.args.self.now.source.now _ c.args.self.now.tokens_good _ c.requires.form c.requires.stands
    (add-one _) c.open-opened.ensures.answer c.opens_closure.ensures c.if-opens_closure.false c.in_ok-tried.ensures)
    (omega arith) c.close_row-2.ensures.answer c.close_row-2.ensures.table

pub try_or_closure-take-requires : goal.try_or_closure-take-requires
try_or_closure-take-requires t c = wide c.in_ok-listed.ensures.arrives

pub try_or_closure-read_type-requires : goal.try_or_closure-read_type-requires
try_or_closure-read_type-requires t c = wide c.in_ok-marked.ensures.arrives

pub try_or_closure-block-requires : goal.try_or_closure-block-requires
try_or_closure-block-requires t c = (omega (arith, c.decreases), wide c.in_ok-typed.ensures.arrives)

pub try_or_closure-expression-requires : goal.try_or_closure-expression-requires
try_or_closure-expression-requires t c = (omega (arith, c.decreases), wide c.open-opened.ensures.stands)
