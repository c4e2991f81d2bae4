-- The readers of types meet their contracts. Assumes nothing.
use mathlib.Core.Path.{refl, sym, ◌∙◌}
use mathlib.Core.List.{[]}
use native.Mathlib.Numerals.{add-one}
use native.Mathlib.Omega.{arith}
use Rattle.std.proofs.Common.{rules, of_calls}
use Rattle.grammar.specs.internal.Nonterminals.{type, types as typeList}
use Rattle.parser.proofs.Laws.Repeated.{goes_on, repeats_kinds}
use Rattle.parser.specs.internal.Operators.{optional, pointer, slice}
use Rattle.parser.specs.internal.Steps.{begins_part, taken_by}
use Rattle.parser.proofs.Laws.Readers.{one_below}
use Rattle.parser.proofs.Laws.Results.{leaves, no_level, passed, closable, row_read, wide, some_kind, some_alternative}
use Rattle.parser.proofs.Laws.Types.{operator_some, base_type, function_type, instance, named_type, type_deep, marked_type, result_type, type_stuck}
use Rattle.parser.proofs.Laws.Types.{types_list}
use Rattle.parser.proofs.Laws.Openings.{no_type, form_number, none_number, some_number}
use Rattle.grammar.specs.internal.Forms.{type_form_number}
use Rattle.grammar.proofs.Laws.Forms.{type_begins}
use Rattle.parser.proofs.reading.Reading.+type_readers.Goals as goal

-- `parenthesized`

pub parenthesized-open-opened-requires-clause-some : goal.parenthesized-open-opened-requires-clause-some
parenthesized-open-opened-requires-clause-some t c = some_kind type no_type _ c.requires.form

pub parenthesized-returns-in_err-marked-clause-reads : goal.parenthesized-returns-in_err-marked-clause-reads
unfolding taken_by
parenthesized-returns-in_err-marked-clause-reads t c = λ source e.
    leaves _ _ c.from_residual.ensures.1
    (function_type source _ c.args.self.now.tokens_good e c.requires.form c.requires.stands (add-one c.args.below)
    c.open-opened.ensures.answer (sym c.next_is.ensures ∙ c.if-next_is.true) c.in_err-marked.ensures.answer passed passed refl)

pub parenthesized-returns-in_err-answered-clause-reads : goal.parenthesized-returns-in_err-answered-clause-reads
unfolding taken_by
parenthesized-returns-in_err-answered-clause-reads t c = λ source e.
    leaves _ _ c.from_residual-in_err-answered.ensures.1
    (function_type source _ c.args.self.now.tokens_good e c.requires.form c.requires.stands (add-one c.args.below)
    c.open-opened.ensures.answer (sym c.next_is.ensures ∙ c.if-next_is.true) c.in_ok-marked.ensures.answer (c.in_err-answered.ensures.reads source e)
    passed refl)

pub parenthesized-returns-in_err-listed-clause-reads : goal.parenthesized-returns-in_err-listed-clause-reads
unfolding taken_by
parenthesized-returns-in_err-listed-clause-reads t c = λ source e.
    leaves _ _ c.from_residual-in_err-listed.ensures.1
    (function_type source _ c.args.self.now.tokens_good e c.requires.form c.requires.stands (add-one c.args.below)
    c.open-opened.ensures.answer (sym c.next_is.ensures ∙ c.if-next_is.true) c.in_ok-marked.ensures.answer (c.in_ok-answered.ensures.reads source e)
    (c.in_err-listed.ensures.reads source e) refl)

pub parenthesized-returns-in_err-ended-clause-reads : goal.parenthesized-returns-in_err-ended-clause-reads
parenthesized-returns-in_err-ended-clause-reads t c = λ source e.
    leaves _ _ c.from_residual-in_err-ended.ensures.1
    (function_type source _ c.args.self.now.tokens_good e c.requires.form c.requires.stands (add-one c.args.below)
    c.open-opened.ensures.answer (sym c.next_is.ensures ∙ c.if-next_is.true) c.in_ok-marked.ensures.answer (c.in_ok-answered.ensures.reads source e)
    (c.in_ok-listed.ensures.reads source e) c.in_err-ended.ensures.answer)

pub parenthesized-close_row-requires : goal.parenthesized-close_row-requires
parenthesized-close_row-requires t c =
    closable [] _ c.args.self.now.tokens_good [] {t = c.args.rows.now} c.requires.stands
    (function_type [] _ c.args.self.now.tokens_good [] c.requires.form c.requires.stands (add-one c.args.below)
    c.open-opened.ensures.answer (sym c.next_is.ensures ∙ c.if-next_is.true) c.in_ok-marked.ensures.answer (c.in_ok-answered.ensures.reads [] [])
    (c.in_ok-listed.ensures.reads [] []) c.in_ok-ended.ensures.answer)

pub parenthesized-returns-then-next_is-clause-reads : goal.parenthesized-returns-then-next_is-clause-reads
parenthesized-returns-then-next_is-clause-reads t c = λ source e.
    row_read source _ c.args.self.now.tokens_good e
    (function_type source _ c.args.self.now.tokens_good e c.requires.form c.requires.stands (add-one c.args.below)
    c.open-opened.ensures.answer (sym c.next_is.ensures ∙ c.if-next_is.true) c.in_ok-marked.ensures.answer (c.in_ok-answered.ensures.reads source e)
    (c.in_ok-listed.ensures.reads source e) c.in_ok-ended.ensures.answer)
    (omega arith) c.close_row.ensures.answer c.close_row.ensures.table

pub parenthesized-returns-in_err-named-clause-reads : goal.parenthesized-returns-in_err-named-clause-reads
unfolding taken_by
parenthesized-returns-in_err-named-clause-reads t c = λ source e.
    leaves _ _ c.from_residual-in_err-named.ensures.1
    (instance source _ c.args.self.now.tokens_good e c.requires.form c.requires.stands (add-one c.args.below)
    c.open-opened.ensures.answer (sym c.next_is.ensures ∙ c.if-next_is.false) c.in_err-named.ensures.answer refl passed refl)

pub parenthesized-returns-in_err-first-clause-reads : goal.parenthesized-returns-in_err-first-clause-reads
unfolding taken_by
parenthesized-returns-in_err-first-clause-reads t c = λ source e.
    leaves _ _ c.from_residual-in_err-first.ensures.1
    (instance source _ c.args.self.now.tokens_good e c.requires.form c.requires.stands (add-one c.args.below)
    c.open-opened.ensures.answer (sym c.next_is.ensures ∙ c.if-next_is.false) c.in_ok-named.ensures.answer c.in_err-first.ensures.answer passed refl)

pub parenthesized-returns-in_err-ended-2-clause-reads : goal.parenthesized-returns-in_err-ended-2-clause-reads
parenthesized-returns-in_err-ended-2-clause-reads t c = λ source e.
    leaves _ _ c.from_residual-in_err-ended-2.ensures.1
    (instance source _ c.args.self.now.tokens_good e c.requires.form c.requires.stands (add-one c.args.below)
    c.open-opened.ensures.answer (sym c.next_is.ensures ∙ c.if-next_is.false) c.in_ok-named.ensures.answer c.in_ok-first.ensures.answer
    (c.more_words-listed.ensures.reads _ _ source e) c.in_err-ended-2.ensures.answer)

pub parenthesized-close_row-requires-2 : goal.parenthesized-close_row-requires-2
parenthesized-close_row-requires-2 t c =
    closable [] _ c.args.self.now.tokens_good [] {t = c.args.rows.now} c.requires.stands
    (instance [] _ c.args.self.now.tokens_good [] c.requires.form c.requires.stands (add-one c.args.below)
    c.open-opened.ensures.answer (sym c.next_is.ensures ∙ c.if-next_is.false) c.in_ok-named.ensures.answer c.in_ok-first.ensures.answer
    (c.more_words-listed.ensures.reads _ _ [] []) c.in_ok-ended-2.ensures.answer)

pub parenthesized-returns-clause-reads : goal.parenthesized-returns-clause-reads
parenthesized-returns-clause-reads t c = λ source e.
    row_read source _ c.args.self.now.tokens_good e
    (instance source _ c.args.self.now.tokens_good e c.requires.form c.requires.stands (add-one c.args.below)
    c.open-opened.ensures.answer (sym c.next_is.ensures ∙ c.if-next_is.false) c.in_ok-named.ensures.answer c.in_ok-first.ensures.answer
    (c.more_words-listed.ensures.reads _ _ source e) c.in_ok-ended-2.ensures.answer)
    (omega arith) c.close_row-2.ensures.answer c.close_row-2.ensures.table

-- `read_type`

pub read_type-returns-in_default-clause-reads : goal.read_type-returns-in_default-clause-reads
read_type-returns-in_default-clause-reads t c = λ source e.
    let here = none_number type_form_number type c.kind.ensures c.type_form.ensures c.in_default.is in
    rw c.no_program.ensures (type_stuck source _ c.args.self.now.tokens_good e _ here)

pub read_type-returns-in_err-below-clause-reads : goal.read_type-returns-in_err-below-clause-reads
read_type-returns-in_err-below-clause-reads t c = λ source e.
    let here = some_number type_form_number type type_begins c.kind.ensures c.type_form.ensures c.in-Some.is in
    no_level _ _ c.from_residual.ensures.1 c.in_err-below.ensures.stops
    (type_deep source _ c.args.self.now.tokens_good e _ here)

pub read_type-leaf-requires-clause-some : goal.read_type-leaf-requires-clause-some
read_type-leaf-requires-clause-some t c =
    some_kind type no_type _ (form_number type_form_number type c.kind.ensures c.type_form.ensures c.in-Some.is c.in-Base.is)

pub read_type-marked_type-requires : goal.read_type-marked_type-requires
read_type-marked_type-requires t c =
    let here = form_number type_form_number type c.kind.ensures c.type_form.ensures c.in-Some.is c.in-Pointer.is in
    (omega (arith, c.decreases, c.in_ok-below.ensures.goes), (c.requires, rw here pointer))

pub read_type-marked_type-requires-in-Optional : goal.read_type-marked_type-requires-in-Optional
read_type-marked_type-requires-in-Optional t c =
    let here = form_number type_form_number type c.kind.ensures c.type_form.ensures c.in-Some.is c.in-Optional.is in
    (omega (arith, c.decreases, c.in_ok-below.ensures.goes), (c.requires, rw here optional))

pub read_type-marked_type-requires-in-Slice : goal.read_type-marked_type-requires-in-Slice
read_type-marked_type-requires-in-Slice t c =
    let here = form_number type_form_number type c.kind.ensures c.type_form.ensures c.in-Some.is c.in-Slice.is in
    (omega (arith, c.decreases, c.in_ok-below.ensures.goes), (c.requires, rw here slice))

pub read_type-leaf-requires-in-Named-clause-some : goal.read_type-leaf-requires-in-Named-clause-some
read_type-leaf-requires-in-Named-clause-some t c =
    some_kind type no_type _ (form_number type_form_number type c.kind.ensures c.type_form.ensures c.in-Some.is c.in-Named.is)

pub read_type-returns-in-Base-clause-reads : goal.read_type-returns-in-Base-clause-reads
read_type-returns-in-Base-clause-reads t c = λ source e.
    let here = form_number type_form_number type c.kind.ensures c.type_form.ensures c.in-Some.is c.in-Base.is in
    base_type source _ c.args.self.now.tokens_good e here c.requires (one_below c.in_ok-below.ensures.goes)
    c.leaf.ensures.answer c.leaf.ensures.table

pub read_type-returns-in-Named-clause-reads : goal.read_type-returns-in-Named-clause-reads
read_type-returns-in-Named-clause-reads t c = λ source e.
    let here = form_number type_form_number type c.kind.ensures c.type_form.ensures c.in-Some.is c.in-Named.is in
    named_type source _ c.args.self.now.tokens_good e here c.requires (one_below c.in_ok-below.ensures.goes)
    c.leaf-in-Named.ensures.answer c.leaf-in-Named.ensures.table

-- `marked_type`

pub marked_type-open-opened-requires-clause-some : goal.marked_type-open-opened-requires-clause-some
marked_type-open-opened-requires-clause-some t c =
    let some = operator_some c.requires.mark in
    some_alternative type no_type _ (λ z. absurd (omega (arith, z, some)))

pub marked_type-returns-in_err-typed-clause-reads : goal.marked_type-returns-in_err-typed-clause-reads
marked_type-returns-in_err-typed-clause-reads t c = λ source e.
    leaves _ _ c.from_residual.ensures.1
    (marked_type source _ c.args.self.now.tokens_good e c.requires.mark refl c.requires.stands (add-one c.args.below)
    c.open-opened.ensures.answer (c.in_err-typed.ensures.reads source e))

pub marked_type-close_row-requires : goal.marked_type-close_row-requires
marked_type-close_row-requires t c =
    closable [] _ c.args.self.now.tokens_good [] c.requires.stands
    (marked_type [] _ c.args.self.now.tokens_good [] c.requires.mark refl c.requires.stands (add-one c.args.below)
    c.open-opened.ensures.answer (c.in_ok-typed.ensures.reads [] []))

pub marked_type-returns-clause-reads : goal.marked_type-returns-clause-reads
marked_type-returns-clause-reads t c = λ source e.
    row_read source _ c.args.self.now.tokens_good e
    (marked_type source _ c.args.self.now.tokens_good e c.requires.mark refl c.requires.stands (add-one c.args.below)
    c.open-opened.ensures.answer (c.in_ok-typed.ensures.reads source e))
    (omega arith) c.close_row.ensures.answer c.close_row.ensures.table

-- `result_type`

pub result_type-open-opened-requires-clause-some : goal.result_type-open-opened-requires-clause-some
result_type-open-opened-requires-clause-some t c = some_kind type no_type _ c.requires.form

pub result_type-returns-in_err-success-clause-reads : goal.result_type-returns-in_err-success-clause-reads
result_type-returns-in_err-success-clause-reads t c = λ source e.
    leaves _ _ c.from_residual.ensures.1
    (result_type source _ c.args.self.now.tokens_good e c.requires.form c.requires.stands (add-one c.args.below)
    c.open-opened.ensures.answer (c.in_err-success.ensures.reads source e) passed)

pub result_type-returns-in_err-error-clause-reads : goal.result_type-returns-in_err-error-clause-reads
result_type-returns-in_err-error-clause-reads t c = λ source e.
    leaves _ _ c.from_residual-in_err-error.ensures.1
    (result_type source _ c.args.self.now.tokens_good e c.requires.form c.requires.stands (add-one c.args.below)
    c.open-opened.ensures.answer (c.in_ok-success.ensures.reads source e) (c.in_err-error.ensures.reads source e))

pub result_type-close_row-requires : goal.result_type-close_row-requires
result_type-close_row-requires t c =
    closable [] _ c.args.self.now.tokens_good [] c.requires.stands
    (result_type [] _ c.args.self.now.tokens_good [] c.requires.form c.requires.stands (add-one c.args.below)
    c.open-opened.ensures.answer (c.in_ok-success.ensures.reads [] []) (c.in_ok-error.ensures.reads [] []))

pub result_type-returns-clause-reads : goal.result_type-returns-clause-reads
result_type-returns-clause-reads t c = λ source e.
    row_read source _ c.args.self.now.tokens_good e
    (result_type source _ c.args.self.now.tokens_good e c.requires.form c.requires.stands (add-one c.args.below)
    c.open-opened.ensures.answer (c.in_ok-success.ensures.reads source e) (c.in_ok-error.ensures.reads source e))
    (omega arith) c.close_row.ensures.answer c.close_row.ensures.table

-- `types`

pub types-repeated-requires : goal.types-repeated-requires
types-repeated-requires t c κs = (
  (refl, tt),
  (
    c.requires,
    (
      search (of_calls, rules),
      λ of rows at is stands asks. (
        (omega (arith, c.decreases), rw is (wide stands)),
        λ result after one. goes_on _ of [] [] _ type at result _ _ is (one.1.0 [] []),
      ),
    ),
  ),
)

pub types-returns-clause-reads : goal.types-returns-clause-reads
types-returns-clause-reads t c = λ source e.
    c.repeated.ensures.reads source e _
    (repeats_kinds c.args.self.now source e _ typeList type (λ r s. begins_part type r.tokens.now s)
    (λ of at b asks. asks.1) (λ of rows after at result one. one.1.0)
    (types_list source _ c.args.self.now.tokens_good e))
