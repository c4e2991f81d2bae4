-- `nurl::reading::read_source` meets its contract: document 01's refusals in their order. Assumes nothing.
use mathlib.Core.Path.{sym}
use native.Mathlib.Omega.{arith}
use lib.Seq.{length-take-le}
use Rattle.nurl.proofs.Laws.Results.{left_by, refused_long, refused_names, refused_tokens, lent_inside, lent_after, lent_scan, good_short, read_rest}
use Rattle.nurl.proofs.reading.read_source.Goals as goal

pub returns-then-source-gt-SOURCE_LIMIT : goal.returns-then-source-gt-SOURCE_LIMIT
returns-then-source-gt-SOURCE_LIMIT c =
    refused_long c.args.source.now c.args.names.now c.args.tokens.now c.args.rows.now c.if-source-gt-SOURCE_LIMIT.true

pub returns-in_err-check_names : goal.returns-in_err-check_names
returns-in_err-check_names c =
    rw (left_by _ _ c.from_residual.ensures.1)
    (refused_names c.args.source.now c.args.names.now c.args.tokens.now c.args.rows.now _ _ c.if-source-gt-SOURCE_LIMIT.false
    (sym c.in_err-check_names.ensures.answer))

pub returns-in_err-count : goal.returns-in_err-count
returns-in_err-count c =
    let good = sym c.in_ok-check_names.ensures.answer in
    let said = sym c.in_err-count.ensures.answer in
    rw (left_by _ _ c.from_residual-in_err-count.ensures.1)
    (refused_tokens c.args.source.now c.args.names.now c.args.tokens.now c.args.rows.now c.if-source-gt-SOURCE_LIMIT.false good _ _ _ said
    c.in_err-count.ensures.table)

pub overflow_mul-end : goal.overflow_mul-end
overflow_mul-end c =
    let good = sym c.in_ok-check_names.ensures.answer in
    let said = sym c.in_ok-count.ensures.answer in
    let inside = lent_inside c.args.source.now c.args.names.now c.args.tokens.now c.args.rows.now c.if-source-gt-SOURCE_LIMIT.false good _ _ said
    c.in_ok-count.ensures.table in
    omega arith

pub slice_bounds-read_tokens-end : goal.slice_bounds-read_tokens-end
slice_bounds-read_tokens-end c =
    let good = sym c.in_ok-check_names.ensures.answer in
    let said = sym c.in_ok-count.ensures.answer in
    lent_after c.args.source.now c.args.names.now c.args.tokens.now c.args.rows.now c.if-source-gt-SOURCE_LIMIT.false good _ _ said
    c.in_ok-count.ensures.table

pub slice_bounds-read_tokens-end-2 : goal.slice_bounds-read_tokens-end-2
slice_bounds-read_tokens-end-2 c =
    let good = sym c.in_ok-check_names.ensures.answer in
    let said = sym c.in_ok-count.ensures.answer in
    sym (length-take-le _ _
    (lent_after c.args.source.now c.args.names.now c.args.tokens.now c.args.rows.now c.if-source-gt-SOURCE_LIMIT.false good _ _ said
    c.in_ok-count.ensures.table))

pub read_tokens-requires-clause-names_len_bound : goal.read_tokens-requires-clause-names_len_bound
read_tokens-requires-clause-names_len_bound c = good_short c.args.names.now (sym c.in_ok-check_names.ensures.answer)

pub read_tokens-requires-clause-source_value : goal.read_tokens-requires-clause-source_value
read_tokens-requires-clause-source_value c =
    let good = sym c.in_ok-check_names.ensures.answer in
    let said = sym c.in_ok-count.ensures.answer in
    lent_scan c.args.source.now c.args.names.now c.args.tokens.now c.args.rows.now c.if-source-gt-SOURCE_LIMIT.false good _ _ said
    c.in_ok-count.ensures.table

pub returns : goal.returns
returns c =
    let good = sym c.in_ok-check_names.ensures.answer in
    let said = sym c.in_ok-count.ensures.answer in
    read_rest c.args.source.now c.args.names.now c.args.tokens.now c.args.rows.now c.if-source-gt-SOURCE_LIMIT.false good _ _ said
    c.in_ok-count.ensures.table _ _ c.read_tokens.ensures.answer c.read_tokens.ensures.table
