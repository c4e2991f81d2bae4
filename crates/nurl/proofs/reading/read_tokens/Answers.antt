-- `nurl::reading::read_tokens` meets its contract: what the reader of the program says, with room for its rows or without. Assumes
-- nothing.
use Prim.Native.Nat.{◌+◌}
use mathlib.Core.Path.{◌≡◌, refl, sym, ◌∙◌}
use mathlib.Core.List.{◌++◌}
use native.Mathlib.Omega.{arith}
use lib.ListN.{length, take, drop}
use lib.Seq.{length-take-le}
use Rattle.lexer.specs.internal.TokenRows.{rows_of}
use Rattle.lexer.specs.Items.{items}
use Rattle.typenames.specs.TypeNames.{opening17}
use Rattle.typenames.specs.internal.Prepared.{prepared_names}
use Rattle.grammar.specs.Languages.{language17}
use Rattle.grammar.specs.Sources.{names_of}
use Rattle.nurl.proofs.Laws.Results.{left_by}
use Rattle.nurl.proofs.Laws.Rows.{kept_size, front_inside, front_counts, lent_names, tokens_good, accepted_rows, full_rows, refused_rows}
use Rattle.nurl.proofs.reading.read_tokens.Goals as goal
use Rattle.nurl.proofs.reading.read_tokens.Goals.{After-prepare}

pub slice_bounds-prepare-end : goal.slice_bounds-prepare-end
slice_bounds-prepare-end c =
    let size = c.names_buffer-buffer.ensures.size in
    let short = c.requires.names_len_bound in
    sym (length-take-le _ _ (omega arith))

pub prepare-requires : goal.prepare-requires
prepare-requires c =
    let size = c.names_buffer-buffer.ensures.size in
    let short = c.requires.names_len_bound in
    length-take-le _ _ (omega arith)

-- the prepared list is as long as it was lent
prepared-size : (c : After-prepare) →
    length c.prepare.new.prepared ≡ 4096 + length c.args.names.now
prepared-size c =
    let size = c.names_buffer-buffer.ensures.size in
    let short = c.requires.names_len_bound in
    kept_size c.prepare.new.prepared c.names_buffer-buffer.result (4096 + length c.args.names.now) c.prepare.auto.prepared (omega arith)

pub slice_bounds-buffer-end-2 : goal.slice_bounds-buffer-end-2
slice_bounds-buffer-end-2 c =
    front_inside c.prepare.new.prepared (drop (4096 + length c.args.names.now) c.names_buffer-buffer.result) _
    (prepared-size (goal.at.slice_bounds-buffer-end-2 c).After-prepare)

pub slice_bounds-read_program-end : goal.slice_bounds-read_program-end
slice_bounds-read_program-end c =
    front_counts c.prepare.new.prepared (drop (4096 + length c.args.names.now) c.names_buffer-buffer.result) _
    (prepared-size (goal.at.slice_bounds-read_program-end c).After-prepare)

-- the names that the reader is lent are those of the source and its list
named : (c : After-prepare) →
    let size = 4096 + length c.args.names.now in
    let lent = take size (c.prepare.new.prepared ++ drop size c.names_buffer-buffer.result) in
    prepared_names opening17 lent (items c.args.source.now (rows_of c.args.tokens.now))
    ≡ names_of language17 c.args.source.now c.args.names.now (rows_of c.args.tokens.now)
named c =
    lent_names c.prepare.new.prepared (drop (4096 + length c.args.names.now) c.names_buffer-buffer.result) _ _ _
    (prepared-size c) c.prepare.ensures

pub read_program-requires : goal.read_program-requires
read_program-requires c =
    tokens_good c.args.source.now c.args.names.now c.args.tokens.now c.requires.source_len_bound c.requires.source_value

pub returns-in_err-reached : goal.returns-in_err-reached
returns-in_err-reached c =
    let names = named (goal.at.returns-in_err-reached c).After-prepare in
    let args = c.args in
    let v = refused_rows args.source.now args.names.now args.tokens.now c.requires.source_len_bound c.requires.source_value args.rows.now _ _ names
    _ c.in_err-reached.ensures.reads _ _ refl (c.in_err-reached.ensures.refused _ _ refl) in
    record { answer = left_by _ _ c.from_residual.ensures.1 ∙ v.0; table = v.1 }

pub returns-then-room-reached : goal.returns-then-room-reached
returns-then-room-reached c =
    let names = named (goal.at.returns-then-room-reached c).After-prepare in
    let args = c.args in
    let over = c.if-room-reached.true in
    let same = c.read_program.auto.rows in
    let is-room = c.room.ensures in
    let law = full_rows args.source.now args.names.now args.tokens.now c.requires.source_len_bound c.requires.source_value args.rows.now _ _ names _
    c.in_ok-reached.ensures.reads _ _ refl (omega arith) in
    record { answer = law.0; table = c.clear.ensures ∙ law.1 }

pub returns : goal.returns
returns c =
    let names = named (goal.at.returns c).After-prepare in
    let args = c.args in
    let fits = c.if-room-reached.false in
    let same = c.read_program.auto.rows in
    let is-room = c.room.ensures in
    let v = accepted_rows args.source.now args.names.now args.tokens.now c.requires.source_len_bound c.requires.source_value args.rows.now _ _ names
    _ c.in_ok-reached.ensures.reads _ _ refl (omega arith) in
    record { answer = v.0; table = v.1 }
