-- `typenames::prepared::prepare` meets its contract: the list is copied, and its names and those of the source are marked.
-- Assumes nothing.
use mathlib.Core.Path.{refl, ◌∙◌, ap}
use native.Mathlib.Omega.{arith}
use lib.ListN.{length, get_or, length-drop, length-set}
use Rattle.std.specs.Prelude.{None}
use Rattle.std.proofs.lemmas.List.{take_rest}
use Rattle.std.proofs.lemmas.Iterator.Consumers.{YieldsList-at, YieldsList-from_first, YieldsList-from_chain, YieldsList-end}
use Rattle.lexer.specs.internal.TokenRows.{rows_of}
use Rattle.lexer.specs.Items.{items}
use Rattle.typenames.specs.TypeNames.{opening17}
use Rattle.typenames.specs.internal.Prepared.{slots, marked_all}
use Rattle.typenames.specs.internal.Entries.{entries_left}
use Rattle.typenames.specs.internal.Declared.{declared_left}
use Rattle.typenames.proofs.Laws.Marked.{all_more}
use Rattle.typenames.proofs.Laws.Prepared.{copying_more, copying_all, copied-length, copied, all_prepared}
use Rattle.typenames.proofs.prepared.prepare.Goals as goal

pub loop-at-init : goal.loop-at-init
loop-at-init c =
    let p = c.args.prepared.now in
    (omega (arith, ap length (take_rest p slots), length-drop slots p, c.requires), refl)

pub loop-at-preserved : goal.loop-at-preserved
loop-at-preserved c =
    let loop = c.loop-at in
    let names = c.args.names.now in
    let long = loop.invariant.0 in
    let more = copying_more loop.to-items names loop.at long loop.invariant.1 (omega (arith, loop.auto.to-items, c.loop-at-test.true)) in
    (length-set loop.to-items loop.at (get_or names loop.at 0) ∙ long, more)

pub loop-name-init : goal.loop-name-init
unfolding marked_all
loop-name-init c = refl

pub loop-name-preserved : goal.loop-name-preserved
loop-name-preserved c =
    let loop = c.loop-name in
    c.mark.ensures ∙ all_more (λ n. n.now) _ loop.prepared loop.yielded c.in-Some.name loop.invariant

pub returns : goal.returns
returns c =
    let args = c.args in
    let ts = items args.source.now (rows_of args.tokens.now) in
    let loop = c.loop-name in
    let chain = c.chain-name-items.ensures in
    let p = args.prepared.now in
    let names = args.names.now in
    let copying = c.loop-at in
    let copy = copying.to-items in
    let so_far = copying.invariant in
    let after = copying_all copy names copying.at so_far.0 so_far.1 (omega (arith, copying.auto.to-items, c.loop-at-test.false)) in
    let long = copied-length slots p copy names c.requires after in
    let all = YieldsList-end
    (YieldsList-at c.into_iter-name-iterator.ensures.into_iter_gives
    (YieldsList-from_chain {s = c.chain-name-items.result}
    (YieldsList-from_first (λ x. x.now) entries_left _ (ap entries_left chain.first ∙ c.of.ensures))
    (YieldsList-from_first (λ x. x.now) declared_left _ (ap declared_left chain.second ∙ c.by.ensures))
    chain.first_done chain.second_done))
    loop.yielded loop.name-iterator loop.yielded_by None c.next.new.self refl c.in-None.ensures.steps in
    rw (loop.invariant, all.0) (all_prepared opening17 _ names ts (omega arith) (copied slots p copy names c.requires after))
