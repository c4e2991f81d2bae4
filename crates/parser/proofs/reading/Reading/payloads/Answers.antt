-- `Reading::payloads` meets its contract. Assumes nothing.
use mathlib.Core.Path.{◌∙◌, sym}
use mathlib.Core.List.{[]}
use Rattle.grammar.specs.Nurl.{productions}
use Rattle.parser.proofs.Laws.After.{start, after_within}
use Rattle.parser.proofs.Laws.Views.{names_fixed}
use Rattle.parser.proofs.Laws.Matches.{payloads_left, payloads_go, payloads_end, payloads_all}
use Rattle.parser.proofs.Laws.Results.{leaves, wide}
use Rattle.parser.proofs.reading.Reading.payloads.Goals as goal

pub loop-init : goal.loop-init
unfolding payloads_left
loop-init c = λ source e. start productions _ _ e (names_fixed source _ c.args.self.now.tokens_good e) c.requires

pub payload-requires-clause-stands : goal.payload-requires-clause-stands
payload-requires-clause-stands c =
    wide (after_within productions _ _ [] (names_fixed [] _ c.args.self.now.tokens_good []) (c.loop.invariant [] []))

pub returns-in_err-place-clause-reads : goal.returns-in_err-place-clause-reads
returns-in_err-place-clause-reads c = λ source e.
    leaves _ _ c.from_residual.ensures.1
    (payloads_go source _ c.args.self.now.tokens_good e _ c.loop-test.true (c.loop.invariant source e)
    (sym c.next_is_either.ensures ∙ c.if-not-next_is_either.false) (c.in_err-place.ensures.reads source e))

pub loop-preserved : goal.loop-preserved
loop-preserved c = λ source e.
    payloads_go source _ c.args.self.now.tokens_good e _ c.loop-test.true (c.loop.invariant source e)
    (sym c.next_is_either.ensures ∙ c.if-not-next_is_either.false) (c.in_ok-place.ensures.reads source e)

pub returns-after-loop-clause-reads : goal.returns-after-loop-clause-reads
returns-after-loop-clause-reads c = λ source e.
    payloads_all source _ c.args.self.now.tokens_good e c.loop-test.false (c.loop.invariant source e)

pub returns-after-loop-clause-arrives : goal.returns-after-loop-clause-arrives
returns-after-loop-clause-arrives c = after_within productions _ _ [] (names_fixed [] _ c.args.self.now.tokens_good []) (c.loop.invariant [] [])

pub returns-then-not-next_is_either-clause-reads : goal.returns-then-not-next_is_either-clause-reads
returns-then-not-next_is_either-clause-reads c = λ source e.
    payloads_end source _ c.args.self.now.tokens_good e _ (c.loop.invariant source e) (sym c.next_is_either.ensures ∙ c.if-not-next_is_either.true)

pub returns-then-not-next_is_either-clause-arrives : goal.returns-then-not-next_is_either-clause-arrives
returns-then-not-next_is_either-clause-arrives c =
    after_within productions _ _ [] (names_fixed [] _ c.args.self.now.tokens_good []) (c.loop.invariant [] [])
