-- `Reading::whole_program` meets its contract. Assumes nothing.
use mathlib.Core.Path.{◌∙◌, sym}
use borrow.Author.Tests.{eq-eqb}
use Rattle.std.proofs.lemmas.Bool.{ne_eqb}
use Rattle.grammar.specs.Nurl.{productions}
use Rattle.parser.proofs.Laws.After.{start, went}
use Rattle.parser.proofs.Laws.Views.{names_fixed}
use Rattle.parser.proofs.Laws.Programs.{first_within, whole_ends, whole_stuck}
use Rattle.parser.proofs.Laws.Results.{leaves}
use Rattle.parser.proofs.reading.Reading.whole_program.Goals as goal

pub returns-in_err-end : goal.returns-in_err-end
returns-in_err-end c =
    let fixed = names_fixed c.args.self.now.source.now _ c.args.self.now.tokens_good _ in
    leaves _ _ c.from_residual.ensures.1
    (went productions _ _ _ fixed (start productions _ _ _ fixed (first_within _)) c.in_err-end.ensures)

pub returns-then-kind-eq-END : goal.returns-then-kind-eq-END
returns-then-kind-eq-END c =
    whole_ends c.args.self.now.source.now _ c.args.self.now.tokens_good _ (first_within _) c.in_ok-end.ensures
    (eq-eqb _ _ (sym c.kind.ensures ∙ c.if-kind-eq-END.true))

pub returns : goal.returns
returns c =
    rw c.no_program.ensures
    (whole_stuck c.args.self.now.source.now _ c.args.self.now.tokens_good _ (first_within _) c.in_ok-end.ensures
    (ne_eqb _ _ (λ z. c.if-kind-eq-END.false (c.kind.ensures ∙ z))))
