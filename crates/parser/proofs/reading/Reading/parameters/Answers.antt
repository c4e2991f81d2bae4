-- `Reading::parameters` meets its contract. Assumes nothing.
use mathlib.Core.Path.{◌≡◌, refl, sym}
use mathlib.Core.Bool.{true}
use mathlib.Core.List.{[]}
use Rattle.std.proofs.Common.{rules, of_calls}
use Rattle.lexer.specs.Tests.{pick}
use Rattle.grammar.specs.internal.Nonterminals.{parameters, parameter, fields, field, type}
use Rattle.parser.specs.internal.Presence.{is_required}
use Rattle.parser.specs.internal.Readers.{Stands, ReadsKindsBy}
use Rattle.parser.specs.internal.Steps.{begins_part, step_at}
use Rattle.parser.proofs.Laws.Parameters.{named_list}
use Rattle.parser.proofs.Laws.Repeated.{goes_on, repeats_kinds}
use Rattle.parser.proofs.reading.Reading.parameters.Goals as goal

pub repeated-requires : goal.repeated-requires
repeated-requires c κs = (
  (refl, tt),
  (
    c.requires,
    (
      search (of_calls, rules),
      λ of rows at is stands asks.
          let there : Stands of.now 0 at = rw is stands in
          let begins : begins_part type of.now.tokens.now (step_at at) ≡ true = sym asks.1 in (
            search rules,
            λ result after one.
                let part : ReadsKindsBy of.now c.args.left 1 (pick (is_required c.args.naming) parameter field) at rows.now result after.now =
                search rules in
                goes_on _ of [] [] _ (pick (is_required c.args.naming) parameter field) at result _ _ is (part [] []),
          ),
    ),
  ),
)

pub returns-clause-reads : goal.returns-clause-reads
returns-clause-reads c = λ source e.
    c.repeated.ensures.reads source e _
    (repeats_kinds c.args.self.now source e _ (pick (is_required c.args.naming) parameters fields)
    (pick (is_required c.args.naming) parameter field) (λ r s. begins_part type r.tokens.now s) (λ of at b asks. asks.1)
    (λ of rows after at result one. search rules) (named_list source _ c.args.self.now.tokens_good e (is_required c.args.naming)))
