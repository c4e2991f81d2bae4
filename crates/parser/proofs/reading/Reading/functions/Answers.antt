-- `Reading::functions` meets its contract. Assumes nothing.
use mathlib.Core.Path.{◌≡◌, refl, sym}
use lib.Dec.{eqb}
use borrow.Author.Tests.{eqb-true}
use Rattle.std.proofs.Common.{rules, of_calls}
use Rattle.lexer.specs.Tests.{pick}
use Rattle.lexer.specs.internal.Kinds.{at as atSign}
use Rattle.grammar.specs.internal.Nonterminals.{functions, function, methods, method}
use Rattle.parser.specs.internal.Presence.{is_required}
use Rattle.parser.specs.internal.Readers.{Stands, ReadsBy}
use Rattle.parser.specs.internal.Steps.{next_kind, step_at}
use Rattle.parser.proofs.Laws.Functions.{bodied_list}
use Rattle.parser.proofs.Laws.Repeated.{goes_on, repeats_by}
use Rattle.parser.proofs.Laws.Results.{wide}
use Rattle.parser.proofs.reading.Reading.functions.Goals as goal

pub repeated-requires : goal.repeated-requires
repeated-requires c κs = (
  (refl, tt),
  (
    c.requires,
    (
      search (of_calls, rules),
      λ of rows at is stands asks.
          let there : Stands of.now 1 at = rw is (wide stands) in
          let begins : next_kind of.now.tokens.now (step_at at) ≡ atSign = eqb-true _ _ (sym asks.1) in (
            search rules,
            λ result after one.
                let part : ReadsBy of.now c.args.left 1 (pick (is_required c.args.bodies) function method) at rows.now result after.now = search rules in
                goes_on _ of _ _ _ (pick (is_required c.args.bodies) function method) at result _ _ is part,
          ),
    ),
  ),
)

pub returns-clause-reads : goal.returns-clause-reads
returns-clause-reads c =
    c.repeated.ensures.reads _ _ _
    (repeats_by c.args.self.now _ (pick (is_required c.args.bodies) functions methods) (pick (is_required c.args.bodies) function method)
    (λ r s. eqb (next_kind r.tokens.now s) atSign) (λ of at b asks. asks.1)
    (λ of rows after at result one. search rules) (bodied_list _ _ c.args.self.now.tokens_good _ (is_required c.args.bodies)))
