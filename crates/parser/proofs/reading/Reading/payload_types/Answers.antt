-- `Reading::payload_types` meets its contract. Assumes nothing.
use mathlib.Core.Path.{refl}
use mathlib.Core.List.{[]}
use Rattle.std.proofs.Common.{rules, of_calls}
use Rattle.grammar.specs.internal.Nonterminals.{payload_types, type}
use Rattle.parser.specs.internal.Steps.{payload_begins}
use Rattle.parser.specs.internal.Readers.{names_of}
use Rattle.parser.proofs.Laws.Definitions.{payload_types_list}
use Rattle.parser.proofs.Laws.Repeated.{goes_on, repeats_by}
use Rattle.parser.proofs.Laws.Results.{wide}
use Rattle.parser.proofs.reading.Reading.payload_types.Goals as goal

pub repeated-requires : goal.repeated-requires
repeated-requires c κs = (
  (refl, tt),
  (
    c.requires,
    (
      search (of_calls, rules),
      λ of rows at is stands asks. (
        rw is (wide stands),
        λ result after one. goes_on _ of [] [] _ type at result _ _ is (one.1.0 [] []),
      ),
    ),
  ),
)

pub returns-clause-reads : goal.returns-clause-reads
returns-clause-reads c =
    c.repeated.ensures.reads _ _ _
    (repeats_by c.args.self.now _ payload_types type (λ r s. payload_begins r.source.now r.tokens.now (names_of r) s)
    (λ of at b asks. asks.1) (λ of rows after at result one. one.1.0 _ _)
    (payload_types_list _ _ c.args.self.now.tokens_good _))
