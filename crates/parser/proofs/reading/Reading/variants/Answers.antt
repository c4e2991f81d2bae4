-- `Reading::variants` meets its contract. Assumes nothing.
use mathlib.Core.Path.{refl, sym}
use Rattle.std.proofs.Common.{rules, of_calls}
use Rattle.grammar.specs.Nurl.{plain_name}
use Rattle.grammar.specs.internal.Nonterminals.{variants, variant}
use Rattle.parser.specs.internal.Steps.{asked_at}
use Rattle.parser.specs.internal.Readers.{names_of}
use Rattle.parser.proofs.Laws.Definitions.{variants_list}
use Rattle.parser.proofs.Laws.Repeated.{goes_on, repeats_by}
use Rattle.parser.proofs.reading.Reading.variants.Goals as goal

pub repeated-requires : goal.repeated-requires
repeated-requires c κs = (
  (refl, tt),
  (
    c.requires,
    (
      search (of_calls, rules),
      λ of rows at is stands asks. (
        (rw is stands, sym asks.1),
        λ result after one. goes_on _ of _ _ _ variant at result _ _ is one.1.0,
      ),
    ),
  ),
)

pub returns-clause-reads : goal.returns-clause-reads
returns-clause-reads c =
    c.repeated.ensures.reads _ _ _
    (repeats_by c.args.self.now _ variants variant (λ r s. asked_at plain_name r.source.now r.tokens.now (names_of r) s)
    (λ of at b asks. asks.1) (λ of rows after at result one. one.1.0)
    (variants_list _ _ c.args.self.now.tokens_good _))
