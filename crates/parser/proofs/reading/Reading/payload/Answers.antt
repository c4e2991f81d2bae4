-- `Reading::payload` meets its contract. Assumes nothing.
use mathlib.Core.Path.{◌∙◌}
use native.Mathlib.Numerals.{add-one}
use Rattle.parser.proofs.Laws.Results.{no_level}
use Rattle.parser.proofs.Laws.Matches.{payload_kind, payload_leaf, payload_deep}
use Rattle.parser.proofs.reading.Reading.payload.Goals as goal

pub returns-in_err-below-clause-reads : goal.returns-in_err-below-clause-reads
returns-in_err-below-clause-reads c = λ source e.
    no_level _ _ c.from_residual.ensures.1 c.in_err-below.ensures.stops (payload_deep source _ c.args.self.now.tokens_good e _ c.requires.from_value)

pub leaf-requires-clause-some : goal.leaf-requires-clause-some
leaf-requires-clause-some c = payload_kind c.requires.from_value

pub returns-clause-reads : goal.returns-clause-reads
returns-clause-reads c = λ source e.
    payload_leaf source _ c.args.self.now.tokens_good e c.requires.from_value c.requires.stands
    (c.in_ok-below.ensures.goes ∙ add-one _) c.leaf.ensures.answer c.leaf.ensures.table
