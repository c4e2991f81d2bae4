-- `Reading::definition` meets its contract. Assumes nothing.
use Rattle.grammar.specs.internal.Nonterminals.{declaration}
use Rattle.parser.proofs.Laws.Openings.{no_declaration}
use Rattle.parser.proofs.Laws.Results.{some_kind}
use Rattle.parser.proofs.reading.Reading.definition.Goals as goal

pub open-opened-requires-clause-some : goal.open-opened-requires-clause-some
open-opened-requires-clause-some c = some_kind declaration no_declaration _ c.requires.form
