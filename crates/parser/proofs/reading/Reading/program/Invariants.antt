-- What the loop of `Reading::program` keeps. Assumes nothing.
use mathlib.Core.List.{[], ◌∷◌}
use Rattle.lexer.specs.Table.{token_room}
use Rattle.lexer.specs.internal.TokenRows.{rows_of}
use Rattle.tree.specs.internal.RowKinds.{program_row}
use Rattle.grammar.specs.Grammars.{derived, gives_row}
use Rattle.grammar.specs.Nurl.{productions}
use Rattle.grammar.specs.Languages.{language17}
use Rattle.grammar.specs.Sources.{view_of}
use Rattle.grammar.specs.internal.Nonterminals.{program, declarations}
use Rattle.parser.specs.internal.Steps.{Read, step_at}
use Rattle.parser.specs.internal.Readers.{names_of}
use Rattle.parser.proofs.Laws.After.{After}
use Rattle.parser.proofs.Laws.Loops.{ahead}
use Rattle.parser.proofs.reading.Reading.program.Given as goal

abbrev pub invariant-loop-rows : goal.invariant-loop-rows
invariant-loop-rows l =
    After productions (view_of language17 l.self.source.now (rows_of l.self.tokens.now)) (token_room l.self.tokens.now) (names_of l.self)
    l.left l.below (gives_row program_row) 0 1 (derived program ∷ []) (derived declarations ∷ [])
    (Read 0 0) l.initial.rows (step_at l.place) l.rows

abbrev pub decreases-loop-rows : goal.decreases-loop-rows
decreases-loop-rows l = ahead l.self.tokens.now (step_at l.place)
