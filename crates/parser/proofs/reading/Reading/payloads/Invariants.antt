-- What the loop of `Reading::payloads` keeps. Assumes nothing.
use mathlib.Core.List.{List, [], ◌∷◌}
use Prim.Native.Nat.{ℕ}
use Rattle.lexer.specs.Table.{token_room}
use Rattle.lexer.specs.internal.TokenRows.{rows_of}
use Rattle.grammar.specs.Grammars.{derived, no_row, Names}
use Rattle.grammar.specs.internal.Nonterminals.{payloads3}
use Rattle.grammar.specs.Nurl.{productions}
use Rattle.grammar.specs.Languages.{language17}
use Rattle.grammar.specs.Sources.{view_of}
use Rattle.parser.specs.internal.Steps.{step_at}
use Rattle.parser.proofs.Laws.After.{After}
use Rattle.parser.proofs.Laws.Matches.{payloads_left}
use Rattle.parser.proofs.reading.Reading.payloads.Given as goal

abbrev pub invariant-loop : goal.invariant-loop
invariant-loop l =
    (source : List ℕ) (e : Names) →
    After productions (view_of language17 source (rows_of l.self.tokens.now)) (token_room l.self.tokens.now) e l.left l.left no_row 0 0
    (derived payloads3 ∷ []) (payloads_left l.counter) (step_at l.initial.place) l.initial.rows (step_at l.place) l.rows
