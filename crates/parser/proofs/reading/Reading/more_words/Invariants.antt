-- What the loop of `Reading::more_words` keeps: the words up to here are read, whatever the table is, and with those to come make the whole. Assumes nothing.
use Prim.Native.Nat.{ℕ, ◌+◌}
use mathlib.Core.Path.{◌≡◌}
use lib.ListN.{drop}
use Rattle.lexer.specs.Items.{items}
use Rattle.grammar.specs.Questions.{run_of}
use Rattle.parser.specs.internal.Steps.{word_kinds}
use mathlib.Core.List.{List, [], ◌∷◌}
use Rattle.lexer.specs.Table.{token_room}
use Rattle.lexer.specs.internal.TokenRows.{rows_of}
use Rattle.grammar.specs.Grammars.{derived, no_row, Names}
use Rattle.grammar.specs.Nurl.{productions}
use Rattle.grammar.specs.Languages.{language17}
use Rattle.grammar.specs.Sources.{view_of}
use Rattle.parser.specs.internal.Steps.{step_at}
use Rattle.parser.specs.internal.Words.{with_keywords}
use Rattle.parser.proofs.Laws.After.{After}
use Rattle.parser.proofs.Laws.Words.{more_of}
use Rattle.parser.proofs.Laws.Loops.{ahead}
use Rattle.parser.proofs.reading.Reading.more_words.Given as goal

abbrev pub invariant-loop-words : goal.invariant-loop-words
invariant-loop-words l =
    ((n : ℕ) (table source : List ℕ) (e : Names) → After productions (view_of language17 source (rows_of l.self.tokens.now)) (token_room l.self.tokens.now)
    e n n no_row 0 0 (derived (more_of (with_keywords l.words)) ∷ []) (derived (more_of (with_keywords l.words)) ∷ []) (step_at l.initial.place) table
    (step_at l.place) table)
    × ((source : List ℕ) → let ts = items source (rows_of l.self.tokens.now) in
    l.place.token + run_of (word_kinds (with_keywords l.words)) (drop l.place.token ts)
    ≡ l.initial.place.token + run_of (word_kinds (with_keywords l.words)) (drop l.initial.place.token ts))

abbrev pub decreases-loop-words : goal.decreases-loop-words
decreases-loop-words l = ahead l.self.tokens.now (step_at l.place)
