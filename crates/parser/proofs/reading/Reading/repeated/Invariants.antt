-- What the loop of every list keeps: what is read from the place reached is read from the first. Assumes nothing.
use Prim.Native.Nat.{ℕ, ◌-◌}
use mathlib.Core.List.{List}
use Rattle.lexer.specs.Table.{token_room}
use Rattle.grammar.specs.Grammars.{Names}
use Rattle.parser.specs.internal.Steps.{Step, step_at}
use Rattle.parser.specs.internal.Readers.{Stands, Repeats, ReadsAt}
use Rattle.parser.proofs.reading.Reading.repeated.Given as goal

abbrev pub invariant-loop-read : goal.invariant-loop-read
invariant-loop-read g l =
    Stands l.self 0 l.place
    × ((source : List ℕ) (e : Names) (x : ℕ) → Repeats l.self source e l.left x (goal.B-post g l.begins) (goal.R-post g l.read)
    → (to : Step) (table : List ℕ) → ReadsAt l.self source e l.left x (step_at l.place) l.rows to table
    → ReadsAt l.self source e l.left x (step_at l.initial.place) l.initial.rows to table)

abbrev pub decreases-loop-read : goal.decreases-loop-read
decreases-loop-read g l = token_room l.self.tokens.now - l.place.token
