-- The main theorem, for grammar 1.7: for every source, list of names and pair of tables the computed answer meets the three demands,
-- and a reader that meets them gives that answer. Assumes nothing.
use Prim.Native.Nat.{ℕ}
use mathlib.Core.Path.{◌≡◌}
use mathlib.Core.List.{List}
use native.Mathlib.Omega.{arith}
use Rattle.grammar.specs.Languages.{language17}
use Rattle.grammar.proofs.Laws.Nurl17.{fit17}
use Rattle.answer.specs.executable.Answers.{answer17}
use Rattle.answer.specs.Results.{level_limit}
use Rattle.answer.specs.Demands.{Reader, MeetsDemands}
use Rattle.answer.proofs.Laws.Answers.{answered_demands, demands_answered}

pub answer_meets : MeetsDemands answer17
answer_meets source names tokens rows = answered_demands language17 source names level_limit tokens rows fit17 (omega arith)

pub answer_only : (reader : Reader) → MeetsDemands reader
    → (source names tokens rows : List ℕ) → reader source names tokens rows ≡ answer17 source names tokens rows
answer_only reader meets source names tokens rows =
    demands_answered language17 source names level_limit tokens rows fit17 (omega arith) (reader source names tokens rows)
    (meets source names tokens rows)
