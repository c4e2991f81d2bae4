-- `typenames::entries::Entries`'s `next` gives the first of the entries that are left. Assumes nothing.
use mathlib.Core.Path.{◌≡◌, ◌∙◌, ap}
use mathlib.Core.List.{◌∷◌}
use lib.ListN.{length}
use native.Mathlib.Omega.{arith}
use Rattle.lexer.specs.Bytes.{is_in_line}
use Rattle.lexer.proofs.Laws.Runs.{run_le}
use Rattle.typenames.specs.internal.Entries.{entries_of_rest, entries_left}
use Rattle.typenames.proofs.Laws.Entries.{entries_next}
use Rattle.typenames.proofs.entries.EntriesIterator.next.Goals as goal
use Rattle.typenames.proofs.entries.EntriesIterator.next.Goals.{After-get-self}

-- the entry that is given, and those that are left
given : (c : After-get-self) → entries_left c.args.self.now ≡ c.split_at.result.0.now ∷ entries_of_rest c.get-self.result
given c =
    let e = c.split_at.ensures in
    let next = entries_next c.in_ok-list.list.now _ _ (let r = c.run_end-end.ensures in omega arith) e.back c.get-self.result c.get-self.ensures.lookup in
    ap entries_of_rest c.in_ok-list.was ∙ next ∙ rw e.front

pub split_at-requires : goal.split_at-requires
split_at-requires c = let le = run_le is_in_line c.in_ok-list.list.now in omega arith

pub returns-clause-steps : goal.returns-clause-steps
returns-clause-steps c = given (goal.at.returns-clause-steps c).After-get-self

pub returns-clause-goes : goal.returns-clause-goes
returns-clause-goes c =
    let less = ap length (given (goal.at.returns-clause-goes c).After-get-self) in
    record { on = λ _. (tt, tt, omega arith); keeps = tt; rests = λ _. tt }
