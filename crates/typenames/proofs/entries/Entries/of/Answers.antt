-- `typenames::entries::Entries::of` meets its contract. Assumes nothing.
use mathlib.Core.Path.{sym}
use native.Mathlib.Omega.{arith}
use borrow.Author.Tests.{tests}
use Rattle.typenames.proofs.Laws.Entries.{entries_some, entries_none}
use Rattle.typenames.proofs.entries.Entries.of.Goals as goal

pub returns-then-is_empty : goal.returns-then-is_empty
returns-then-is_empty c = sym (entries_none c.args.list.now (grind (arith, tests)))

pub returns : goal.returns
returns c = sym (entries_some c.args.list.now (grind (arith, tests)))
