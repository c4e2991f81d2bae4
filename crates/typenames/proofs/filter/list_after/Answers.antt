-- `typenames::filter::list_after` meets its contract. Assumes nothing.
use mathlib.Core.Path.{refl}
use Rattle.typenames.proofs.Laws.Prepared.{list_part}
use Rattle.typenames.proofs.filter.list_after.Goals as goal

pub returns : goal.returns
returns c = rw c.unwrap_or.ensures (list_part c.args.prepared.now c.get.result _ refl c.get.ensures.lookup)
