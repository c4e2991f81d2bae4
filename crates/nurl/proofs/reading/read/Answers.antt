-- `nurl::reading::read` meets its contract: the answer has the demands. Assumes nothing.
use Rattle.nurl.proofs.Laws.Results.{meets}
use Rattle.nurl.proofs.reading.read.Goals as goal

pub returns-in-Ok-clause-demands : goal.returns-in-Ok-clause-demands
returns-in-Ok-clause-demands c = (meets _ _ _ _ _ c.in-Ok.ensures).1.0

pub returns-in-Err-clause-demands : goal.returns-in-Err-clause-demands
returns-in-Err-clause-demands c = rw c.from.ensures (meets _ _ _ _ _ c.in-Err.ensures).1.0
