-- `recovery::trials` meets its contract. Assumes nothing.
use Rattle.recovery.proofs.Table.{trials-hold}
use Rattle.recovery.proofs.trials.Goals as goal

pub returns : goal.returns
returns c = trials-hold
