-- `model::trials` meets its contract. Assumes nothing.
use Rattle.model.proofs.Table.{trials-hold, others-hold}
use Rattle.model.proofs.trials.Goals as goal

pub returns : goal.returns
returns c = (trials-hold, others-hold)
