-- `model::carriers` meets its contract. Assumes nothing.
use Rattle.model.proofs.Carried.{carriers-hold}
use Rattle.model.proofs.carriers.Goals as goal

pub returns : goal.returns
returns c = carriers-hold
