-- `shown::refusals` meets its contract, by computation. Assumes nothing.
use Rattle.shown.specs.Refusals.{RefusalsHold}
use Rattle.shown.proofs.refusals.Goals as goal

pub returns : goal.returns
unfolding RefusalsHold
returns c = tt
