-- `limits::trials` meets its contract, by computation. Assumes nothing.
use Rattle.model.specs.Runs.{run, answers}
use Rattle.model.specs.Trials.{holds, all_hold}
use Rattle.limits.specs.Limits.{LimitsHold}
use Rattle.limits.proofs.trials.Goals as goal

pub returns : goal.returns
unfolding LimitsHold all_hold holds run answers
returns c = tt
