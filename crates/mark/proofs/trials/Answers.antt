-- By computation. Assumes nothing.
use Rattle.model.specs.Runs.{run, answers}
use Rattle.model.specs.Trials.{holds, all_hold}
use Rattle.mark.specs.Trials.{MarkTrialsHold}
use Rattle.mark.proofs.trials.Goals as goal

pub returns : goal.returns
unfolding MarkTrialsHold all_hold holds run answers
returns c = tt
