-- The trials hold, by computation. Assumes nothing.
use Rattle.model.specs.Runs.{run, answers}
use Rattle.model.specs.Trials.{TrialsHold, OthersHold, holds, all_hold}

pub trials-hold : TrialsHold
unfolding TrialsHold all_hold holds run answers
trials-hold = tt

pub others-hold : OthersHold
unfolding OthersHold all_hold holds run answers
others-hold = tt
