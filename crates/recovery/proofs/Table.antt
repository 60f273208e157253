-- The trials hold, by computation. Assumes nothing.
use Rattle.model.specs.Runs.{run, answers}
use Rattle.recovery.specs.Plan.{times, turns, put, put_unless, need, informs_controller, hears, choosing_part, informs, receives, follows, reads_leader, waiting_part, draft, plan}
use Rattle.recovery.specs.Trials.{TrialsHold, holds, all_hold}

pub trials-hold : TrialsHold
unfolding TrialsHold all_hold holds run answers plan draft choosing_part waiting_part informs_controller hears informs
trials-hold = unfold reads_leader follows receives put put_unless need times turns in tt
