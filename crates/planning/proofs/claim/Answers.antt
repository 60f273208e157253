-- `planning::claim` meets its contract. Assumes nothing.
use Rattle.model.specs.State.{entries}
use Rattle.steps.proofs.Following.{calls-safe}
use Rattle.recovery.specs.Claim.{RunsRecover}
use Rattle.model.proofs.Entries.{same-entry}
use Rattle.recovery.proofs.Recovering.{recovers}
use Rattle.planning.proofs.Calling.{calls-recover, follows-recover}
use Rattle.planning.proofs.claim.Goals as goal

runs : RunsRecover
unfolding RunsRecover
runs = λ o real sts low. recovers entries same-entry o real sts low

pub returns : goal.returns
returns c = (calls-recover calls-safe (follows-recover runs), follows-recover runs)
