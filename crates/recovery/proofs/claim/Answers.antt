-- `recovery::claim` meets its contract. Assumes nothing.
use Rattle.model.proofs.Entries.{same-entry}
use Rattle.model.specs.State.{entries}
use Rattle.recovery.specs.Claim.{RunsRecover}
use Rattle.recovery.proofs.Recovering.{recovers}
use Rattle.recovery.proofs.claim.Goals as goal

pub returns : goal.returns
unfolding RunsRecover
returns c = λ o real sts low. recovers entries same-entry o real sts low
