-- `recovery::lists` meets its contract. Assumes nothing.
use Rattle.model.proofs.Entries.{same-entry}
use Rattle.model.specs.State.{entries}
use Rattle.recovery.specs.Claim.{AnyPlan}
use Rattle.recovery.proofs.Accepted.{any-plan}
use Rattle.recovery.proofs.lists.Goals as goal

pub returns : goal.returns
unfolding AnyPlan
returns c = λ s list e. any-plan entries same-entry s list e
