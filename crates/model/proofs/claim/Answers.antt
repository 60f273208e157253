-- `model::claim` meets its contract. Assumes nothing.
use Rattle.model.specs.State.{entries}
use Rattle.model.specs.Claim.{DemandThree}
use Rattle.model.proofs.Entries.{same-entry}
use Rattle.model.proofs.Theorem.{safe}
use Rattle.model.proofs.claim.Goals as goal

pub returns : goal.returns
unfolding DemandThree
returns c = record { safe = λ o real sts. safe entries same-entry o real sts; exact = same-entry }
