-- `steps::claim` meets its contract. Assumes nothing.
use Rattle.std.proofs.Common.{refl}
use Rattle.refinement.proofs.Rows.{rows-equal, masks-fixed}
use Rattle.steps.specs.Calls.{NamesHold}
use Rattle.steps.proofs.Following.{calls-safe}
use Rattle.steps.proofs.claim.Goals as goal

pub returns : goal.returns
unfolding NamesHold
returns c = (calls-safe, (λ a b v. refl), rows-equal, masks-fixed)
