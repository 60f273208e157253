-- `hub::claim` meets its contract. Assumes nothing.
use Rattle.hub.proofs.Putting.{put-back}
use Rattle.hub.proofs.Mixing.{links-safe}
use Rattle.hub.proofs.Fixed.{lent-fixed}
use Rattle.hub.proofs.claim.Goals as goal

pub returns : goal.returns
returns c = (put-back, links-safe, lent-fixed)
