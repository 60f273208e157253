-- `guiding::claim` meets its contract. Assumes nothing.
use Rattle.guiding.proofs.Guides.{sheets-recover, images-agree}
use Rattle.guiding.proofs.Lengths.{lengths-tell}
use Rattle.guiding.proofs.claim.Goals as goal

pub returns : goal.returns
returns c = (sheets-recover, lengths-tell, images-agree)
