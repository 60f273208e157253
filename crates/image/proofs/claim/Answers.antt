-- `image::claim` meets its contract. Assumes nothing.
use Rattle.image.proofs.Fitting.{taken-fits, past-left}
use Rattle.image.proofs.Writing.{images-tell}
use Rattle.image.proofs.Returning.{reads-back}
use Rattle.image.proofs.Resuming.{resumes}
use Rattle.image.proofs.claim.Goals as goal

pub returns : goal.returns
returns c = (reads-back, resumes, images-tell, taken-fits, past-left)
