-- `generator::claim` meets its contract. Assumes nothing.
use Rattle.generator.proofs.WellFormed.{well-made}
use Rattle.generator.proofs.claim.Goals as goal

pub returns : goal.returns
returns c = well-made
