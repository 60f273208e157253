-- `seedline::claim` meets its contract. Assumes nothing.
use Rattle.seedline.proofs.Line.{lines-differ, lines-seen, lines-look, others-refused}
use Rattle.seedline.proofs.claim.Goals as goal

pub returns : goal.returns
returns c = (lines-differ, lines-seen, lines-look, others-refused)
