-- `model::records` meets its contract. Assumes nothing.
use Rattle.model.proofs.Forms.{forms}
use Rattle.model.proofs.records.Goals as goal

pub returns : goal.returns
returns c = forms
