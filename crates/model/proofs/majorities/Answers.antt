-- `model::majorities` meets its contract. Assumes nothing.
use Rattle.model.proofs.Majority as Majority
use Rattle.model.proofs.majorities.Goals as goal

pub returns : goal.returns
returns c = Majority.majorities
