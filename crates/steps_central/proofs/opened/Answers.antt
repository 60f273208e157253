-- `steps_central::opened` meets its contract. Assumes nothing.
use Rattle.steps_central.proofs.Start.{opened_with}
use Rattle.steps_central.proofs.opened.Goals as goal

pub returns : goal.returns
returns c = opened_with c.args.b.number c.single.result c.single.ensures c.deaf.result c.deaf.ensures
