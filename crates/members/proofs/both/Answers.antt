-- `members::both` meets its contract. Assumes nothing.
use Rattle.members.proofs.Laws.{bits-both}
use Rattle.members.proofs.both.Goals as goal

pub returns : goal.returns
returns c = bits-both c.args.m c.args.q
