-- `ranking::below` meets its contract. Assumes nothing.
use Rattle.std.proofs.Common.{rules}
use Rattle.ranking.proofs.Masks.{bits-below}
use Rattle.ranking.proofs.below.Goals as goal

pub returns : goal.returns
returns c = rw c.index.ensures.place (bits-below c.args.m c.args.b.number (search rules) (search rules))
