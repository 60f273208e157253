-- `members::single` meets its contract. Assumes nothing.
use Rattle.std.proofs.Common.{rules}
use Rattle.members.proofs.Laws.{bits-single}
use Rattle.members.proofs.single.Goals as goal

pub returns : goal.returns
returns c = rw c.index.ensures.place (bits-single c.args.b.number (search rules) (search rules))
