-- `members::put` meets its contract. Assumes nothing.
use Rattle.std.proofs.Common.{rules}
use Rattle.members.proofs.Laws.{bits_put}
use Rattle.members.proofs.put.Goals as goal

pub returns : goal.returns
returns c =
    rw (c.index.ensures.place, c.index-2.ensures.place)
    (bits_put c.args.m c.args.b.number c.args.present (search rules) (search rules) (search rules))
