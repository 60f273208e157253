-- `members::has` meets its contract. Assumes nothing.
use Rattle.std.proofs.Common.{sym, rules}
use Rattle.members.proofs.Laws.{bits_at}
use Rattle.members.proofs.has.Goals as goal

pub returns : goal.returns
returns c = rw c.index.ensures.place (sym (bits_at c.args.m c.args.b.number (search rules) (search rules)))
