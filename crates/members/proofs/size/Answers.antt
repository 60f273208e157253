-- `members::size` meets its contract: the ones of a mask are its replicas. Assumes nothing.
use Rattle.std.proofs.Common.{rules}
use Rattle.members.proofs.Laws.{ones-size}
use Rattle.members.proofs.size.Goals as goal

pub returns : goal.returns
returns c = ones-size c.args.m (search rules)
