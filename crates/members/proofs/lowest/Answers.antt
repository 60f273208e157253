-- `members::lowest` meets its contract: the zeros below a mask's lowest one are the replicas below its lowest member.
-- Assumes nothing.
use Rattle.std.proofs.Common.{rules}
use borrow.Author.Tests.{eq-eqb, ne_eqb}
use Rattle.members.proofs.Laws.{zeros-lowest}
use Rattle.members.proofs.lowest.Goals as goal

pub returns-then-m-eq0 : goal.returns-then-m-eq0
returns-then-m-eq0 c = rw (eq-eqb _ 0 c.if-m-eq0.true) at (zeros-lowest c.args.m (search rules))

pub returns : goal.returns
returns c = rw (ne_eqb _ 0 c.if-m-eq0.false) at (zeros-lowest c.args.m (search rules))
