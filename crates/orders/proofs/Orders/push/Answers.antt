-- `orders::Orders::push` meets its contract: the next order is stored. Assumes nothing.
use Rattle.std.proofs.Common.{arith}
use Rattle.orders.proofs.Laws.{pushed}
use Rattle.orders.proofs.Orders.push.Goals as goal

pub returns-clause-more : goal.returns-clause-more
returns-clause-more c =
    let o = c.args.self.now in
    pushed o.count o.list.now c.args.order (omega (arith, c.requires, c.well_formed))
