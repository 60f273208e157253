-- `orders::Orders::kept` meets its contract: the first of the list. Assumes nothing.
use Rattle.orders.proofs.Laws.{all-taken}
use Rattle.orders.proofs.Orders.kept.Goals as goal

pub returns-clause-records : goal.returns-clause-records
returns-clause-records c = all-taken c.args.self.now.count c.args.self.now.list.now c.args.self.now.few
