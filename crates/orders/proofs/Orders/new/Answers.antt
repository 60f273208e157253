-- `orders::Orders::new` meets its contract: no order, no record. Assumes nothing.
use Rattle.orders.proofs.Laws.{orders-none}
use Rattle.orders.proofs.Orders.new.Goals as goal

pub returns-clause-none : goal.returns-clause-none
returns-clause-none c = orders-none _
