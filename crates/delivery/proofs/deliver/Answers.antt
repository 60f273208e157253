-- `delivery::deliver` meets its contract: error 20, or the list. Assumes nothing.
use Rattle.std.proofs.Common.{arith}
use Rattle.records.proofs.Encoding.{sheet-length}
use Rattle.orders.specs.Orders.{all_of}
use Rattle.delivery.proofs.deliver.Goals as goal

pub put_orders-requires : goal.put_orders-requires
put_orders-requires c = grind (arith, c.in_ok-ensure.was, sheet-length (all_of c.args.orders.now))
