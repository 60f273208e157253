-- `orders::total` meets its contract: the records of one order after the other. Assumes nothing.
use Rattle.std.proofs.Common.{refl, sym, ap, arith, length}
use Rattle.orders.proofs.Laws.{orders-none, count-next}
use Rattle.orders.proofs.total.Goals as goal

pub loop-order-init : goal.loop-order-init
loop-order-init c = (sym (ap length (orders-none _)), omega arith)

pub loop-order-preserved : goal.loop-order-preserved
loop-order-preserved c =
    let l = c.loop-order in
    let more = count-next l.order-index c.args.orders.now _ refl in
    (omega (arith, l.invariant.0, more), omega (arith, l.invariant.1))
