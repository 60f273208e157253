-- `orders::put_orders` meets its contract: one order after the other. Assumes nothing.
use Rattle.std.proofs.Common.{refl, sym, length}
use Rattle.text.proofs.Laws.{puts-nothing, puts-then, puts_as}
use Rattle.orders.proofs.Laws.{bytes-none, bytes-next, order-room}
use Rattle.orders.proofs.put_orders.Goals as goal

pub loop-order-init : goal.loop-order-init
loop-order-init c = puts_as (sym (bytes-none c.args.orders.now)) (puts-nothing _)

pub put-requires : goal.put-requires
put-requires c =
    let os = c.args.orders.now in
    let l = c.loop-order in
    order-room _ _ os (length os) l.order-index _ c.loop-order-test.true refl c.requires l.invariant

pub loop-order-preserved : goal.loop-order-preserved
loop-order-preserved c =
    let l = c.loop-order in
    puts_as (sym (bytes-next l.order-index c.args.orders.now _ refl)) (puts-then l.invariant c.put.ensures)
