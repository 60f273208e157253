-- The loop's invariant: the records of the orders so far are counted.
use Rattle.std.proofs.Common.{◌≡◌, ◌*◌, ◌≤◌, length}
use Rattle.orders.specs.Orders.{orders}
use Rattle.orders.proofs.total.Given as goal

abbrev pub invariant-loop-order : goal.invariant-loop-order
invariant-loop-order l = (l.n ≡ length (orders l.order-index l.orders)) × (l.n ≤ 65535 * l.order-index)
