-- The loop's invariant: the records of the orders so far are written.
use Rattle.text.specs.Text.{Puts}
use Rattle.records.specs.Bytes.{sheet_bytes}
use Rattle.orders.specs.Orders.{orders}
use Rattle.orders.proofs.put_orders.Given as goal

abbrev pub invariant-loop-order : goal.invariant-loop-order
invariant-loop-order l = Puts l.fn.page (sheet_bytes (orders l.order-index l.orders)) l.page
