-- `orders::Order::put` meets its contract: one record after the other. Assumes nothing.
use Rattle.std.proofs.Common.{sym, ap, arith}
use Rattle.model.specs.Records.{of}
use Rattle.text.proofs.Laws.{puts-nothing, puts-then, puts_as}
use Rattle.records.specs.Bytes.{record_bytes}
use Rattle.orders.proofs.Laws.{same-none, same-next, same-room}
use Rattle.orders.proofs.Order.put.Goals as goal

pub loop-init : goal.loop-init
loop-init c = puts_as (sym (same-none (of c.args.self.step c.args.self.board))) (puts-nothing _)

pub put-requires : goal.put-requires
put-requires c =
    same-room _ _ c.record-r.ensures c.args.self.times c.loop.counter (omega arith) c.requires c.loop.invariant

pub loop-preserved : goal.loop-preserved
loop-preserved c =
    puts_as (sym (same-next c.loop.counter _))
    (puts-then c.loop.invariant (puts_as (ap record_bytes c.record-r.ensures) c.put.ensures))
