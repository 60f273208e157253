-- The loop's invariant: `counter` of the records are written.
use Rattle.std.proofs.Common.{replicate}
use Rattle.model.specs.Records.{of}
use Rattle.text.specs.Text.{Puts}
use Rattle.records.specs.Bytes.{sheet_bytes}
use Rattle.orders.proofs.Order.put.Given as goal

abbrev pub invariant-loop : goal.invariant-loop
invariant-loop l = Puts l.fn.page (sheet_bytes (replicate l.counter (of l.fn.self.step l.fn.self.board))) l.page
