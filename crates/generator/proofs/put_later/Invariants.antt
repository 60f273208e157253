-- What writes the records that are left makes of the page what the contract says. Assumes nothing.
use Rattle.std.proofs.Common.{◌-◌}
use Rattle.records.specs.Bytes.{sheet_bytes}
use Rattle.text.specs.declared.Page.{Page}
use Rattle.text.specs.Text.{HasRoom, Puts}
use Rattle.draws.specs.Draws.{later}
use Rattle.generator.proofs.put_later.Given as goal

abbrev pub invariant-loop : goal.invariant-loop
invariant-loop l =
    let left = sheet_bytes (later (l.k - l.counter) l.draws.state) in
    HasRoom l.page left × ((q : Page) → Puts l.page left q → Puts l.fn.page (sheet_bytes (later l.fn.k l.fn.draws.state)) q)
