-- `generator::seed_sheet` meets its contract: room for what is written after the opening. Assumes nothing.
use Rattle.std.proofs.Common.{◌≡◌, ◌-◌, ◌*◌, ◌≤◌, true, length, sym, ap, ◌∙◌, arith}
use Rattle.std.proofs.lemmas.Grind.{common_steps}
use Rattle.text.proofs.Laws.{puts-length}
use Rattle.records.specs.Record.{record_of}
use Rattle.records.proofs.Encoding.{bytes-length}
use Rattle.generator.proofs.Sheets.{count-range, later-bytes}
use Rattle.generator.proofs.seed_sheet.Goals as goal

pub put_later-requires : goal.put_later-requires
put_later-requires c =
    let passed : c.is_count.result ≡ true = grind (arith, common_steps) in
    let n = count-range c.args.count (sym c.is_count.ensures ∙ passed) in
    let room : 8 * c.args.count ≤ length c.args.sheet.now = grind (arith, common_steps) in
    omega (
      arith,
      ap length c.new-page.ensures.text,
      c.put.ensures.wrote.next,
      puts-length c.put.ensures,
      bytes-length (record_of c.next_opening.result),
      later-bytes (c.args.count - 1) c.next_opening.new.self.state,
    )
