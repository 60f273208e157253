-- `seedline::answer` meets its contract. Assumes nothing.
use Rattle.std.proofs.Common.{◌≡◌, ◌≤◌, ◌*◌, length, arith}
use Rattle.generator.proofs.Sheets.{count-range, made}
use Rattle.seedline.proofs.Line.{prints-sheet}
use Rattle.seedline.proofs.answer.Goals as goal

pub unwrap-requires : goal.unwrap-requires
unwrap-requires c =
    let a = c.in-Some.ensures in
    let room : 8 * c.in-Some.count ≤ length c.args.out.now = omega (arith, count-range c.in-Some.count a.count) in
    rw (made c.in-Some.seed c.in-Some.count c.args.out.now a.count room c.seed_sheet.ensures).0

pub returns : goal.returns
returns c =
    let a = c.in-Some.ensures in
    let room : 8 * c.in-Some.count ≤ length c.args.out.now = omega (arith, count-range c.in-Some.count a.count) in
    let m = made c.in-Some.seed c.in-Some.count c.args.out.now a.count room c.seed_sheet.ensures in
    let n : 8 * c.in-Some.count ≡ c.unwrap.result = cc (m.0, c.unwrap.ensures) in
    prints-sheet a (rw n at m.1)
