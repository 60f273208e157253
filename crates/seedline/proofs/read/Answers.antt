-- `seedline::read` meets its contract: another line is not that of the numbers which are read. Assumes nothing.
use Rattle.std.proofs.Common.{arith}
use Rattle.std.proofs.lemmas.Grind.{common_steps}
use Rattle.seedline.proofs.Line.{asked, seed-read, count-read}
use Rattle.seedline.proofs.read.Goals as goal

pub returns-else-same : goal.returns-else-same
returns-else-same c = λ s n a.
    let e = seed-read a _ c.number_at-seed.ensures.0 in
    let f = count-read a _ _ c.number_at-seed.ensures.1 c.number_at-count.ensures.0 in
    grind (arith, common_steps, asked)
