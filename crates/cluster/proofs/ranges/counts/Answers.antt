-- The eight numbers of a's row are its counts. Assumes nothing.
use Rattle.std.proofs.Common.{◌∙◌, arith}
use Rattle.cluster.proofs.Ranging.{counted-all}
use Rattle.cluster.proofs.ranges.counts.Goals as goal

pub returns : goal.returns
returns c =
    let i = c.index-from.ensures.place in
    c.few.ensures
    ∙ counted-all c.args.row.now.acked c.args.a.number c.index-from.result _ (omega arith) (omega arith) (omega arith) i (omega arith)
