-- The test of b is that of the log of b.
use Rattle.std.proofs.Common.{rules, map}
use Rattle.model.specs.Ranges.{every, is_epoch}
use Rattle.logstore.specs.Log.{log_of}
use Rattle.cluster.specs.Layout.{at}
use Rattle.refinement.proofs.Turning.{short-at}
use Rattle.kept.proofs.logs.Goals as goal

pub every_board-requires : goal.every_board-requires
every_board-requires c = search (rules, short-at)

pub returns : goal.returns
returns c =
    let a = c.args in
    c.every_board.ensures (λ b. every (map is_epoch (log_of a.terms.now b (at 0 a.row.now.len b)))) (λ b r h. search rules)
