-- The tests of b are those of the replica b.
use Rattle.std.proofs.Common.{rules}
use Rattle.model.specs.Ranges.{every, replica_ranges}
use Rattle.cluster.specs.Layout.{outline_of}
use Rattle.cluster.proofs.ranges.replicas_in.Goals as goal

pub returns : goal.returns
returns c =
    c.every_board.ensures (λ b. every (replica_ranges (outline_of c.args.row.now) b)) (λ b r h. search rules)
