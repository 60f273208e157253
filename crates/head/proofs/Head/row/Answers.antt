-- Part by part. Assumes nothing.
use Rattle.std.proofs.Common.{rules}
use Rattle.head.specs.Head.{row_at}
use Rattle.head.proofs.Head.row.Goals as goal

pub returns : goal.returns
unfolding row_at
returns c = search rules
