-- `pieces::Sketch::follows` meets its contract: four pieces, one after the other. Assumes nothing.
use Rattle.recovery.specs.Plan.{follows}
use Rattle.pieces.proofs.Standing.{moves-then}
use Rattle.pieces.proofs.Sketch.follows.Goals as goal

pub returns : goal.returns
unfolding follows
returns c =
    moves-then (moves-then (moves-then c.informs.ensures c.put_unless.ensures) c.receives.ensures)
    c.put_unless-2.ensures
