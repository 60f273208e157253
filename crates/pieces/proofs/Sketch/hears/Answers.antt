-- `pieces::Sketch::hears` meets its contract: two records, one after the other. Assumes nothing.
use Rattle.recovery.specs.Plan.{hears}
use Rattle.pieces.proofs.Standing.{moves-then}
use Rattle.pieces.proofs.Sketch.hears.Goals as goal

pub returns : goal.returns
unfolding hears
returns c = moves-then c.put_unless.ensures c.put_unless-2.ensures
