-- `running::begin` meets its contract: the sheet's board is one that can be opened. Assumes nothing.
use Rattle.std.proofs.Common.{ap}
use Rattle.model.specs.Records as R
use Rattle.cluster.specs.Ended.{outcome}
use Rattle.running.proofs.Playing.{begun}
use Rattle.running.proofs.begin.Goals as goal

pub returns : goal.returns
returns c =
    let x = c.opening.result in
    begun c.args.sheet.now c.requires _ (ap (λ (r : R.Record). r.board) c.at.ensures) (outcome x.1 x.0) c.opening.ensures
