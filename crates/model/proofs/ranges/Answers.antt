-- `model::ranges` meets its contract. Assumes nothing.
use Rattle.model.specs.State.{entries, outline}
use Rattle.model.specs.Ranges.{in_range, kept_in_range, RunsInRange}
use Rattle.model.specs.Claim.{after}
use Rattle.model.proofs.Tests.{join-and}
use Rattle.model.proofs.Entries.{same-entry}
use Rattle.model.proofs.Bounds.{in-range}
use Rattle.model.proofs.Made.{kept_in, terms-run}
use Rattle.model.proofs.ranges.Goals as goal

pub returns : goal.returns
unfolding RunsInRange
returns c = λ o real sts.
    join-and (in_range (outline (after entries o sts))) (kept_in_range (after entries o sts))
    (in-range entries same-entry o real sts) (kept_in (terms-run o real sts))
