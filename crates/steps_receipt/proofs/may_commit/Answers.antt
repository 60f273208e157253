-- Assumes nothing.
use Rattle.model.specs.Steps.{counted_above}
use Rattle.cluster.specs.Layout.{at_pair}
use Rattle.members.proofs.Laws.{under-meet}
use Rattle.steps_receipt.proofs.may_commit.Goals as goal

pub returns-clause-behind : goal.returns-clause-behind
returns-clause-behind c =
    let row = c.args.row.now in
    let above = counted_above (at_pair row.acked c.in_ok-b.b.number) row.issued in
    rw (c.both-behind.ensures, c.counted.ensures, under-meet above c.view-view.result.members)
    (rw (c.view-view.ensures, c.in_ok-b.ensures.number))
