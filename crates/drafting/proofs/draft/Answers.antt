-- `drafting::draft` meets its contract: none, the waiting part, or both parts. Assumes nothing.
use Rattle.std.proofs.Common.{ap}
use Rattle.cluster.specs.Layout.{status_of}
use Rattle.pieces.proofs.Standing.{moves-then}
use Rattle.drafting.proofs.Parts.{draft-normal, draft-waiting, draft-choosing}
use Rattle.drafting.proofs.draft.Goals as goal

pub returns-in-Normal : goal.returns-in-Normal
returns-in-Normal c = draft-normal _ (ap status_of c.in-Normal.is)

pub returns-in-Waiting : goal.returns-in-Waiting
returns-in-Waiting c = draft-waiting _ (ap status_of c.in-Waiting.is) c.waiting_part.ensures

pub returns-in-Choosing : goal.returns-in-Choosing
returns-in-Choosing c =
    draft-choosing _ (ap status_of c.in-Choosing.is)
    (moves-then c.choosing_part.ensures c.waiting_part-in-Choosing.ensures)
