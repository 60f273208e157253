-- Assumes nothing.
use Rattle.std.proofs.Common.{rules}
use Rattle.model.specs.Steps.{counted_above}
use Rattle.cluster.specs.Layout.{at_pair}
use Rattle.steps_receipt.proofs.counted.Goals as goal

pub returns : goal.returns
returns c =
    c.gather.ensures (counted_above (at_pair c.args.row.now.acked c.args.b.number) c.args.row.now.issued)
    (λ x t k. search rules)
