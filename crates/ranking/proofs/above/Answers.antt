-- `ranking::above` meets its contract. Assumes nothing.
use Rattle.std.proofs.Common.{rules}
use Rattle.model.specs.Steps.{above}
use Rattle.cluster.specs.Layout.{controller_of}
use Rattle.ranking.proofs.above.Goals as goal

pub returns : goal.returns
returns c = c.filter.ensures (above (controller_of c.args.c.now) c.args.b.number) (λ x t e. search rules)
