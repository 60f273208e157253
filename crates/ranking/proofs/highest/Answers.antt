-- `ranking::highest` meets its contract. Assumes nothing.
use Rattle.std.proofs.Common.{ap, ◌∙◌, rules}
use lib.Dec.{eqb}
use Rattle.model.specs.Members.{◌∩◌, size, lowest}
use Rattle.model.specs.Steps.{above}
use Rattle.members.specs.Mask.{bits}
use Rattle.cluster.specs.Layout.{controller_of}
use Rattle.ranking.proofs.highest.Goals as goal

pub returns : goal.returns
returns c =
    let q = bits c.args.q in
    c.lowest.ensures
    ∙ ap lowest
    (c.filter.ensures (λ b. eqb (size (q ∩ above (controller_of c.args.c.now) b)) 0) (λ x t e. search rules))
