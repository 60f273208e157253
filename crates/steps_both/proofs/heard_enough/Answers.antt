-- `steps_both::heard_enough` meets its contract. Assumes nothing.
use Rattle.std.proofs.Common.{rules}
use Rattle.model.specs.Steps as S
use Rattle.cluster.specs.Layout.{controller_of}
use Rattle.cluster.proofs.Laws.{at-index}
use Rattle.steps_both.proofs.heard_enough.Goals as goal

pub returns : goal.returns
returns c =
    let d = c.args.c.now in
    c.filter.ensures (S.heard_enough (controller_of d)) (λ b t e. rw (at-index 0 d.heard b.number b.least) (search rules))
