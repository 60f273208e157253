-- `steps_both::ranked_not_above` meets its contract. Assumes nothing.
use Rattle.std.proofs.Common.{rules}
use Rattle.model.specs.Steps as S
use Rattle.cluster.specs.Layout.{controller_of}
use Rattle.cluster.proofs.Laws.{at-index}
use Rattle.steps_both.proofs.ranked_not_above.Goals as goal

pub returns : goal.returns
returns c =
    let a = c.args in
    let d = a.c.now in
    c.filter.ensures (S.ranked_not_above (controller_of d) a.b.number)
    (λ b t e. rw (at-index 0 d.heard b.number b.least) (search rules))
