-- `steps_both::set_normal` meets its contract. Assumes nothing.
use Rattle.std.proofs.Common.{◌∙◌}
use Rattle.std.proofs.lemmas.Result.{err_from_is_err_and}
use Rattle.model.specs.Steps as S
use Rattle.cluster.proofs.Steps.{settles_refused}
use Rattle.steps_both.proofs.set_normal.Goals as goal

pub returns-in_err-may_set_normal : goal.returns-in_err-may_set_normal
returns-in_err-may_set_normal c =
    let p = err_from_is_err_and c.from_residual.result c.from_residual.ensures.1 in
    rw (p.1, p.2) (settles_refused S.set_normal c.args.r.now c.args.c.now _
    (λ s. c.in_err-may_set_normal.ensures.checks ∙ rw (c.is_quorum.ensures, c.heard_enough-heard.ensures)))
