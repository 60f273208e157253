-- `steps_both::install` meets its contract. Assumes nothing.
use Rattle.std.proofs.Common.{rules, add-one, ◌∙◌}
use Rattle.std.proofs.lemmas.Result.{err_from_is_err_and}
use Rattle.model.specs.Steps as S
use Rattle.cluster.proofs.Steps.{settles_refused, settles_accepted}
use Rattle.steps_both.proofs.install.Goals as goal

pub returns-in_err-may_install : goal.returns-in_err-may_install
returns-in_err-may_install c =
    let a = c.args in
    let b = c.in_ok-b in
    let e = c.from_residual-in_err-may_install in
    let p = err_from_is_err_and e.result e.ensures.1 in
    rw (p.1, p.2) (settles_refused (S.install a.b) a.r.now a.c.now _
    (λ s. rw (b.ensures.test, ← b.ensures.number)
    (c.in_err-may_install.ensures.checks ∙ rw (c.are_enough.ensures, c.ranked_not_above-fit.ensures))))

pub returns : goal.returns
returns c =
    let a = c.args in
    let b = c.in_ok-b in
    settles_accepted (S.install a.b) a.r.now _ a.c.now _ _
    (λ s. rw (b.ensures.test, ← b.ensures.number)
    (c.in_ok-may_install.ensures.checks ∙ rw (c.are_enough.ensures, c.ranked_not_above-fit.ensures)))
    (λ s. rw (← b.ensures.number) (search rules))
    (λ s. rw (add-one a.r.now.view.epoch, b.ensures.number))
    (λ s. c.deaf.ensures ∙ rw (add-one a.r.now.view.epoch, b.ensures.number))
