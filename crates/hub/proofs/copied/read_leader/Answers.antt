-- Refusal 1, or the core's step.
use Rattle.std.proofs.Common.{refl}
use Rattle.std.proofs.lemmas.Result.{err_from_is_err_and}
use Rattle.model.specs.Steps as S
use Rattle.hub.proofs.Lending.{turned-away, let-through, lends, leader-told}
use Rattle.hub.proofs.copied.read_leader.Goals as goal

pub returns-in_err-ensure : goal.returns-in_err-ensure
returns-in_err-ensure c =
    let p = err_from_is_err_and c.from_residual.result c.from_residual.ensures.1 in
    rw (p.1, p.2) (turned-away _ _ _ _ _ _ c.leader.ensures c.in_err-ensure.ensures)

pub returns : goal.returns
returns c =
    let a = c.args in
    lends S.read_leader (λ s. refl) (λ m. refl) a.c _ c.read_leader.result c.read_leader.ensures _ _
    (let-through _ _ _ c.leader.ensures c.in_ok-ensure.ensures) (λ s k. leader-told a.c a.x s k (let-through _ _ _ c.leader.ensures c.in_ok-ensure.ensures))
