-- Refusal 1, or the core's step.
use Rattle.std.proofs.Common.{refl}
use Rattle.std.proofs.lemmas.Result.{err_from_is_err_and}
use Rattle.model.specs.Steps as S
use Rattle.hub.proofs.Lending.{turned-away, let-through, lends, hear-told}
use Rattle.hub.proofs.copied.hear.Goals as goal

pub returns-in_err-ensure : goal.returns-in_err-ensure
returns-in_err-ensure c =
    let p = err_from_is_err_and c.from_residual.result c.from_residual.ensures.1 in
    rw (p.1, p.2) (turned-away _ _ _ _ _ _ c.report.ensures c.in_err-ensure.ensures)

pub returns : goal.returns
returns c =
    let a = c.args in
    lends (S.hear a.x.board) (λ s. refl) (λ m. refl) a.c _ c.hear.result c.hear.ensures _ _
    (let-through _ _ _ c.report.ensures c.in_ok-ensure.ensures) (hear-told a.c a.x)
