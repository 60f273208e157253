-- `guiding::plan_image` meets its contract: the image is taken up, and the list of its row is given. Assumes nothing.
use Rattle.std.proofs.Common.{refl, sym, ◌∙◌}
use Rattle.refusal.specs.declared.Refusal.TheVariants.{Room}
use Rattle.refusal.proofs.Checks.{passed, failed, left}
use Rattle.delivery.specs.Delivery.{enough}
use Rattle.guiding.proofs.Guides.{image-short, image-refused, taken-fit, image-given}
use Rattle.guiding.proofs.plan_image.Goals as goal

pub returns-in_err-ensure : goal.returns-in_err-ensure
returns-in_err-ensure c =
    let a = c.args in
    let q = failed (enough a.out.now) Room _ c.from_residual.ensures.1 (sym c.in_err-ensure.was ∙ c.ensure.ensures) in
    let e = image-short a.image.now a.out.now a.scratch.now q.0 q.1 in
    record { result = e.0; list = e.1; scratch = e.2 }

pub returns-in_err-load : goal.returns-in_err-load
returns-in_err-load c =
    let a = c.args in
    let r = passed (enough a.out.now) Room (sym c.in_ok-ensure.was ∙ c.ensure.ensures) in
    let e = image-refused a.image.now _ a.scratch.now _ _ _ c.in_err-load.ensures.loads a.out.now r _ refl
    (left _ c.from_residual-in_err-load.ensures.1) in
    record { result = e.0; list = e.1; scratch = e.2 }

pub give-requires-clause-fit : goal.give-requires-clause-fit
give-requires-clause-fit c =
    let a = c.args in
    let r = passed (enough a.out.now) Room (sym c.in_ok-ensure.was ∙ c.ensure.ensures) in
    taken-fit a.image.now _ a.scratch.now _ _ _ c.in_ok-load.ensures.loads a.out.now r refl c.typed.ensures

pub returns : goal.returns
returns c =
    let a = c.args in
    let r = passed (enough a.out.now) Room (sym c.in_ok-ensure.was ∙ c.ensure.ensures) in
    let e = image-given a.image.now _ a.scratch.now _ _ _ c.in_ok-load.ensures.loads a.out.now r refl
    c.give.ensures.result c.give.ensures.list in
    record { result = e.0; list = e.1; scratch = e.2 }
