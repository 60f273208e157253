-- `guiding::plan_sheet` meets its contract: the sheet is run, and the list of its row is given. Assumes nothing.
use Rattle.std.proofs.Common.{sym, ◌∙◌}
use Rattle.refusal.specs.declared.Refusal.TheVariants.{Sheet, Room}
use Rattle.refusal.proofs.Checks.{passed, failed}
use Rattle.delivery.specs.Delivery.{enough}
use Rattle.guiding.proofs.Guides.{no-sheet, sheet-short, ran-fit, sheet-given}
use Rattle.guiding.proofs.plan_sheet.Goals as goal

pub returns-in_err-ensure : goal.returns-in_err-ensure
returns-in_err-ensure c =
    let a = c.args in
    let q = failed c.is_sheet.result Sheet _ c.from_residual.ensures.1 (sym c.in_err-ensure.was ∙ c.ensure.ensures) in
    let e = no-sheet a.sheet.now a.out.now (sym c.is_sheet.ensures ∙ q.0) q.1 in
    record { result = e.0; list = e.1 }

pub returns-in_err-ensure-2 : goal.returns-in_err-ensure-2
returns-in_err-ensure-2 c =
    let a = c.args in
    let s = sym c.is_sheet.ensures ∙ passed c.is_sheet.result Sheet (sym c.in_ok-ensure.was ∙ c.ensure.ensures) in
    let q = failed (enough a.out.now) Room _ c.from_residual-in_err-ensure-2.ensures.1
    (sym c.in_err-ensure-2.was ∙ c.ensure-2.ensures) in
    let e = sheet-short a.sheet.now a.out.now s q.0 q.1 in
    record { result = e.0; list = e.1 }

pub give-requires-clause-fit : goal.give-requires-clause-fit
give-requires-clause-fit c =
    let a = c.args in
    let s = sym c.is_sheet.ensures ∙ passed c.is_sheet.result Sheet (sym c.in_ok-ensure.was ∙ c.ensure.ensures) in
    ran-fit a.sheet.now a.out.now s _ _ _ _ c.play-row.ensures.run c.typed.ensures

pub returns : goal.returns
returns c =
    let a = c.args in
    let s = sym c.is_sheet.ensures ∙ passed c.is_sheet.result Sheet (sym c.in_ok-ensure.was ∙ c.ensure.ensures) in
    let r = passed (enough a.out.now) Room (sym c.in_ok-ensure-2.was ∙ c.ensure-2.ensures) in
    let e = sheet-given a.sheet.now a.out.now s _ _ _ _ c.play-row.ensures.run r c.give.ensures.result c.give.ensures.list in
    record { result = e.0; list = e.1 }
