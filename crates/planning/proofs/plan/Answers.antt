-- `planning::plan` meets its contract: refusals 1 and 3, or the list of copies. Assumes nothing.
use Rattle.std.proofs.Common.{sym, ◌∙◌}
use Rattle.refusal.specs.declared.Refusal.TheVariants.{Invalid, Room}
use Rattle.refusal.proofs.Checks.{passed, failed}
use Rattle.refinement.specs.Lent.{places_of}
use Rattle.shown.proofs.Valid.{valid-full}
use Rattle.delivery.specs.Delivery.{enough}
use Rattle.planning.proofs.Calling.{plans-invalid, plans-short, plans-list, copied, copies-fit, copies-give}
use Rattle.planning.proofs.plan.Goals as goal

pub returns-in_err-ensure : goal.returns-in_err-ensure
returns-in_err-ensure c =
    let q = failed c.fits.result Invalid _ c.from_residual.ensures.1 (sym c.in_err-ensure.was ∙ c.ensure.ensures) in
    plans-invalid c.args.row.now (places_of c.args.p) c.args.out.now (sym c.fits.ensures.test ∙ q.0) q.1

pub returns-in_err-ensure-2 : goal.returns-in_err-ensure-2
returns-in_err-ensure-2 c =
    let v = sym c.fits.ensures.test ∙ passed c.fits.result Invalid (sym c.in_ok-ensure.was ∙ c.ensure.ensures) in
    let q = failed (enough c.args.out.now) Room _ c.from_residual-in_err-ensure-2.ensures.1
    (sym c.in_err-ensure-2.was ∙ c.ensure-2.ensures) in
    plans-short c.args.row.now (places_of c.args.p) c.args.out.now v q.0 q.1

pub copy_from_slice-requires : goal.copy_from_slice-requires
copy_from_slice-requires c =
    let v = sym c.fits.ensures.test ∙ passed c.fits.result Invalid (sym c.in_ok-ensure.was ∙ c.ensure.ensures) in
    sym (valid-full c.args.row.now (places_of c.args.p) v).store

pub copy_from_slice-requires-2 : goal.copy_from_slice-requires-2
copy_from_slice-requires-2 c =
    let v = sym c.fits.ensures.test ∙ passed c.fits.result Invalid (sym c.in_ok-ensure.was ∙ c.ensure.ensures) in
    sym (valid-full c.args.row.now (places_of c.args.p) v).store2

pub copy_from_slice-requires-3 : goal.copy_from_slice-requires-3
copy_from_slice-requires-3 c =
    let v = sym c.fits.ensures.test ∙ passed c.fits.result Invalid (sym c.in_ok-ensure.was ∙ c.ensure.ensures) in
    sym (valid-full c.args.row.now (places_of c.args.p) v).list

pub copy_from_slice-requires-4 : goal.copy_from_slice-requires-4
copy_from_slice-requires-4 c =
    let v = sym c.fits.ensures.test ∙ passed c.fits.result Invalid (sym c.in_ok-ensure.was ∙ c.ensure.ensures) in
    sym (valid-full c.args.row.now (places_of c.args.p) v).list2

pub plan-requires-clause-fit : goal.plan-requires-clause-fit
plan-requires-clause-fit c =
    let v = sym c.fits.ensures.test ∙ passed c.fits.result Invalid (sym c.in_ok-ensure.was ∙ c.ensure.ensures) in
    copies-fit c.args.row.now (places_of c.args.p) _
    (copied c.copy_from_slice.ensures.after c.copy_from_slice-2.ensures.after c.copy_from_slice-3.ensures.after
    c.copy_from_slice-4.ensures.after)
    c.fits.ensures.shape v

pub returns : goal.returns
returns c =
    let p = places_of c.args.p in
    let v = sym c.fits.ensures.test ∙ passed c.fits.result Invalid (sym c.in_ok-ensure.was ∙ c.ensure.ensures) in
    let e = passed (enough c.args.out.now) Room (sym c.in_ok-ensure-2.was ∙ c.ensure-2.ensures) in
    plans-list c.args.row.now p c.args.out.now v e
    (copies-give c.args.row.now p _
    (copied c.copy_from_slice.ensures.after c.copy_from_slice-2.ensures.after c.copy_from_slice-3.ensures.after
    c.copy_from_slice-4.ensures.after)
    c.plan.ensures)
