-- The two refusals, and the image written. Assumes nothing.
use Rattle.std.proofs.Common.{rules, ◌+◌, ◌*◌, length, sym, ap, ◌∙◌, arith}
use borrow.Author.Tests.{leb-true}
use Rattle.refusal.proofs.Checks.{passed, failed}
use Rattle.refinement.specs.Lent.{places_of}
use Rattle.saving.specs.Saved.{nine_lists}
use Rattle.image.proofs.Writing.{fit, full, total-most, head-room, records-room, too_short, stored, not_valid}
use Rattle.image.proofs.save.Goals as goal

pub returns-in_err-ensure : goal.returns-in_err-ensure
returns-in_err-ensure c =
    let t = failed _ _ c.from_residual.result c.from_residual.ensures.1 c.in_err-ensure.ensures in
    let r = not_valid c.args.row.now (places_of c.args.p) c.args.out.now (sym c.fits.ensures.test ∙ t.0) in
    rw t.1 (record { answer = r.0; within = tt; saves = r.1 })

pub total-requires : goal.total-requires
total-requires c =
    let v = sym c.fits.ensures.test ∙ passed _ _ c.in_ok-ensure.ensures in
    (fit c.args.row.now (places_of c.args.p) c.fits.ensures.shape v).short.most

pub overflow_mul-n : goal.overflow_mul-n
overflow_mul-n c =
    let v = sym c.fits.ensures.test ∙ passed _ _ c.in_ok-ensure.ensures in
    omega (arith, c.total.ensures, total-most c.args.row.now (places_of c.args.p) c.fits.ensures.shape v)

pub overflow_add-n : goal.overflow_add-n
overflow_add-n c =
    let v = sym c.fits.ensures.test ∙ passed _ _ c.in_ok-ensure.ensures in
    omega (arith, c.total.ensures, total-most c.args.row.now (places_of c.args.p) c.fits.ensures.shape v)

pub returns-in_err-ensure-2 : goal.returns-in_err-ensure-2
returns-in_err-ensure-2 c =
    let v = sym c.fits.ensures.test ∙ passed _ _ c.in_ok-ensure.ensures in
    let x = c.from_residual-in_err-ensure-2 in
    let t = failed _ _ x.result x.ensures.1 c.in_err-ensure-2.ensures in
    let n = ap (λ n. 258 + 8 * n) c.total.ensures in
    let r = too_short c.args.row.now (places_of c.args.p) c.fits.ensures.shape v c.args.out.now _ n t.0 in
    rw t.1 (record { answer = r.0; within = tt; saves = r.1 })

pub firsts-requires : goal.firsts-requires
firsts-requires c =
    let v = sym c.fits.ensures.test ∙ passed _ _ c.in_ok-ensure.ensures in
    (fit c.args.row.now (places_of c.args.p) c.fits.ensures.shape v).short.most

pub put_head-requires : goal.put_head-requires
put_head-requires c =
    let v = sym c.fits.ensures.test ∙ passed _ _ c.in_ok-ensure.ensures in
    let n = leb-true _ _ (passed _ _ c.in_ok-ensure-2.ensures) in
    head-room c.args.row.now (places_of c.args.p) c.fits.ensures.shape v c.new-page.result _ c.new-page.ensures.start
    (omega (arith, n, c.total.ensures, ap length c.new-page.ensures.text))

pub put_chains-requires : goal.put_chains-requires
unfolding nine_lists
put_chains-requires c =
    let v = sym c.fits.ensures.test ∙ passed _ _ c.in_ok-ensure.ensures in
    let n = leb-true _ _ (passed _ _ c.in_ok-ensure-2.ensures) in
    let row = c.args.row.now in
    let p = places_of c.args.p in
    let s = c.fits.ensures.shape in (
      full row p s v,
      (fit row p s v).short,
      (fit row p s v).issued,
      records-room row p s v _ _ c.new-page.ensures.start
          (omega (arith, n, c.total.ensures, ap length c.new-page.ensures.text)) c.put_head.ensures,
    )

pub returns : goal.returns
unfolding nine_lists
returns c =
    let v = sym c.fits.ensures.test ∙ passed _ _ c.in_ok-ensure.ensures in
    let t = passed _ _ c.in_ok-ensure-2.ensures in
    let n = ap (λ n. 258 + 8 * n) c.total.ensures in
    let d = rw c.firsts.ensures at c.put_head.ensures in
    let r = stored c.args.row.now (places_of c.args.p) c.fits.ensures.shape v c.args.out.now _ n t
    c.new-page.ensures.text c.new-page.ensures.start d c.put_chains.ensures _ (search rules) in
    record { answer = r.0; within = leb-true _ _ t; saves = r.1 }
