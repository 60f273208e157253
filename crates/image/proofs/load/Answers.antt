-- Past what every call asks and the image's own errors: its chains, and the image taken. Assumes nothing.
use Rattle.std.proofs.Common.{sym, ap, ◌∙◌}
use Rattle.refusal.proofs.Checks.{passed, left}
use Rattle.refinement.specs.Lent.{places_in}
use Rattle.shown.specs.Shown.{lengths_fit}
use Rattle.image.proofs.Reading.{enough-both, judged-both, not-linked, took}
use Rattle.image.proofs.load.Goals as goal

pub returns-in_err-lengths-clause-loads : goal.returns-in_err-lengths-clause-loads
returns-in_err-lengths-clause-loads c =
    let p = places_in c.args.p.now in
    let l = ap lengths_fit (sym c.lent.ensures) ∙ sym c.lengths.ensures ∙ passed _ _ c.in_ok-ensure.ensures in
    let e = enough-both p c.args.scratch.now l (sym c.enough.ensures ∙ passed _ _ c.in_ok-ensure-2.ensures) in
    let j = judged-both c.args.image.now c.in-Ok.ensures.answer in
    let m = c.in-Ok.ensures.image in
    let x = c.from_residual-in_err-lengths in
    rw (left x.result x.ensures.1)
    (not-linked _ c.args.row.now p _ e j.0 j.1 _ _ m.0 m.1 c.in_err-lengths.ensures.taken)

pub returns-clause-loads : goal.returns-clause-loads
returns-clause-loads c =
    let p = places_in c.args.p.now in
    let l = ap lengths_fit (sym c.lent.ensures) ∙ sym c.lengths.ensures ∙ passed _ _ c.in_ok-ensure.ensures in
    let e = enough-both p c.args.scratch.now l (sym c.enough.ensures ∙ passed _ _ c.in_ok-ensure-2.ensures) in
    let j = judged-both c.args.image.now c.in-Ok.ensures.answer in
    let m = c.in-Ok.ensures.image in
    took _ c.args.row.now p _ e j.0 j.1 _ _ m.0 m.1 c.in_ok-lengths.ensures.taken _ c.row.ensures
