-- `steps::step` meets its contract: refusal 1, else the inner step. Assumes nothing.
use Rattle.std.proofs.Common.{◌≡◌, sym, ap, ◌∙◌, true, false, refl}
use Rattle.refinement.specs.Lent.{places_in}
use Rattle.shown.proofs.Valid.{ready, valid-full, valid-range}
use Rattle.steps.specs.Call.{valid, Did}
use Rattle.steps.proofs.Calling.{did-refused, did-step}
use Rattle.steps.proofs.step.Goals as goal

-- Refusal 1 is asked of the lent places, as they are read.
pub returns-then-not-fits-clause-did : goal.returns-then-not-fits-clause-did
returns-then-not-fits-clause-did c =
    let v : valid c.args.row.now (places_in c.args.p.now) ≡ false =
    sym (c.fits.ensures.test ∙ ap (valid c.args.row.now) c.lent.ensures) ∙ c.if-not-fits.true in
    did-refused _ c.args.row.now (places_in c.args.p.now) v _ refl refl refl

pub send-requires : goal.send-requires
send-requires c =
    let v : valid c.args.row.now (places_in c.args.p.now) ≡ true =
    sym (c.fits.ensures.test ∙ ap (valid c.args.row.now) c.lent.ensures) ∙ c.if-not-fits.false in (
      ready c.args.row.now c.fits.ensures.shape (valid-range c.args.row.now (places_in c.args.p.now) v),
      valid-full c.args.row.now (places_in c.args.p.now) v,
    )

pub returns-clause-did : goal.returns-clause-did
returns-clause-did c =
    let v : valid c.args.row.now (places_in c.args.p.now) ≡ true =
    sym (c.fits.ensures.test ∙ ap (valid c.args.row.now) c.lent.ensures) ∙ c.if-not-fits.false in
    did-step _ c.args.row.now (places_in c.args.p.now) v (valid-full c.args.row.now (places_in c.args.p.now) v)
    c.send.ensures.step
