-- The image is taken up, and the lines of its row are delivered. Assumes nothing.
use mathlib.Core.Path.{◌≡◌, refl, sym, ap, ◌∙◌}
use native.Mathlib.Omega.{arith}
use Rattle.std.specs.Prelude.{length, Err}
use lib.Seq.{length-take-le}
use Rattle.refusal.specs.Refusal.{answer}
use Rattle.text.proofs.Laws.{puts-length, puts_back}
use Rattle.archive.proofs.Archiving.{not-shown, taken-range, taken-terms, taken-full, taken-issued, is-shown}
use Rattle.archive.proofs.show_image.Goals as goal

pub returns-in_err-taken-clause-result : goal.returns-in_err-taken-clause-result
returns-in_err-taken-clause-result c =
    let r : c.from_residual.result ≡ Err c.in_err-taken.field-0.0 = grind (arith, c.in_err-taken.was) in
    r ∙ (not-shown c.args.image.now _ _ c.args.scratch.now _ _ _ refl c.load-taken.ensures.loads c.args.out.now
    c.in_err-taken.field-0.0 (ap answer c.in_err-taken.was)).0

pub returns-in_err-taken-clause-text : goal.returns-in_err-taken-clause-text
returns-in_err-taken-clause-text c =
    (not-shown c.args.image.now _ _ c.args.scratch.now _ _ _ refl c.load-taken.ensures.loads c.args.out.now
    c.in_err-taken.field-0.0 (ap answer c.in_err-taken.was)).1

pub put_ending-requires-clause-row : goal.put_ending-requires-clause-row
put_ending-requires-clause-row c =
    taken-range c.args.image.now _ _ c.args.scratch.now _ _ _ refl c.load-taken.ensures.loads (ap answer c.in_ok-taken.was)

pub put_ending-requires-clause-terms : goal.put_ending-requires-clause-terms
put_ending-requires-clause-terms c =
    taken-terms c.args.image.now _ _ c.args.scratch.now _ _ _ refl c.load-taken.ensures.loads (ap answer c.in_ok-taken.was)

pub put_ending-requires-clause-long : goal.put_ending-requires-clause-long
put_ending-requires-clause-long c =
    let l = c.load-taken.ensures.loads in
    let z = ap answer c.in_ok-taken.was in
    let f = taken-full c.args.image.now _ _ c.args.scratch.now _ _ _ refl l z in
    (taken-issued c.args.image.now _ _ c.args.scratch.now _ _ _ refl l z, f.list ∙ sym f.list2)

pub slice_bounds-deliver-end : goal.slice_bounds-deliver-end
slice_bounds-deliver-end c = sym (length-take-le _ _
    (omega (arith, c.put_ending.ensures.most, puts-length c.put_ending.ensures.text, ap length c.new-page.ensures.text)))

pub returns-clause-result : goal.returns-clause-result
returns-clause-result c =
    let back = puts_back c.put_ending.ensures.text c.new-page.ensures.start
    (omega (arith, c.put_ending.ensures.most, puts-length c.put_ending.ensures.text, ap length c.new-page.ensures.text)) in
    (is-shown c.args.image.now _ _ c.args.scratch.now _ _ _ refl c.load-taken.ensures.loads (ap answer c.in_ok-taken.was) _
    c.args.out.now _ _ back c.deliver.ensures).0

pub returns-clause-text : goal.returns-clause-text
returns-clause-text c =
    let back = puts_back c.put_ending.ensures.text c.new-page.ensures.start
    (omega (arith, c.put_ending.ensures.most, puts-length c.put_ending.ensures.text, ap length c.new-page.ensures.text)) in
    (is-shown c.args.image.now _ _ c.args.scratch.now _ _ _ refl c.load-taken.ensures.loads (ap answer c.in_ok-taken.was) _
    c.args.out.now _ _ back c.deliver.ensures).1
