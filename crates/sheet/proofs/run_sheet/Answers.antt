-- The empty sheet has its line, any other one is run, and what is delivered is its listing. Assumes nothing.
use mathlib.Core.Path.{◌≡◌, sym, ap, ◌∙◌}
use native.Mathlib.Omega.{arith}
use Rattle.std.specs.Prelude.{length, true, false, ◌/◌, ◌-◌, Err}
use Rattle.refusal.specs.declared.Refusal.TheVariants.{Sheet}
use lib.ListN.{length-take}
use lib.Seq.{length-take-le}
use Rattle.records.specs.Bytes.{is_sheet}
use Rattle.text.proofs.Laws.{puts-length, puts_back}
use Rattle.running.proofs.Playing.{sheet-most, ran-fits, ran-terms, ran-issued, ran-most}
use Rattle.sheet.proofs.Listings.{no-sheet, delivered-unopened, delivered}
use Rattle.sheet.proofs.run_sheet.Goals as goal

pub returns-then-empty-clause-result : goal.returns-then-empty-clause-result
returns-then-empty-clause-result c = (delivered-unopened c.args.sheet.now (omega arith) c.deliver.ensures).0

pub returns-then-empty-clause-text : goal.returns-then-empty-clause-text
returns-then-empty-clause-text c = (delivered-unopened c.args.sheet.now (omega arith) c.deliver.ensures).1

pub returns-in_err-ensure-clause-result : goal.returns-in_err-ensure-clause-result
returns-in_err-ensure-clause-result c =
    let e : is_sheet c.args.sheet.now ≡ false = grind (arith, c.in_err-ensure.was) in
    let r : c.from_residual.result ≡ Err Sheet = grind (arith, c.in_err-ensure.was) in
    r ∙ (no-sheet c.args.sheet.now c.args.listing.now (omega arith) e).0

pub returns-in_err-ensure-clause-text : goal.returns-in_err-ensure-clause-text
returns-in_err-ensure-clause-text c =
    let e : is_sheet c.args.sheet.now ≡ false = grind (arith, c.in_err-ensure.was) in
    (no-sheet c.args.sheet.now c.args.listing.now (omega arith) e).1

pub put_ending-requires-clause-row : goal.put_ending-requires-clause-row
put_ending-requires-clause-row c =
    let e : is_sheet c.args.sheet.now ≡ true = grind (arith, c.in_ok-ensure.was) in
    ran-fits c.args.sheet.now e _ _ _ _ _ c.play-row.ensures.run

pub put_ending-requires-clause-terms : goal.put_ending-requires-clause-terms
put_ending-requires-clause-terms c =
    let e : is_sheet c.args.sheet.now ≡ true = grind (arith, c.in_ok-ensure.was) in
    ran-terms c.args.sheet.now e _ _ _ _ _ c.play-row.ensures.run

pub put_ending-requires-clause-long : goal.put_ending-requires-clause-long
put_ending-requires-clause-long c =
    let e : is_sheet c.args.sheet.now ≡ true = grind (arith, c.in_ok-ensure.was) in
    let h = c.play-row.ensures.run in
    (ran-issued c.args.sheet.now e _ _ _ _ _ h, h.full.list ∙ sym h.full.list2)

pub invariant_of-listed-clause-bytes : goal.invariant_of-listed-clause-bytes
invariant_of-listed-clause-bytes c = λ i. omega (arith, c.type_inv.sheet i)

pub invariant_of-listed-clause-few : goal.invariant_of-listed-clause-few
invariant_of-listed-clause-few c =
    let e : is_sheet c.args.sheet.now ≡ true = grind (arith, c.in_ok-ensure.was) in
    sheet-most c.args.sheet.now e

pub invariant_of-listed-clause-answered : goal.invariant_of-listed-clause-answered
invariant_of-listed-clause-answered c =
    let e : is_sheet c.args.sheet.now ≡ true = grind (arith, c.in_ok-ensure.was) in
    omega (arith, sheet-most c.args.sheet.now e, c.play-row.ensures.run.room)

pub invariant_of-listed-clause-behind : goal.invariant_of-listed-clause-behind
invariant_of-listed-clause-behind c =
    let e : is_sheet c.args.sheet.now ≡ true = grind (arith, c.in_ok-ensure.was) in
    omega (arith, sheet-most c.args.sheet.now e, c.play-row.ensures.run.set_room)

pub invariant_of-listed-clause-small : goal.invariant_of-listed-clause-small
invariant_of-listed-clause-small c =
    let s = c.args.sheet.now in
    let e : is_sheet s ≡ true = grind (arith, c.in_ok-ensure.was) in
    λ i q. omega (arith, ran-most s e (length s / 8 - 1) _ _ _ _ c.play-row.ensures.run i (omega (arith, q)))

pub slice_bounds-deliver-end : goal.slice_bounds-deliver-end
slice_bounds-deliver-end c = sym (length-take-le _ _
    (omega (arith, c.put_ending.ensures.most, puts-length c.put_ending.ensures.text, ap length c.new-page.ensures.text)))

pub deliver-requires-2 : goal.deliver-requires-2
deliver-requires-2 c =
    omega (arith, c.put_ending.ensures.most, length-take c.put_ending.new.page.at c.put_ending.new.page.out.now)

pub returns-clause-result : goal.returns-clause-result
returns-clause-result c =
    let e : is_sheet c.args.sheet.now ≡ true = grind (arith, c.in_ok-ensure.was) in
    let back = puts_back c.put_ending.ensures.text c.new-page.ensures.start
    (omega (arith, c.put_ending.ensures.most, puts-length c.put_ending.ensures.text, ap length c.new-page.ensures.text)) in
    (delivered c.args.sheet.now e _ _ _ _ c.play-row.ensures.run back c.deliver-2.ensures).0

pub returns-clause-text : goal.returns-clause-text
returns-clause-text c =
    let e : is_sheet c.args.sheet.now ≡ true = grind (arith, c.in_ok-ensure.was) in
    let back = puts_back c.put_ending.ensures.text c.new-page.ensures.start
    (omega (arith, c.put_ending.ensures.most, puts-length c.put_ending.ensures.text, ap length c.new-page.ensures.text)) in
    (delivered c.args.sheet.now e _ _ _ _ c.play-row.ensures.run back c.deliver-2.ensures).1
