-- Refusal 2. Assumes nothing.
use mathlib.Core.Path.{◌≡◌, ◌∙◌}
use native.Mathlib.Omega.{arith}
use Rattle.std.specs.Prelude.{false, Err}
use Rattle.refusal.specs.declared.Refusal.TheVariants.{Sheet}
use Rattle.records.specs.Bytes.{is_sheet}
use Rattle.archive.proofs.Archiving.{no-sheet}
use Rattle.archive.proofs.save_sheet.Goals as goal

pub returns-in_err-ensure-clause-result : goal.returns-in_err-ensure-clause-result
returns-in_err-ensure-clause-result c =
    let e : is_sheet c.args.sheet.now ≡ false = grind (arith, c.in_err-ensure.was) in
    let r : c.from_residual.result ≡ Err Sheet = grind (arith, c.in_err-ensure.was) in
    r ∙ (no-sheet c.args.sheet.now c.args.out.now e).0

pub returns-in_err-ensure-clause-image : goal.returns-in_err-ensure-clause-image
returns-in_err-ensure-clause-image c =
    let e : is_sheet c.args.sheet.now ≡ false = grind (arith, c.in_err-ensure.was) in
    (no-sheet c.args.sheet.now c.args.out.now e).1
