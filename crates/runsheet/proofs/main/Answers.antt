-- `runsheet::main` lends only what it may: a length that is handed back is one within the slice. Assumes nothing.
use Rattle.std.proofs.Common.{sym, ◌∙◌, length-take-le}
use Rattle.sheet.proofs.Listings.{readable}
use Rattle.runsheet.proofs.main.Goals as goal

pub slice_bounds-listing-end : goal.slice_bounds-listing-end
slice_bounds-listing-end c =
    let e = c.run_sheet.ensures in
    readable _ _ (sym c.in-Ok.is ∙ e.result) e.text

pub slice_bounds-write_all-end : goal.slice_bounds-write_all-end
slice_bounds-write_all-end c =
    let e = c.run_sheet.ensures in
    sym (length-take-le _ _ (readable _ _ (sym c.in-Ok.is ∙ e.result) e.text))
