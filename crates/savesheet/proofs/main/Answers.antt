-- `savesheet::main` lends only what it may: a length that is handed back is one within the slice. Assumes nothing.
use Rattle.std.proofs.Common.{sym, ◌∙◌, length-take-le}
use Rattle.archive.proofs.Lengths.{saved-readable}
use Rattle.savesheet.proofs.main.Goals as goal

pub slice_bounds-image-end : goal.slice_bounds-image-end
slice_bounds-image-end c =
    let e = c.save_sheet.ensures in
    saved-readable _ _ (sym c.in-Ok.is ∙ e.result) e.image

pub slice_bounds-write_all-end : goal.slice_bounds-write_all-end
slice_bounds-write_all-end c =
    let e = c.save_sheet.ensures in
    sym (length-take-le _ _ (saved-readable _ _ (sym c.in-Ok.is ∙ e.result) e.image))
