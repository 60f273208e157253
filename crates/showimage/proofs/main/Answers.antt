-- `showimage::main` lends only what it may: a length that is handed back is one within the slice. Assumes nothing.
use Rattle.std.proofs.Common.{sym, ◌∙◌, length-take-le}
use Rattle.archive.proofs.Lengths.{shown-readable}
use Rattle.showimage.proofs.main.Goals as goal

pub slice_bounds-text-end : goal.slice_bounds-text-end
slice_bounds-text-end c =
    let e = c.show_image.ensures in
    shown-readable _ _ _ (sym c.in-Ok.is ∙ e.result) e.text

pub slice_bounds-write_all-end : goal.slice_bounds-write_all-end
slice_bounds-write_all-end c =
    let e = c.show_image.ensures in
    sym (length-take-le _ _ (shown-readable _ _ _ (sym c.in-Ok.is ∙ e.result) e.text))
