-- `planimage::main` lends only what it may: a length that is handed back is within the slice. Assumes nothing.
use Rattle.std.proofs.Common.{sym, length-take-le}
use Rattle.guiding.proofs.Lengths.{image-readable}
use Rattle.planimage.proofs.main.Goals as goal

pub slice_bounds-list-end : goal.slice_bounds-list-end
slice_bounds-list-end c = image-readable _ _ _ c.in-Ok.ensures.result c.in-Ok.ensures.list

pub slice_bounds-write_all-end : goal.slice_bounds-write_all-end
slice_bounds-write_all-end c =
    sym (length-take-le _ _ (image-readable _ _ _ c.in-Ok.ensures.result c.in-Ok.ensures.list))
