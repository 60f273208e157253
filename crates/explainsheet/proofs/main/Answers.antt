-- `explainsheet::main` lends only what it may: a text stands within the slice. Assumes nothing.
use Rattle.std.proofs.Common.{sym, length-take-le}
use Rattle.explain.proofs.Explaining.{readable}
use Rattle.explainsheet.proofs.main.Goals as goal

pub slice_bounds-text-end : goal.slice_bounds-text-end
slice_bounds-text-end c = readable _ _ c.explain_sheet.ensures c.in-Ok.is

pub slice_bounds-write_all-end : goal.slice_bounds-write_all-end
slice_bounds-write_all-end c = sym (length-take-le _ _ (readable _ _ c.explain_sheet.ensures c.in-Ok.is))
