-- `seedsheet::main` lends only what it may: what is printed stands in the slice. Assumes nothing.
use Rattle.std.proofs.Common.{arith, sym, length-take-le}
use Rattle.seedline.proofs.Line.{printed-within}
use Rattle.seedsheet.proofs.main.Goals as goal

pub slice_bounds-out-end : goal.slice_bounds-out-end
slice_bounds-out-end c = printed-within (omega arith) c.answer-m.ensures

pub slice_bounds-write_all-end : goal.slice_bounds-write_all-end
slice_bounds-write_all-end c =
    sym (length-take-le _ _ (printed-within (omega arith) c.answer-m.ensures))
