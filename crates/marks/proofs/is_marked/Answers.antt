-- The bit of k is its mark. Assumes nothing.
use Rattle.std.proofs.Common.{arith}
use Rattle.marks.proofs.Laws.{marked-at}
use Rattle.marks.proofs.is_marked.Goals as goal

pub returns : goal.returns
returns c = rw (c.has.ensures, c.at-b.ensures, marked-at c.args.s.now c.args.k (omega arith))
