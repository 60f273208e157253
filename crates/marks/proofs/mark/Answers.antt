-- One bit more is one number more. Assumes nothing.
use Rattle.std.proofs.Common.{arith}
use Rattle.marks.proofs.Laws.{marked-set}
use Rattle.marks.proofs.mark.Goals as goal

pub returns : goal.returns
returns c = marked-set _ _ _ (omega arith) (omega arith) (rw c.at-b.ensures at c.insert.ensures)
