-- The chains that are left do, from what is marked, what all nine do from nothing. Assumes nothing.
use Rattle.std.proofs.Common.{◌*◌, ◌≤◌}
use Rattle.marks.specs.Marks.{marked}
use Rattle.chains.proofs.Crossing.{Left}
use Rattle.chains.proofs.Image.walk_all.Given as goal

abbrev pub invariant-loop-b : goal.invariant-loop-b
invariant-loop-b l = record { most : l.total ≤ 512 * l.b; left : Left l.self.bytes.now l.self.records (marked l.scratch) l.b l.total }
