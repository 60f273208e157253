-- What was read, with the digits that are left, is the number. Assumes nothing.
use Rattle.std.proofs.Common.{◌≡◌, ◌+◌}
use Rattle.reading.proofs.Reading.{Sofar}
use Rattle.reading.proofs.number_at.Given as goal

abbrev pub invariant-loop-b : goal.invariant-loop-b
invariant-loop-b l = (l.n.end ≡ l.at + l.b-index) × Sofar l.b-items l.n.value l.b-index
