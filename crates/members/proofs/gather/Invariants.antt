-- Those below i + 1 are gathered. Assumes nothing.
use Rattle.std.proofs.Common.{◌≡◌, Bool, ◌+◌}
use Rattle.model.specs.Members as Q
use Rattle.members.specs.Mask.{bits, under}
use Rattle.members.specs.declared.Board.{Board}
use Rattle.members.proofs.gather.Given as goal

abbrev pub invariant-loop-i : goal.invariant-loop-i
invariant-loop-i g l =
    (p : Q.Members) → ((b : Board) (t : Bool) → goal.F-post g l.test b t → t ≡ p b.number)
    → bits l.q ≡ under (l.i + 1) p
