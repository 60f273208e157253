-- The loop's invariant: the boards up to i had their turn.
use Rattle.std.proofs.Common.{◌*◌}
use Rattle.model.specs.State.{entries}
use Rattle.members.specs.Mask.{bits}
use Rattle.recovery.specs.Plan.{turns, follows}
use Rattle.pieces.specs.Pieces.{Moves}
use Rattle.drafting.proofs.waiting_part.Given as goal

abbrev pub invariant-loop-i : goal.invariant-loop-i
invariant-loop-i l = Moves (4 * l.i) (turns l.i (bits l.q) (follows entries l.l)) l.initial.s l.s
