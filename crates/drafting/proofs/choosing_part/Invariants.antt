-- The loop's invariant: the boards up to i had their turn.
use Rattle.std.proofs.Common.{◌*◌}
use Rattle.model.specs.State.{entries}
use Rattle.members.specs.Mask.{bits}
use Rattle.recovery.specs.Plan.{turns, hears}
use Rattle.pieces.specs.Pieces.{Moves}
use Rattle.drafting.proofs.choosing_part.Given as goal

abbrev pub invariant-loop-i : goal.invariant-loop-i
invariant-loop-i l = Moves (2 * l.i) (turns l.i (bits l.q) (hears entries)) l.initial.s l.s
