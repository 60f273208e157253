-- The boards before the place i passed.
use Rattle.std.proofs.Common.{Bool, true, ◌≡◌, ◌<◌, ◌+◌, ℕ}
use Rattle.model.specs.Members.{Members}
use Rattle.members.specs.declared.Board.{Board}
use Rattle.cluster.proofs.ranges.every_board.Given as goal

abbrev pub invariant-loop-i : goal.invariant-loop-i
invariant-loop-i g l =
    goal.F-IsAlwaysCallable g l.test
    × ((p : Members) → ((b : Board) (r : Bool) → goal.F-post g l.test b r → r ≡ p b.number)
    → (k : ℕ) → k < l.i → p (k + 1) ≡ true)
