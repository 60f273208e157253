-- The loop's invariant: `counter` receives were tried, none of them noted.
use Rattle.std.proofs.Common.{◌≡◌}
use Rattle.model.specs.State.{Entry, entries}
use Rattle.model.specs.Records.{of}
use Rattle.refinement.specs.Lent.{SameLent}
use Rattle.recovery.specs.Plan.{Draft, times, put}
use Rattle.pieces.specs.Pieces.{Plays}
use Rattle.pieces.proofs.Sketch.receives.Given as goal

abbrev pub invariant-loop : goal.invariant-loop
invariant-loop l =
    (l.self.orders ≡ l.fn.self.orders)
    × SameLent l.fn.self.places l.self.places
    × ((m : Draft Entry) → Plays m l.fn.self → Plays (times l.counter (put entries (of 8 l.b)) m) l.self)
