-- The lists before i are written. Assumes nothing.
use Rattle.refinement.specs.Lent.{places_of}
use Rattle.saving.specs.Saved.{lists_in}
use Rattle.saving.proofs.Putting.{Listing}
use Rattle.saving.proofs.put_chains.Given as goal

abbrev pub invariant-loop-i : goal.invariant-loop-i
invariant-loop-i l = Listing (lists_in l.row (places_of l.p)) l.fn.page l.page l.k l.i
