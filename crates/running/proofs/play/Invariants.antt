-- The sheet was run up to the record k, in the places that were lent.
use Rattle.std.proofs.Common.{◌-◌}
use Rattle.refinement.specs.Lent.{SameLent, places_in}
use Rattle.running.specs.Running.{Ran}
use Rattle.running.proofs.play.Given as goal

abbrev pub invariant-loop-k : goal.invariant-loop-k
invariant-loop-k l = record {
  same : SameLent l.fn.p l.p;
  run : Ran l.fn.sheet (l.k - 1) l.row (places_in l.p) l.answers l.sets;
}
