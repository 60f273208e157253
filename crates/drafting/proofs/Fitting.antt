-- A row that refusal 1 lets through is one on which a list can be made. Assumes nothing.
use mathlib.Core.Bool.{true, not}
use mathlib.Core.Path.{◌≡◌, sym, subst}
use native.Mathlib.Omega.{arith}
use lib.Dec.{T}
use Rattle.model.specs.State.{is_choosing}
use Rattle.model.specs.Ranges.{in_range}
use Rattle.model.proofs.Tests.{of-true}
use Rattle.model.proofs.Range.{to-ranges}
use Rattle.members.proofs.Laws.{replica}
use Rattle.cluster.specs.declared.Cluster.{Cluster}
use Rattle.cluster.specs.Layout.{outline_of}
use Rattle.refinement.specs.Refinement.{Places, Full, Shape}
use Rattle.shown.proofs.Valid.{ready}
use Rattle.pieces.specs.Fitting.{Fit}

pub ranged-fit : (row : Cluster) (p : Places) → Shape row → in_range (outline_of row) ≡ true → Full p → Fit row p
ranged-fit row p s e f =
    let k = ready row s e in
    let r = to-ranges (outline_of row) (of-true e) in
    record {
      short = k.short;
      issued = k.issued;
      full = f;
      leaders = record {
        named = r.registry.leader;
        waiting = λ w.
            let some = r.named (subst (λ g. T (not (is_choosing g))) (sym w) tt) in
            replica row.registry.view.leader (omega (arith, some)) r.registry.leader;
        views = k.leaders;
        reads = k.reads;
      };
    }
