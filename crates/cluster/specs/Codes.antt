-- A status and a stage by number, "status 0 to 2 and stage 0 to 3 in document 01's order" (document 02, Paper 7). Cited
-- by the contracts of their conversions. Assumes nothing.
use Rattle.std.specs.Prelude.{cond, ℕ, eqb, Result, Ok, Err}
use Rattle.refusal.specs.declared.Refusal.{Refusal}
use Rattle.refusal.specs.declared.Refusal.TheVariants.{ImageNumber}
use Rattle.cluster.specs.declared.Status.{Status}
use Rattle.cluster.specs.declared.Status.TheVariants.{Normal, Waiting}
use Rattle.cluster.specs.declared.Stage.{Stage}
use Rattle.cluster.specs.declared.Stage.TheVariants.{Idle, Leader, Boards}

abbrev pub status_in : ℕ → Result Status Refusal
status_in n =
    cond (eqb n 0) (Ok Normal) (cond (eqb n 1) (Ok Waiting) (cond (eqb n 2) (Ok Status.Choosing) (Err ImageNumber)))

abbrev pub stage_in : ℕ → Result Stage Refusal
stage_in n =
    cond (eqb n 0) (Ok Idle) (cond (eqb n 1) (Ok Leader)
    (cond (eqb n 2) (Ok Boards) (cond (eqb n 3) (Ok Stage.Choosing) (Err ImageNumber))))
