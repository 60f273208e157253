-- A row and places on which the records of a list can be tried. Cited by the type of a list in the making, and by the
-- contracts of pieces. Assumes nothing.
use Rattle.std.specs.Prelude.{true, ◌≡◌, ℕ, ◌≤◌}
use Rattle.model.specs.Members.{is_replica}
use Rattle.model.specs.State.{RowState, entries, waiting, stage_number}
use Rattle.model.specs.Steps.{Step, step}
use Rattle.cluster.specs.declared.Cluster.{Cluster}
use Rattle.refinement.specs.Refinement.{Places, Full, abs, Short}

-- What the steps of a list rely on in leaders: those of views are boards or none; the registry names one while it is
-- waiting, and the controller has one at stage leader.
pub record Leaders (s : RowState) : Type 0 where
  pub named : s.registry.view.leader ≤ 8
  pub waiting : s.registry.status ≡ waiting → is_replica s.registry.view.leader ≡ true
  pub views : (b : ℕ) → (s.view b).leader ≤ 8
  pub reads : stage_number s.controller.stage ≡ 1 → is_replica s.controller.view.leader ≡ true

-- A step that keeps them so. (Steps 6 to 15 do.)
abbrev pub Keeps : Step → Type 0
Keeps st = (s : RowState) → Leaders s → Leaders (step entries s st)

-- A row and places on which the records of a list can be tried. (A row that refusal 1 lets through is one.)
pub record Fit (row : Cluster) (p : Places) : Type 0 where
  pub short : Short row.len
  pub issued : row.issued ≤ 512
  pub full : Full p
  pub leaders : Leaders (abs row p)
