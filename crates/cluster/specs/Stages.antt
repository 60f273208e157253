-- The controller's stage: the test that the checks of steps 11 to 15 make of it, and what goes with stage leader. Cited
-- by the checks of steps_controller and steps_both, and by the contracts of step 11. Assumes nothing.
use Rattle.std.specs.Prelude.{Bool, true, ◌≡◌, eqb}
use Rattle.model.specs.Members.{is_replica}
use Rattle.model.specs.State as M
use Rattle.cluster.specs.declared.Stage.{Stage}
use Rattle.cluster.specs.declared.Controller.{Controller}
use Rattle.cluster.specs.Layout.{stage_of}

abbrev pub at_stage : Stage → M.Stage → Bool
at_stage g m = eqb (M.stage_number (stage_of g)) (M.stage_number m)

-- A controller at stage leader has one.
abbrev pub HasLeader : Controller → Type 0
HasLeader c = M.stage_number (stage_of c.stage) ≡ 1 → is_replica c.view.leader ≡ true
