-- What a step of the registry, of the controller or of both makes of them; `Governs` (crate refinement) has that the
-- rest of a row stays. Cited by the contracts of steps_registry, steps_controller and steps_both, and by the proofs of
-- steps_central and hub. Assumes nothing.
use Rattle.std.specs.Prelude.{◌≢◌, ◌≡◌}
use Rattle.model.specs.State.{RowState, outline, entries}
use Rattle.model.specs.Steps.{Step, answer_of, behind, step, with_registry, with_controller}
use Rattle.members.specs.Mask.{bits}
use Rattle.cluster.specs.declared.Registry.{Registry}
use Rattle.cluster.specs.declared.Controller.{Controller}
use Rattle.cluster.specs.Ended.{Ruled, Told, Settled}
use Rattle.cluster.specs.Layout.{registry_of, controller_of}

-- The registry r, and what the step st of any state that has it answers and leaves.
pub record Rules (st : Step) (r : Registry) (x : Ruled) : Type 0 where
  pub answer : (s : RowState) → x.answer ≡ answer_of (outline (with_registry s (registry_of r))) st
  pub after : (s : RowState) → registry_of x.registry ≡ (step entries (with_registry s (registry_of r)) st).registry
  pub refused : x.answer ≢ 0 → x.registry ≡ r

-- The controller c, and what the step st of any state that has it, and of which what the call was told is known,
-- answers and leaves.
pub record Tells (Known : RowState → Type 0) (st : Step) (c : Controller) (x : Told) : Type 0 where
  pub answer : (s : RowState) → Known s → x.answer ≡ answer_of (outline (with_controller s (controller_of c))) st
  pub after : (s : RowState) → Known s
      → controller_of x.controller ≡ (step entries (with_controller s (controller_of c)) st).controller
  pub refused : x.answer ≢ 0 → x.controller ≡ c

-- The state s with both parts in it.
abbrev pub both_in : Registry → Controller → RowState → RowState
both_in r c s = with_controller (with_registry s (registry_of r)) (controller_of c)

-- The registry r and the controller c, and what the step st of any state that has them answers, who is behind it, and
-- what it leaves.
pub record Settles (st : Step) (r : Registry) (c : Controller) (x : Settled) : Type 0 where
  pub answer : (s : RowState) → x.answer ≡ answer_of (outline (both_in r c s)) st
  pub behind : (s : RowState) → bits x.behind ≡ behind (outline (both_in r c s)) st
  pub registry : (s : RowState) → registry_of x.registry ≡ (step entries (both_in r c s) st).registry
  pub controller : (s : RowState) → controller_of x.controller ≡ (step entries (both_in r c s) st).controller
  pub refused : x.answer ≢ 0 → (x.registry ≡ r) × (x.controller ≡ c)
