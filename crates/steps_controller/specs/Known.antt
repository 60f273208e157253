-- What a step of the controller is told, as facts of a state. Each can be met: it speaks of other parts than the
-- controller. Cited by the contracts of steps_controller. Assumes nothing.
use Rattle.std.specs.Prelude.{true, ◌≡◌, ℕ, length}
use Rattle.model.specs.Members.{is_replica}
use Rattle.model.specs.State.{RowState, stage_number}
use Rattle.cluster.specs.declared.Registry.{Registry}
use Rattle.cluster.specs.declared.Controller.{Controller}
use Rattle.cluster.specs.Layout.{stage_of, registry_of}

-- Step 10: the registry is r.
abbrev pub RegistryKnown : Registry → RowState → Type 0
RegistryKnown r s = s.registry ≡ registry_of r

-- Step 11: the epoch e of the controller's leader and the length n of its log. At another stage there may be no leader.
abbrev pub LeaderKnown : Controller → ℕ → ℕ → RowState → Type 0
LeaderKnown c e n s =
    let leader = c.view.leader in
    stage_number (stage_of c.stage) ≡ 1 → ((s.view leader).epoch ≡ e) × (length (s.log leader) ≡ n)

-- Step 12: the joined epoch j of b and the length n of its log.
abbrev pub ReadKnown : ℕ → ℕ → ℕ → RowState → Type 0
ReadKnown b j n s = is_replica b ≡ true → (s.joined b ≡ j) × (length (s.log b) ≡ n)

-- Step 14: the epoch e of b, its joined epoch j and the length n of its log.
abbrev pub HearKnown : ℕ → ℕ → ℕ → ℕ → RowState → Type 0
HearKnown b e j n s = is_replica b ≡ true → ((s.view b).epoch ≡ e) × (s.joined b ≡ j) × (length (s.log b) ≡ n)
