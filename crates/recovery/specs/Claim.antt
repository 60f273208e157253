-- What is proved of lists that lead to normal (document 02, Paper 10), for every run. Cited by the promises of
-- `recovery::claim` and `recovery::lists`, and by the claims of planning and guiding. Assumes nothing.
use Rattle.std.specs.Prelude.{Bool, true, ◌&&◌, List, [], ◌∷◌, ◌≡◌, ℕ, ◌≤◌, T, eqb, length}
use Rattle.model.specs.State.{Entries, IsExact, entries, State, RowState, normal, Opening, can_open}
use Rattle.model.specs.Steps.{Step}
use Rattle.model.specs.Records.{Record}
use Rattle.model.specs.Runs.{steps_of, run, answers}
use Rattle.model.specs.Claim.{after}
use Rattle.recovery.specs.Plan.{found, plan}

-- Every answer is 0.
abbrev pub all_zero : List ℕ → Bool
all_zero [] = true
all_zero (n ∷ ns) = eqb n 0 && all_zero ns

-- "Each record is accepted in turn, the status ends normal and there are at most 2,064 records."
pub record Leads (𝓔 : Entries) (s : State 𝓔.Entry) (list : List Record) : Type 0 where
  pub accepted : T (all_zero (answers 𝓔 s (steps_of list)))
  pub ends : (run 𝓔 s (steps_of list)).registry.status ≡ normal
  pub few : length list ≤ 2064

-- "The list exists", and leads to normal.
pub record LeadsToNormal (𝓔 : Entries) (s : State 𝓔.Entry) : Type 0 where
  pub list : List Record
  pub exists : plan 𝓔 s ≡ found list
  pub leads : Leads 𝓔 s list

-- "For a row that a run from an opening gave, with registry epoch at most 3,998": for every kind of entry (proved, but
-- too large for a promise to cite),
unfoldable pub Recovery : Type 1
Recovery = (𝓔 : Entries) → IsExact 𝓔 → (o : Opening) → T (can_open o) → (sts : List Step)
    → (after 𝓔 o sts).registry.view.epoch ≤ 3998 → LeadsToNormal 𝓔 (after 𝓔 o sts)

-- and for the calls' entries.
unfoldable pub RunsRecover : Type 0
RunsRecover = (o : Opening) → T (can_open o) → (sts : List Step)
    → (after entries o sts).registry.view.epoch ≤ 3998 → LeadsToNormal entries (after entries o sts)

-- Beyond the paper: whatever the row, a list that exists leads to normal.
unfoldable pub AnyPlan : Type 0
AnyPlan = (s : RowState) (list : List Record) → plan entries s ≡ found list → Leads entries s list
