-- The call that gives the list of a row (document 02, Paper 10), and what it gives in a run of calls. Cited by the
-- promises of `planning::plan` and `planning::claim`. Assumes nothing.
use Rattle.std.specs.Prelude.{cond, ◌&&◌, List, ◌≡◌, ℕ, ◌≤◌, T, length}
use Rattle.model.specs.State.{entries, Opening, can_open}
use Rattle.model.specs.Steps.{Step}
use Rattle.model.specs.Records.{Record}
use Rattle.cluster.specs.declared.Cluster.{Cluster}
use Rattle.refinement.specs.Refinement.{Places, abs}
use Rattle.text.specs.Text.{Text, over}
use Rattle.records.specs.Bytes.{sheet_bytes}
use Rattle.shown.specs.Shown.{valid}
use Rattle.steps.specs.Calls.{Held, state_of, Calls, Begins, Follows}
use Rattle.recovery.specs.Plan.{Plan, plan}
use Rattle.recovery.specs.Claim.{Leads}
use Rattle.delivery.specs.Planned.{Planned}
use Rattle.delivery.specs.Delivery.{enough, plan_answer, plan_count, plan_left}

-- The list of the state that a row and the lent places stand for.
abbrev pub plan_of : Cluster → Places → Plan
plan_of row p = plan entries (abs row p)

-- The call, lent a slice whose bytes are `out`: it returns x and leaves out'. Refusal 1 of the row and the places, then
-- 3 for a slice that is too short, then 20; "a refusal leaves it untouched".
pub record Plans (row : Cluster) (p : Places) (out : Text) (x : Planned) (out' : Text) : Type 0 where
  pub answer : x.answer ≡ cond (valid row p) (cond (enough out) (plan_answer (plan_of row p)) 3) 1
  pub count : x.count ≡ cond (valid row p && enough out) (plan_count (plan_of row p)) 0
  pub left : out' ≡ cond (valid row p && enough out) (plan_left (plan_of row p) out) out

-- The call gave a list, with its number and its bytes, that leads what the caller holds to normal.
pub record Recovers (h : Held) (out : Text) (x : Planned) (out' : Text) : Type 0 where
  pub answer : x.answer ≡ 0
  pub list : List Record
  pub count : x.count ≡ length list
  pub left : out' ≡ over out 0 (sheet_bytes list)
  pub leads : Leads entries (state_of h) list

-- The call, lent a slice that is long enough, gives such a list of what the caller holds.
abbrev pub PlanRecovers : Held → Type 0
PlanRecovers h = (out : Text) → T (enough out) → (x : Planned) (out' : Text) → Plans h.row h.places out x out'
    → Recovers h out x out'

-- So it does after any list of calls of `steps`, a row taken up from its image among them, "with registry epoch at most
-- 3,998";
unfoldable pub CallsRecover : Type 0
CallsRecover = (o : Opening) (h : Held) → Begins o h
    → (sts : List Step) (h' : Held) (ns qs : List ℕ) → Calls h sts h' ns qs
    → h'.row.registry.view.epoch ≤ 3998 → PlanRecovers h'

-- and wherever `Follows` holds, which `hub::claim` promises after lists that have calls over a lent controller too.
unfoldable pub FollowsRecover : Type 0
FollowsRecover = (o : Opening) → T (can_open o) → (sts : List Step) (h : Held) (ns qs : List ℕ) → Follows o sts h ns qs
    → h.row.registry.view.epoch ≤ 3998 → PlanRecovers h
