-- What a call over the lent controller promises: its answer, who is behind it and the record that it leaves, accepted
-- or refused. Cited by the contracts of hub. Assumes nothing.
use Rattle.std.specs.Prelude.{Bool, true, not, cond, ◌&&◌, ◌||◌, List, [], ◌∷◌, ◌≢◌, ◌≡◌, ◌<◌, leb, eqb, length}
use Rattle.model.specs.Members.{is_replica, none}
use Rattle.model.specs.State.{RowState, outline, entries, Entry, opening_with, opened, stage_number}
use Rattle.model.specs.Steps.{Step, refresh_controller, read_leader, read, hear, answer_of, behind, step, with_registry, with_controller}
use Rattle.model.specs.Ranges.{every, is_epoch, in_range}
use Rattle.cluster.specs.declared.Registry.{Registry}
use Rattle.cluster.specs.declared.Controller.{Controller}
use Rattle.cluster.specs.Layout.{bits, stage_of, registry_of, controller_of}
use Rattle.refinement.specs.Rows.{TypedController}
use Rattle.hub.specs.declared.Report.{Report}
use Rattle.hub.specs.Replies.{Reply}

-- Refusal 1 of a registry, and of a controller: "a number outside the ranges above, the registry's leader 0 while
-- status is not choosing, or the controller's leader 0 at stage leader or boards". All else in an opened row is in
-- range, so what is asked is asked of the record put into it.
unfoldable pub registry_fits : Registry → Bool
registry_fits g = in_range (outline {E = Entry} (with_registry (opened (opening_with 1)) (registry_of g)))

unfoldable pub controller_fits : Controller → Bool
controller_fits c = in_range (outline {E = Entry} (with_controller (opened (opening_with 1)) (controller_of c)))

-- The papers leave to the program what these calls are told. Chosen: every number of a report is in its range, used by
-- the step or not, and at stage leader its board is the controller's leader; else 1, before a step's own checks.

-- Refusal 1 of what a board tells: "a field outside its values".
abbrev pub report_ranges : Report → List Bool
report_ranges x = is_replica x.board ∷ is_epoch x.epoch ∷ is_epoch x.joined ∷ leb x.len 512 ∷ []

-- Steps 12 and 14.
abbrev pub report_fits : Controller → Report → Bool
report_fits c x = controller_fits c && every (report_ranges x)

-- Step 11: at stage leader the board that tells is the controller's leader. (At another stage there may be none; any
-- board's telling is answered 15.)
abbrev pub leader_fits : Controller → Report → Bool
leader_fits c x = report_fits c x && (not (eqb (stage_number (stage_of c.stage)) 1) || eqb x.board c.view.leader)

-- What the board tells is so in the state s.
pub record Reported (x : Report) (s : RowState) : Type 0 where
  pub epoch : (s.view x.board).epoch ≡ x.epoch
  pub joined : s.joined x.board ≡ x.joined
  pub len : length (s.log x.board) ≡ x.len

-- A call of the step st, lent the controller c: it replies r and leaves c'. If what it is given fits, this is so of any
-- state in which what it was told is so; if not, of any state. There are such states, and one fixes r and c'
-- (`LentFixed`).
pub record Lends (fits : Bool) (Known : RowState → Type 0) (st : Step) (c : Controller) (r : Reply)
    (c' : Controller) : Type 0 where
  -- Refusal 1 first, then the model's answer.
  pub answer : (s : RowState) → (fits ≡ true → Known s) → r.answer
      ≡ cond fits (answer_of (outline (with_controller s (controller_of c))) st) 1
  -- The set behind it: no one, as none of the four steps asks a majority.
  pub behind : (s : RowState) → (fits ≡ true → Known s) → bits r.behind
      ≡ cond fits (behind (outline (with_controller s (controller_of c))) st) none
  -- The state with c' put back is the model's step of the state with c.
  pub state : (s : RowState) → (fits ≡ true → Known s)
      → with_controller s (controller_of c')
      ≡ cond fits (step entries (with_controller s (controller_of c)) st) (with_controller s (controller_of c))
  -- A refused call leaves the record itself.
  pub refused : r.answer ≢ 0 → c' ≡ c

-- The four steps by what they are told: step 10 of the registry g, the others of a board by x.
abbrev pub TakesNews : Controller → Registry → Reply → Controller → Type 0
TakesNews c g = Lends (registry_fits g && controller_fits c) (λ s. s.registry ≡ registry_of g) refresh_controller c

abbrev pub ReadsLeader : Controller → Report → Reply → Controller → Type 0
ReadsLeader c x = Lends (leader_fits c x) (Reported x) read_leader c

abbrev pub Reads : Controller → Report → Reply → Controller → Type 0
Reads c x = Lends (report_fits c x) (Reported x) (read x.board) c

abbrev pub Hears : Controller → Report → Reply → Controller → Type 0
Hears c x = Lends (report_fits c x) (Reported x) (hear x.board) c

-- What a reply's type fixes: its set is a mask.
abbrev pub TypedReply : Reply → Type 0
TypedReply r = r.behind < 256

-- The promise P of a reply and of the record that a call leaves fixes both.
abbrev pub Fixes : (Reply → Controller → Type 0) → Type 0
Fixes P = (r q : Reply) (c' d : Controller) → TypedReply r → TypedReply q → TypedController c' → TypedController d
    → P r c' → P q d → (r ≡ q) × (c' ≡ d)

-- The promises of the four steps do: what a call is told is so in some state.
pub record LentFixed : Type 0 where
  pub news : (c : Controller) (g : Registry) → Fixes (TakesNews c g)
  pub read_leader : (c : Controller) (x : Report) → Fixes (ReadsLeader c x)
  pub read : (c : Controller) (x : Report) → Fixes (Reads c x)
  pub hear : (c : Controller) (x : Report) → Fixes (Hears c x)
