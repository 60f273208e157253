-- The lent controller put back into its row: a call over it is a call of the whole row, so demand 3 holds for lists
-- that mix both. Cited by the promise of `hub::claim`. Assumes nothing.
use Rattle.std.specs.Prelude.{true, List, [], ◌∷◌, ◌≡◌, ℕ}
use Rattle.model.specs.Members.{is_replica}
use Rattle.model.specs.State.{Opening, stage_number}
use Rattle.model.specs.Steps as S
use Rattle.model.specs.Steps.{Step}
use Rattle.cluster.specs.declared.Controller.{Controller}
use Rattle.cluster.specs.declared.Cluster.{Cluster}
use Rattle.cluster.specs.Layout.{stage_of, at, no_view}
use Rattle.refinement.specs.Refinement.{Places, Shape}
use Rattle.steps.specs.Call.{valid, Did}
use Rattle.steps.specs.Calls.{Held, Called, TakenUp, Calls, Begins, Follows}
use Rattle.hub.specs.declared.Report.{Report}
use Rattle.hub.specs.Replies.{Reply}
use Rattle.hub.specs.Lent.{TakesNews, ReadsLeader, Reads, Hears}

-- The row with the controller c.
abbrev pub put_back : Cluster → Controller → Cluster
put_back row c = record {
  registry = row.registry;
  controller = c;
  views = row.views;
  joined = row.joined;
  acked = row.acked;
  len = row.len;
  issued = row.issued;
}

-- What the board b of a row tells.
abbrev pub report_of : Cluster → ℕ → Report
report_of row b = record {
  board = b;
  epoch = (at no_view row.views b).epoch;
  joined = at 0 row.joined b;
  len = at 0 row.len b;
}

-- Below, a row's controller is lent, and what is told is the row's own: its registry, or what its board b has.

-- In step 11, b is the controller's leader at stage leader, and any board at another.
abbrev pub TellsOfLeader : Cluster → ℕ → Type 0
TellsOfLeader row b =
    (is_replica b ≡ true) × (stage_number (stage_of row.controller.stage) ≡ 1 → b ≡ row.controller.view.leader)

-- The call replied r and left c'. With c' put back, that is a call of the step with the whole row, which leaves the
-- lent places.
abbrev pub AsWhole : Step → Cluster → Places → Reply → Controller → Type 0
AsWhole st row p r c' =
    Did st row p (record { answer = r.answer; behind = r.behind; row = put_back row c' }) p

pub record LentAsWhole (row : Cluster) (p : Places) : Type 0 where
  pub news : (r : Reply) (c' : Controller) → TakesNews row.controller row.registry r c'
      → AsWhole S.refresh_controller row p r c'
  pub read_leader : (b : ℕ) (r : Reply) (c' : Controller) → TellsOfLeader row b
      → ReadsLeader row.controller (report_of row b) r c' → AsWhole S.read_leader row p r c'
  pub read : (b : ℕ) (r : Reply) (c' : Controller) → Reads row.controller (report_of row b) r c'
      → AsWhole (S.read b) row p r c'
  pub hear : (b : ℕ) (r : Reply) (c' : Controller) → Hears row.controller (report_of row b) r c'
      → AsWhole (S.hear b) row p r c'

-- So it is for every row and places that refusal 1 lets through. (If it does not, the fault may be in a part of the row
-- or in a lent place that a call lent the controller is not given. The row's type fixes the lengths of its arrays.)
unfoldable pub PutBack : Type 0
PutBack = (row : Cluster) (p : Places) → Shape row → valid row p ≡ true → LentAsWhole row p

-- What the caller holds with the controller c put back.
abbrev pub put_into : Held → Controller → Held
put_into h c = record { row = put_back h.row c; places = h.places }

-- A call of either kind, its answer and the mask of those behind it: by record or by name, or over the lent controller,
-- which is then put back.
pub data Link : Step → Held → Held → ℕ → ℕ → Type 0 where
  by_value : {st : Step} {h h' : Held} {n q : ℕ} → Called st h h' n q → Link st h h' n q
  news : {h : Held} {r : Reply} {c' : Controller} → Shape h.row
      → TakesNews h.row.controller h.row.registry r c'
      → Link S.refresh_controller h (put_into h c') r.answer r.behind
  read_leader : {h : Held} {b : ℕ} {r : Reply} {c' : Controller} → Shape h.row → TellsOfLeader h.row b
      → ReadsLeader h.row.controller (report_of h.row b) r c'
      → Link S.read_leader h (put_into h c') r.answer r.behind
  read : {h : Held} {b : ℕ} {r : Reply} {c' : Controller} → Shape h.row
      → Reads h.row.controller (report_of h.row b) r c'
      → Link (S.read b) h (put_into h c') r.answer r.behind
  hear : {h : Held} {b : ℕ} {r : Reply} {c' : Controller} → Shape h.row
      → Hears h.row.controller (report_of h.row b) r c'
      → Link (S.hear b) h (put_into h c') r.answer r.behind

-- Calls of both kinds one after the other, their answers and the masks of those behind them; anywhere the row may have
-- been taken up from its image.
pub data Links : Held → List Step → Held → List ℕ → List ℕ → Type 0 where
  stop : {h : Held} → Links h [] h [] []
  link : {h h' h'' : Held} {st : Step} {sts : List Step} {n q : ℕ} {ns qs : List ℕ}
      → Link st h h' n q → Links h' sts h'' ns qs → Links h (st ∷ sts) h'' (n ∷ ns) (q ∷ qs)
  resume : {h h' h'' : Held} {sts : List Step} {ns qs : List ℕ}
      → TakenUp h h' → Links h' sts h'' ns qs → Links h sts h'' ns qs

-- Demand 3 for lists that mix both kinds, after an opening: what holds after a list of calls by value holds after them,
-- and a mixed list that follows is a list of such calls, so that what is claimed of "whatever calls follow" is claimed
-- of it.
unfoldable pub LinksSafe : Type 0
LinksSafe =
    (o : Opening) (h : Held) → Begins o h → (sts : List Step) (h' : Held) (ns qs : List ℕ) → Links h sts h' ns qs
    → Follows o sts h' ns qs
    × ((more : List Step) (h'' : Held) (ms ps : List ℕ) → Links h' more h'' ms ps → Calls h' more h'' ms ps)
