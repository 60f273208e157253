-- What the structs stand for in the model. Cited by the contracts of cluster and of the crates over it.
-- Assumes nothing.
use Rattle.std.specs.Prelude.{cond, ◌&&◌, List, ◌∷◌, ℕ, ◌+◌, ◌-◌, ◌*◌, get_or}
use Rattle.model.specs.Members.{is_replica}
use Rattle.model.specs.State as M
pub use Rattle.members.specs.Mask.{bits}
use Rattle.cluster.specs.declared.View.{View}
use Rattle.cluster.specs.declared.Status.{Status}
use Rattle.cluster.specs.declared.Status.TheVariants.{Normal, Waiting}
use Rattle.cluster.specs.declared.Stage.{Stage}
use Rattle.cluster.specs.declared.Stage.TheVariants.{Idle, Leader, Boards}
use Rattle.cluster.specs.declared.Registry.{Registry}
use Rattle.cluster.specs.declared.Controller.{Controller}
use Rattle.cluster.specs.declared.Cluster.{Cluster}

abbrev pub status_of : Status → M.Status
status_of Normal = M.normal
status_of Waiting = M.waiting
status_of Status.Choosing = M.Status.choosing

abbrev pub stage_of : Stage → M.Stage
stage_of Idle = M.idle
stage_of Leader = M.Stage.leader
stage_of Boards = M.boards
stage_of Stage.Choosing = M.Stage.choosing

abbrev pub view_of : View → M.View
view_of v = record { epoch = v.epoch; term = v.term; leader = v.leader; members = bits v.members }

abbrev pub registry_of : Registry → M.Registry
registry_of r = record { view = view_of r.view; status = status_of r.status }

-- By replica: the list has replica 1 first, and what is no replica has d.
abbrev pub at : {A : Type 0} → A → List A → ℕ → A
at d xs b = get_or (d ∷ xs) b d

-- By two replicas: what a has of b stands at 8 (a - 1) + b - 1; 0 where one of them is no replica.
abbrev pub at_pair : List ℕ → ℕ → ℕ → ℕ
at_pair xs a b = cond (is_replica a && is_replica b) (get_or xs (8 * (a - 1) + (b - 1)) 0) 0

abbrev pub controller_of : Controller → M.Controller
controller_of c =
    record {
      view = view_of c.view;
      stage = stage_of c.stage;
      heard = at 0 c.heard;
      heard_joined = at 0 c.joined;
    }

-- What a number that is no replica has for a view.
abbrev pub no_view : View
no_view = record { epoch = 0; term = 0; leader = 0; members = 0 }

-- A row is a state in outline.
abbrev pub outline_of : Cluster → M.Outline
outline_of row = record {
  registry = registry_of row.registry;
  controller = controller_of row.controller;
  view = λ b. view_of (at no_view row.views b);
  joined = at 0 row.joined;
  acked = at_pair row.acked;
  len = at 0 row.len;
  issued = row.issued;
}
