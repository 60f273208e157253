-- A row is fixed by its outline. A call's promise gives the outline of the row that it returns, so it fixes the row.
-- Assumes nothing.
use mathlib.Core.List.{List}
use mathlib.Core.Path.{◌≡◌, refl, sym, ap, ◌∙◌}
use Prim.Native.Nat.{ℕ, suc, ◌+◌, ◌-◌, ◌*◌, ◌/◌, ◌%◌, ◌<◌}
use native.Mathlib.Omega.{arith}
use lib.ListN.{length, get_or}
use lib.Seq.{ext_get_or}
use Rattle.model.specs.State as M
use Rattle.members.proofs.Laws.{replica}
pub use Rattle.members.proofs.Laws.{bits-injective}
use Rattle.cluster.specs.declared.View.{View}
use Rattle.cluster.specs.declared.Status.{Status}
use Rattle.cluster.specs.declared.Status.TheVariants.{Normal, Waiting}
use Rattle.cluster.specs.declared.Stage.{Stage}
use Rattle.cluster.specs.declared.Stage.TheVariants.{Idle, Leader, Boards}
use Rattle.cluster.specs.declared.Controller.{Controller}
use Rattle.cluster.specs.Layout.{status_of, stage_of, view_of, controller_of, at, at_pair, no_view}
use Rattle.refinement.specs.Rows.{TypedController, RowsFixed, MasksFixed}

-- Lists as long as each other are equal if they are by replica.
pub at-equal : {A : Type 0} (d : A) (xs ys : List A) → length xs ≡ length ys → ((b : ℕ) → at d xs b ≡ at d ys b) → xs
    ≡ ys
at-equal d xs ys e h = ext_get_or d xs ys e (λ i _. h (suc i))

-- The count at place i is by the replicas i / 8 + 1 and i % 8 + 1.
pair-at : (xs : List ℕ) (i : ℕ) → i < 64 → at_pair xs (i / 8 + 1) (i % 8 + 1) ≡ get_or xs i 0
pair-at xs i h =
    let p : 8 * (i / 8 + 1 - 1) + (i % 8 + 1 - 1) ≡ i = omega arith in
    rw (replica (i / 8 + 1) (omega arith) (omega arith), replica (i % 8 + 1) (omega arith) (omega arith), p)

-- Lists of 64 are equal if they are by two replicas.
pub pair-equal : (xs ys : List ℕ) → length xs ≡ 64 → length ys ≡ 64 → ((a b : ℕ) → at_pair xs a b ≡ at_pair ys a b) → xs
    ≡ ys
pair-equal xs ys e f h =
    ext_get_or 0 xs ys (e ∙ sym f) (λ i l. sym (pair-at xs i (omega arith)) ∙ h (i / 8 + 1) (i % 8 + 1)
    ∙ pair-at ys i (omega arith))

pub view-equal : (v w : View) → v.members < 256 → w.members < 256 → view_of v ≡ view_of w → v ≡ w
view-equal v w h k e =
    let m = bits-injective v.members w.members h k (λ i. (e i).members) in
    λ i. record { epoch = (e i).epoch; term = (e i).term; leader = (e i).leader; members = m i }

-- status_of and stage_of the other way.
status_from : M.Status → Status
status_from M.normal = Normal
status_from M.waiting = Waiting
status_from M.Status.choosing = Status.Choosing

status-from : (g : Status) → status_from (status_of g) ≡ g
unfolding status_from
status-from Normal = refl
status-from Waiting = refl
status-from Status.Choosing = refl

pub status-equal : (g h : Status) → status_of g ≡ status_of h → g ≡ h
status-equal g h e = sym (status-from g) ∙ ap status_from e ∙ status-from h

stage_from : M.Stage → Stage
stage_from M.idle = Idle
stage_from M.Stage.leader = Leader
stage_from M.boards = Boards
stage_from M.Stage.choosing = Stage.Choosing

stage-from : (g : Stage) → stage_from (stage_of g) ≡ g
unfolding stage_from
stage-from Idle = refl
stage-from Leader = refl
stage-from Boards = refl
stage-from Stage.Choosing = refl

pub stage-equal : (g h : Stage) → stage_of g ≡ stage_of h → g ≡ h
stage-equal g h e = sym (stage-from g) ∙ ap stage_from e ∙ stage-from h

pub controllers-equal : (c d : Controller) → TypedController c → TypedController d → controller_of c ≡ controller_of d
    → c ≡ d
controllers-equal c d t u e =
    let v = view-equal c.view d.view t.members u.members (λ i. (e i).view) in
    let s = stage-equal c.stage d.stage (λ i. (e i).stage) in
    let h = at-equal 0 c.heard d.heard (t.heard ∙ sym u.heard) (λ b i. (e i).heard b) in
    let j = at-equal 0 c.joined d.joined (t.joined ∙ sym u.joined) (λ b i. (e i).heard_joined b) in
    λ i. record { view = v i; stage = s i; heard = h i; joined = j i }

pub rows-equal : RowsFixed
unfolding RowsFixed
rows-equal row row' t t' e =
    let rv = view-equal row.registry.view row'.registry.view t.registry t'.registry
    (λ i. (e i).registry.view) in
    let rs = status-equal row.registry.status row'.registry.status (λ i. (e i).registry.status) in
    let c = controllers-equal row.controller row'.controller t.controller t'.controller
    (λ i. (e i).controller) in
    let vs = at-equal no_view row.views row'.views (t.shape.views ∙ sym t'.shape.views)
    (λ b. view-equal (at no_view row.views b) (at no_view row'.views b) (t.views b) (t'.views b)
    (λ i. (e i).view b)) in
    let js = at-equal 0 row.joined row'.joined (t.shape.joined ∙ sym t'.shape.joined)
    (λ b i. (e i).joined b) in
    let ks = pair-equal row.acked row'.acked t.shape.acked t'.shape.acked (λ a b i. (e i).acked a b) in
    let ls = at-equal 0 row.len row'.len (t.shape.len ∙ sym t'.shape.len) (λ b i. (e i).len b) in
    λ i. record {
      registry = record { view = rv i; status = rs i };
      controller = c i;
      views = vs i;
      joined = js i;
      acked = ks i;
      len = ls i;
      issued = (e i).issued;
    }

pub masks-fixed : MasksFixed
unfolding MasksFixed
masks-fixed = bits-injective
