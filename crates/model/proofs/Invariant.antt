-- The invariant of every run: what is true of a state, and of one history, after any list of records.
--
-- The history L names the replica that was made leader under each term. No code keeps it. The leader of the registry's
-- term is o = L τ: the one that the registry names or, while it is choosing, the one that left. Why receipts are safe.
-- A list is safe (`Ok`) if o's log begins with it and, wherever o could lose its place (`Firm`), more than half of the
-- electors hold it or the controller has read o at that length. All receipts together are safe, and a replaced leader
-- that still acts (`Stale`) is outvoted: so many of its members are blocked that whatever majority it counts tells it
-- of safe entries only.
use mathlib.Core.Bool.{Bool, true, false, not, cond, ◌&&◌}
use mathlib.Core.List.{List}
use mathlib.Core.Logic.{◌⊎◌, ◌≢◌}
use mathlib.Core.Path.{◌≡◌}
use Prim.Native.Nat.{ℕ, suc, ◌*◌, ◌≤◌, ◌<◌}
use lib.Dec.{T, leb, eqb}
use lib.ListN.{length, take}
use Rattle.model.specs.Prelude.{upd, ◌⊑◌}
use Rattle.model.specs.Members.{Members, is_replica, ◌∩◌, size}
use Rattle.model.specs.State.{View, Status, normal, waiting, Stage, idle, leader, boards, Registry, Controller, State, is_normal, is_choosing, stage_number}

-- Views: each is a copy of what the registry once held.

pub record RegistryOk (L : ℕ → ℕ) (r : Registry) : Type 0 where
  pub term : r.view.term ≤ r.view.epoch
  pub named : r.view.leader ≡ cond (is_choosing r.status) 0 (L r.view.term)
  pub member : T (not (is_choosing r.status)) → T (r.view.members (L r.view.term))

-- a replica's view v, beside the registry's view r; j is the replica's joined term
pub record ViewOk (L : ℕ → ℕ) (r v : View) (j : ℕ) : Type 0 where
  pub epoch : v.epoch ≤ r.epoch
  pub term : v.term ≤ r.term
  pub joined : j ≤ v.term
  pub current : v.epoch ≡ r.epoch → v ≡ r
  pub led : v.leader ≢ 0 → v.leader ≡ L v.term

abbrev pub is_waiting : Status → Bool
is_waiting normal = false
is_waiting waiting = true
is_waiting Status.choosing = false

-- the stage that a status brings the controller to, or a later one
abbrev pub fits : Status → Stage → Bool
fits g idle = is_normal g
fits g leader = is_waiting g
fits g boards = is_waiting g
fits g Stage.choosing = is_choosing g

pub record ControllerOk (r : Registry) (v : View) (g : Stage) : Type 0 where
  pub epoch : v.epoch ≤ r.view.epoch
  pub current : v.epoch ≡ r.view.epoch → v ≡ r.view
  pub stage : v.epoch ≡ r.view.epoch → T (fits r.status g)

-- Phases

-- the controller is up to date and has read the leader
abbrev pub reading : Registry → Controller → Bool
reading r c = eqb c.view.epoch r.view.epoch && eqb (stage_number c.stage) 2

-- the leader may be replaced at the next raise, or at the one after set normal
pub data Firm (r : Registry) (c : Controller) : Type 0 where
  vacant : T (is_choosing r.status) → Firm r c
  steady : T (is_normal r.status) → 2 ≤ size r.view.members → Firm r c
  reads : T (reading r c) → Firm r c

-- the members, and the leader o that may have left them
abbrev pub electors : Registry → ℕ → Members
electors r o = upd r.view.members o true

-- the leader o, with its view v and its joined term j
pub record LeaderOk (o : ℕ) (r : Registry) (c : Controller) (v : View) (j : ℕ) : Type 0 where
  pub joined : j ≡ v.term
  pub took : Firm r c → v.term ≡ r.view.term
  pub whole : Firm r c → v.leader ≡ o → v.members ≡ electors r o

-- the count n of a leader under term t, for a replica with joined term j and a log of m entries
pub record AckedOk (t j m n : ℕ) : Type 0 where
  pub early : j < t → n ≡ 0
  pub now : j ≡ t → n ≤ m

-- a acts as leader under a term that is over
pub record Stale (t : ℕ) (v : View) (a : ℕ) : Type 0 where
  pub real : a ≢ 0
  pub leads : v.leader ≡ a
  pub old : v.term < t

module _ {E : Type 0} where
  -- Logs and counts

  pub record LogsOk (L : ℕ → ℕ) (view : ℕ → View) (joined : ℕ → ℕ) (acked : ℕ → ℕ → ℕ) (log : ℕ → List E) : Type 0 where
    pub own : (a : ℕ) → L (view a).term ≡ a → joined a ≡ (view a).term
    pub taken : (b : ℕ) → joined b ≤ (view (L (joined b))).term
    pub follows : (b : ℕ) → (view (L (joined b))).term ≡ joined b → log b ⊑ log (L (joined b))
    pub counts : (a b : ℕ) → L (view a).term ≡ a → AckedOk (view a).term (joined b) (length (log b)) (acked a b)

  -- What the controller, up to date, has heard

  pub record HeardOk (r : Registry) (c : Controller) (view : ℕ → View) (joined : ℕ → ℕ) (log : ℕ → List E) : Type 0
    where
      pub read : c.view.epoch ≡ r.view.epoch → stage_number c.stage ≢ 3 → (b : ℕ) → T (r.view.members b)
          → 1 ≤ c.heard b
          → (joined b ≡ r.view.term) × (c.heard b ≤ suc (length (log b)))
      pub heard : c.view.epoch ≡ r.view.epoch → stage_number c.stage ≡ 3 → (b : ℕ) → T (r.view.members b)
          → 1 ≤ c.heard b
          → ((view b).epoch ≡ r.view.epoch) × (c.heard b ≡ suc (length (log b))) × (joined b ≡ c.heard_joined b)

  -- Safety

  -- the replicas that have joined term t and hold n entries
  abbrev pub holding : (ℕ → ℕ) → (ℕ → List E) → ℕ → ℕ → Members
  holding joined log t n b = eqb (joined b) t && leb n (length (log b))

  -- n entries of the leader o are held by more than half of the electors, or were there when the controller read it
  pub data Backed (o : ℕ) (r : Registry) (c : Controller) (joined : ℕ → ℕ) (log : ℕ → List E) (n : ℕ) : Type 0 where
    held : size (electors r o) < 2 * size (electors r o ∩ holding joined log r.view.term n)
        → Backed o r c joined log n
    read : T (reading r c) → suc n ≤ c.heard o → Backed o r c joined log n

  pub record Ok (o : ℕ) (r : Registry) (c : Controller) (joined : ℕ → ℕ) (log : ℕ → List E) (x : List E) : Type 0 where
    pub begins : x ⊑ log o
    pub backed : Firm r c → Backed o r c joined log (length x)

  -- b (view w, joined term j, log lb) can tell the stale leader (view v, count n for b, log la) of safe entries only:
  -- it has gone on to a later term, or its log stands still until it does, or it is the named leader l, whose log is
  -- the measure
  pub data Blocked (Safe : List E → Type 0) (l : ℕ) (v w : View) (n j : ℕ) (la lb : List E) (b : ℕ) : Type 0 where
    passed : v.term < w.term → n ≤ length la → Safe (take n la) → Blocked Safe l v w n j la lb b
    stuck : w.term ≡ v.term → (w.leader ≡ 0) ⊎ (l ≡ b) → (j ≡ v.term → Safe lb) → Blocked Safe l v w n j la lb b

  -- at least half of a's members are blocked
  pub record Outvoted (Safe : List E → Type 0) (l : ℕ) (view : ℕ → View) (joined : ℕ → ℕ) (acked : ℕ → ℕ → ℕ)
      (log : ℕ → List E) (a : ℕ) : Type 0 where
    pub some : Members
    pub enough : size (view a).members ≤ 2 * size ((view a).members ∩ some)
    pub blocked : (b : ℕ) → T (is_replica b) → T (some b)
        → Blocked Safe l (view a) (view b) (acked a b) (joined b) (log a) (log b) b

  -- a list that is safe in a state
  abbrev pub SafeIn : (ℕ → ℕ) → State E → List E → Type 0
  SafeIn L s = Ok (L s.registry.view.term) s.registry s.controller s.joined s.log

  abbrev pub OutvotedIn : (ℕ → ℕ) → State E → ℕ → Type 0
  OutvotedIn L s = Outvoted (SafeIn L s) s.registry.view.leader s.view s.joined s.acked s.log

  pub record Inv (L : ℕ → ℕ) (s : State E) : Type 0 where
    pub real : (t : ℕ) → T (is_replica (L t))
    pub registry : RegistryOk L s.registry
    pub views : (b : ℕ) → ViewOk L s.registry.view (s.view b) (s.joined b)
    pub controller : ControllerOk s.registry s.controller.view s.controller.stage
    pub logs : LogsOk L s.view s.joined s.acked s.log
    pub leader : LeaderOk (L s.registry.view.term) s.registry s.controller
        (s.view (L s.registry.view.term)) (s.joined (L s.registry.view.term))
    pub heard : HeardOk s.registry s.controller s.view s.joined s.log
    pub safe : SafeIn L s s.committed
    pub outvoted : (a : ℕ) → Stale s.registry.view.term (s.view a) a → OutvotedIn L s a
