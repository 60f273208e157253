-- The fifteen steps of document 01, each under its number and the paper's words: the checks in the order written,
-- each with its refusal, the set behind an accepted one (document 02, Paper 6), and the state after acceptance.
-- Cited by Records, Runs and every step's contract. Assumes nothing.
use Rattle.std.specs.Prelude.{Bool, true, false, cond, not, ◌&&◌, ◌||◌, List, [], ◌∷◌, ◌++◌, ℕ, suc, leb, ltb, eqb, length, get_or}
use Rattle.model.specs.Prelude.{upd, Check, ◌else◌, first_failed, passes}
use Rattle.model.specs.Members.{Members, is_replica, none, ◌∩◌, size, is_quorum, lowest}
use Rattle.model.specs.State.{Entries, View, Status, normal, waiting, Stage, idle, boards, Registry, Controller, State, Outline, outline, is_normal, is_choosing, stage_number, stage_for, zeros}

-- The steps, each with its number and document 01's word where ours is another.
pub data Step : Type 0 where
  -- 1
  append : (b value : ℕ) → Step
  -- 2 receipt, 3, 4
  commit add remove : (b : ℕ) → Step
  -- 5 change
  change_leader : Step
  -- 6 news, 7, 8
  refresh join receive : (b : ℕ) → Step
  -- 9 count
  acknowledge : (a b : ℕ) → Step
  -- 10 controller news, 11
  refresh_controller read_leader : Step
  -- 12
  read : (b : ℕ) → Step
  -- 13
  set_normal : Step
  -- 14, 15
  hear install : (b : ℕ) → Step
  -- no step: a record that refusal 1 turns away
  malformed : Step

-- Three steps write an entry: 1 and 8 into b's log, 2 into the receipts. No other writes one.
pub data Writes : Type 0 where
  appends : (b value : ℕ) → Writes
  commits receives : (b : ℕ) → Writes
  nothing : Writes

abbrev pub writes : Step → Writes
writes (append b value) = appends b value
writes (commit b) = commits b
writes (add b) = nothing
writes (remove b) = nothing
writes change_leader = nothing
writes (refresh b) = nothing
writes (join b) = nothing
writes (receive b) = receives b
writes (acknowledge a b) = nothing
writes refresh_controller = nothing
writes read_leader = nothing
writes (read b) = nothing
writes set_normal = nothing
writes (hear b) = nothing
writes (install b) = nothing
writes malformed = nothing

-- "Raise adds 1 to the registry epoch, refused [7] at 4,000 as the last check."
abbrev pub raise : Registry → Check
raise r = ltb r.view.epoch 4000 else 7

-- The three majority questions, each by its test: the set of those that pass it, members or not.

-- Step 2: counts above the receipts' length n.
abbrev pub counted_above : (ℕ → ℕ) → ℕ → Members
counted_above acked n x = ltb n (acked x)

-- Step 13: heard, at a length not below the leader's heard one.
abbrev pub heard_enough : Controller → Members
heard_enough c x = leb 1 (c.heard x) && leb (c.heard c.view.leader) (c.heard x)

-- "Installing ranks boards by joined epoch first, then length": x ranks above b.
abbrev pub above : Controller → ℕ → ℕ → Bool
above c b x =
    ltb (c.heard_joined b) (c.heard_joined x)
    || (eqb (c.heard_joined b) (c.heard_joined x) && ltb (c.heard b) (c.heard x))

-- Step 15: heard, not ranked above b.
abbrev pub ranked_not_above : Controller → ℕ → Members
ranked_not_above c b x = leb 1 (c.heard x) && not (above c b x)

-- Registries after a raise.

-- Step 3.
abbrev pub added : Registry → ℕ → Registry
added r b = record {
  view = record {
    epoch = suc r.view.epoch;
    term = r.view.term;
    leader = r.view.leader;
    members = upd r.view.members b true;
  };
  status = waiting;
}

-- Step 4.
abbrev pub removed : Registry → ℕ → Registry
removed r b = record {
  view = record {
    epoch = suc r.view.epoch;
    term = r.view.term;
    leader = r.view.leader;
    members = upd r.view.members b false;
  };
  status = cond (eqb (size (upd r.view.members b false)) 1) normal waiting;
}

-- Step 5, "if exactly one is left".
abbrev pub succeeded : Registry → Members → Registry
succeeded r left = record {
  view = record { epoch = suc r.view.epoch; term = suc r.view.epoch; leader = lowest left; members = left };
  status = normal;
}

-- Step 5, "otherwise".
abbrev pub vacated : Registry → Members → Registry
vacated r left = record {
  view = record { epoch = suc r.view.epoch; term = r.view.term; leader = 0; members = left };
  status = Status.choosing;
}

-- Step 13.
abbrev pub made_normal : Registry → Registry
made_normal r = record {
  view = record {
    epoch = suc r.view.epoch;
    term = r.view.term;
    leader = r.view.leader;
    members = r.view.members;
  };
  status = normal;
}

-- Step 15.
abbrev pub installed : Registry → ℕ → Registry
installed r b = record {
  view = record { epoch = suc r.view.epoch; term = suc r.view.epoch; leader = b; members = r.view.members };
  status = waiting;
}

-- Controllers.

-- The stage g, nothing heard.
abbrev pub deaf : View → Stage → Controller
deaf v g = record { view = v; stage = g; heard = zeros; heard_joined = zeros }

-- The length n and the joined epoch j heard of b.
abbrev pub heard_of : Controller → Stage → ℕ → ℕ → ℕ → Controller
heard_of c g b n j = record {
  view = c.view;
  stage = g;
  heard = upd c.heard b (suc n);
  heard_joined = upd c.heard_joined b j;
}

-- The longest beginning shared by two lists (document 01, step 7).
abbrev pub shared : {E : Type 0} → (E → E → Bool) → List E → List E → List E
shared same [] ys = []
shared same (x ∷ xs) [] = []
shared same (x ∷ xs) (y ∷ ys) = cond (same x y) (x ∷ shared same xs ys) []

-- The checks of a step, in the order written, each with its refusal. "1 before a step's own checks."
module _ (m : Outline) where
  open m use {registry, controller, view, joined, acked, len, issued}

  -- "b's leader is b".
  abbrev leads : ℕ → Bool
  leads b = eqb (view b).leader b

  -- "its leader is neither 0 nor b".
  abbrev follows : ℕ → Bool
  follows b = not (eqb (view b).leader 0) && not (eqb (view b).leader b)

  -- Joined equals its own leader epoch.
  abbrev has_joined : ℕ → Bool
  has_joined b = eqb (joined b) (view b).term

  abbrev same_term : ℕ → ℕ → Bool
  same_term a b = eqb (view a).term (view b).term

  abbrev at_stage : Stage → Bool
  at_stage g = eqb (stage_number controller.stage) (stage_number g)

  -- Controller and registry epochs are equal.
  abbrev up_to_date : Bool
  up_to_date = eqb controller.view.epoch registry.view.epoch

  -- The heard length of b is below its log's length.
  abbrev heard_below : ℕ → Bool
  heard_below b = ltb (controller.heard b) (suc (len b))

  -- "The majority question now answers with the set of all members that qualify" (document 02, Paper 6): the set of a
  -- step's question, whatever its other checks say. A step that asks no majority has no one.
  abbrev pub qualified : Step → Members
  -- "For a receipt these are the members counted above it,
  qualified (commit b) = (view b).members ∩ counted_above (acked b) issued
  -- for set normal those heard at the leader's heard length or more,
  qualified set_normal = controller.view.members ∩ heard_enough controller
  -- for installing those heard and not ranked above the new leader."
  qualified (install b) = controller.view.members ∩ ranked_not_above controller b
  qualified (append b value) = none
  qualified (add b) = none
  qualified (remove b) = none
  qualified change_leader = none
  qualified (refresh b) = none
  qualified (join b) = none
  qualified (receive b) = none
  qualified (acknowledge a b) = none
  qualified refresh_controller = none
  qualified read_leader = none
  qualified (read b) = none
  qualified (hear b) = none
  qualified malformed = none

  -- The checks of each step: first refusal 1 ("1 before a step's own checks"), then those of the paper.
  abbrev pub checks : Step → List Check
  -- 1. Append b, value: "b's leader is b [8]; log under 512 [13]".
  checks (append b value) = (is_replica b else 1)
      ∷ (leads b else 8)
      ∷ (ltb (len b) 512 else 13) ∷ []
  -- 2. Receipt by b: "b's leader is b [8]; b's log is longer than the receipts [12]; a majority of b's members have
  -- counts in b above the receipts' length [14]".
  checks (commit b) = (is_replica b else 1)
      ∷ (leads b else 8)
      ∷ (ltb issued (len b) else 12)
      ∷ (is_quorum (view b).members (qualified (commit b)) else 14) ∷ []
  -- 3. Add b: "not choosing [4]; not a member [5]; raise".
  checks (add b) = (is_replica b else 1)
      ∷ (not (is_choosing registry.status) else 4)
      ∷ (not (registry.view.members b) else 5)
      ∷ raise registry ∷ []
  -- 4. Remove b: "not choosing [4]; a member [5]; not the leader [6]; raise".
  checks (remove b) = (is_replica b else 1)
      ∷ (not (is_choosing registry.status) else 4)
      ∷ (registry.view.members b else 5)
      ∷ (not (eqb b registry.view.leader) else 6)
      ∷ raise registry ∷ []
  -- 5. Change leader: "normal [4]; two members or more [6]; raise".
  checks change_leader =
      (is_normal registry.status else 4)
      ∷ (leb 2 (size registry.view.members) else 6)
      ∷ raise registry ∷ []
  -- 6. Board b takes news: "its epoch is below the registry's [12]".
  checks (refresh b) = (is_replica b else 1)
      ∷ (ltb (view b).epoch registry.view.epoch else 12) ∷ []
  -- 7. Join b: "its leader is neither 0 nor b [9]; b is in its own members [5]; it and its leader have equal leader
  -- epochs [10]; joined differs from its leader epoch [11]".
  checks (join b) = (is_replica b else 1)
      ∷ (follows b else 9)
      ∷ ((view b).members b else 5)
      ∷ (same_term b (view b).leader else 10)
      ∷ (not (has_joined b) else 11) ∷ []
  -- 8. Receive b: "as step 7 for [9]; b is in its own and its leader's members [5]; [10] as step 7; joined equals its
  -- leader epoch [11]; its log is shorter than its leader's [12]".
  checks (receive b) = (is_replica b else 1)
      ∷ (follows b else 9)
      ∷ ((view b).members b && (view (view b).leader).members b else 5)
      ∷ (same_term b (view b).leader else 10)
      ∷ (has_joined b else 11)
      ∷ (ltb (len b) (len (view b).leader) else 12) ∷ []
  -- 9. Leader a counts b: "a's leader is a [8]; b is in its own members [5]; equal leader epochs [10]; b's joined
  -- equals its leader epoch [11]; a's count for b is below b's length [12]". 1 too for "a equal to b in step 9".
  checks (acknowledge a b) = (is_replica a && is_replica b && not (eqb a b) else 1)
      ∷ (leads a else 8)
      ∷ ((view b).members b else 5)
      ∷ (same_term a b else 10)
      ∷ (has_joined b else 11) ∷ (ltb (acked a b) (len b) else 12) ∷ []
  -- 10. Controller takes news: "its epoch is below the registry's [12]".
  checks refresh_controller =
      (ltb controller.view.epoch registry.view.epoch else 12) ∷ []
  -- 11. Controller reads leader: "stage leader [15]; that board's epoch equals the controller's [16]".
  checks read_leader =
      (at_stage Stage.leader else 15)
      ∷ (eqb (view controller.view.leader).epoch controller.view.epoch else 16) ∷ []
  -- 12. Controller reads b: "stage boards [15]; b is not the controller's leader [6]; b is in the controller's
  -- members [5]; b's joined equals the controller's leader epoch [11]; heard length below b's length [12]".
  checks (read b) = (is_replica b else 1)
      ∷ (at_stage boards else 15)
      ∷ (not (eqb b controller.view.leader) else 6)
      ∷ (controller.view.members b else 5)
      ∷ (eqb (joined b) controller.view.term else 11)
      ∷ (heard_below b else 12) ∷ []
  -- 13. Set normal: "stage boards [15]; controller and registry epochs equal [16]; some majority of the controller's
  -- members are each heard, at a length not below the leader's heard one [14]; raise".
  checks set_normal =
      (at_stage boards else 15)
      ∷ (up_to_date else 16)
      ∷ (is_quorum controller.view.members (qualified set_normal) else 14)
      ∷ raise registry ∷ []
  -- 14. Controller hears b: "stage choosing [15]; b is in the controller's members [5]; b's epoch equals the
  -- controller's [16]; heard length below b's length [12]".
  checks (hear b) = (is_replica b else 1)
      ∷ (at_stage Stage.choosing else 15)
      ∷ (controller.view.members b else 5)
      ∷ (eqb (view b).epoch controller.view.epoch else 16)
      ∷ (heard_below b else 12) ∷ []
  -- 15. Install b: "as step 14 for [15] and [5]; controller and registry epochs equal [16]; some majority of the
  -- controller's members contains b, all heard, none ranked above b [14]; raise".
  checks (install b) = (is_replica b else 1)
      ∷ (at_stage Stage.choosing else 15)
      ∷ (controller.view.members b else 5)
      ∷ (up_to_date else 16)
      ∷ (leb 1 (controller.heard b) && is_quorum controller.view.members (qualified (install b)) else 14)
      ∷ raise registry ∷ []
  -- No step.
  checks malformed = (false else 1) ∷ []

-- "Checks are made in the order written": accepted, or refused with the number of the first that fails.
abbrev pub accepted : Outline → Step → Bool
accepted m st = passes (checks m st)

abbrev pub answer_of : Outline → Step → ℕ
answer_of m st = first_failed (checks m st)

-- The set behind a step: those that qualify, where it is accepted; no one, where it is refused. The calls hand it back
-- beside the answer.
abbrev pub behind : Outline → Step → Members
behind m st = cond (accepted m st) (qualified m st) none

-- A state of these parts.
abbrev from_parts : {E : Type 0} → Registry → Controller
    → (ℕ → View) → (ℕ → ℕ) → (ℕ → ℕ → ℕ) → (ℕ → List E) → List E → State E
from_parts registry controller view joined acked log committed = record {
  registry = registry;
  controller = controller;
  view = view;
  joined = joined;
  acked = acked;
  log = log;
  committed = committed;
}

-- A state with one part changed.
module _ {E : Type 0} (s : State E) where
  open s use {registry, controller, view, joined, acked, log, committed}

  abbrev pub with_registry : Registry → State E
  with_registry r = from_parts r controller view joined acked log committed

  abbrev pub with_controller : Controller → State E
  with_controller c = from_parts registry c view joined acked log committed

  abbrev pub with_view : ℕ → View → State E
  with_view b v = from_parts registry controller (upd view b v) joined acked log committed

  abbrev pub with_joined : ℕ → ℕ → State E
  with_joined b j = from_parts registry controller view (upd joined b j) acked log committed

  abbrev pub with_acked : ℕ → (ℕ → ℕ) → State E
  with_acked b n = from_parts registry controller view joined (upd acked b n) log committed

  abbrev pub with_log : ℕ → List E → State E
  with_log b l = from_parts registry controller view joined acked (upd log b l) committed

  abbrev pub with_committed : List E → State E
  with_committed l = from_parts registry controller view joined acked log l

module _ (𝓔 : Entries) where
  open 𝓔 use {Entry, make, same}

  module _ (s : State Entry) where
    open s use {registry, controller, view, joined, acked, log, committed}

    -- The entry at a place of b's log. (Where it is cited the place is inside the log.)
    abbrev pub entry_at : ℕ → ℕ → Entry
    entry_at b n = get_or (log b) n (make 0 0)

    -- The state after an accepted step.
    abbrev pub next : Step → State Entry
    -- 1. "The value is added; b's count for itself becomes the length." The entry "carries the leader epoch of the
    -- board that appended it" (document 02, Paper 4).
    next (append b value) =
        with_acked (with_log s b (log b ++ (make value (view b).term ∷ []))) b (upd (acked b) b (suc (length (log b))))
    -- 2. "The next entry of b's log joins the receipts."
    next (commit b) = with_committed s (committed ++ (entry_at b (length committed) ∷ []))
    -- 3. "Status waiting." (`added`)
    next (add b) = with_registry s (added registry b)
    -- 4. "Status normal if exactly one member is left, else waiting." (`removed`)
    next (remove b) = with_registry s (removed registry b)
    -- 5. "The leader leaves the members. If exactly one is left it becomes leader, the leader epoch becomes the new
    -- epoch, status stays normal. Otherwise leader 0, status choosing, leader epoch kept." (`succeeded`, `vacated`)
    next change_leader =
        let left = upd registry.view.members registry.view.leader false in
        with_registry s (cond (eqb (size left) 1) (succeeded registry left) (vacated registry left))
    -- 6. "It copies epoch, leader epoch, leader and members. If its leader epoch changed, its counts become 0, its
    -- own count its log's length, and if it is the leader, joined becomes the new leader epoch."
    next (refresh b) =
        let changed = not (eqb (view b).term registry.view.term) in
        with_acked
        (with_joined (with_view s b registry.view) b
        (cond (changed && eqb registry.view.leader b) registry.view.term (joined b)))
        b (cond changed (upd zeros b (length (log b))) (acked b))
    -- 7. "Its log is cut to the longest beginning shared with the leader's; joined becomes its leader epoch." The epoch
    -- of an entry counts "in where joining cuts" (document 02, Paper 4): `same` is by value and epoch.
    next (join b) = with_joined (with_log s b (shared same (log b) (log (view b).leader))) b (view b).term
    -- 8. "It takes the leader's next entry."
    next (receive b) = with_log s b (log b ++ (entry_at (view b).leader (length (log b)) ∷ []))
    -- 9. "The count becomes that length."
    next (acknowledge a b) = with_acked s a (upd (acked a) b (length (log b)))
    -- 10. "It copies the registry; heard lengths become none; stage is idle, leader or choosing for normal, waiting or
    -- choosing."
    next refresh_controller = with_controller s (deaf registry.view (stage_for registry.status))
    -- 11. "Its length is heard; stage boards."
    next read_leader =
        let b = controller.view.leader in
        with_controller s (heard_of controller boards b (length (log b)) 0)
    -- 12. "The length is heard."
    next (read b) = with_controller s (heard_of controller controller.stage b (length (log b)) 0)
    -- 13. "Status normal, stage idle, heard lengths none, controller epoch the new one."
    next set_normal =
        let v = controller.view in
        let e = suc registry.view.epoch in
        with_controller (with_registry s (made_normal registry))
        (deaf (record { epoch = e; term = v.term; leader = v.leader; members = v.members }) idle)
    -- 14. "Length and joined are heard."
    next (hear b) = with_controller s (heard_of controller controller.stage b (length (log b)) (joined b))
    -- 15. "Leader b, leader epoch the new epoch, status waiting; the controller has the same epoch, leader and leader
    -- epoch, stage leader, heard lengths none."
    next (install b) =
        let e = suc registry.view.epoch in
        with_controller (with_registry s (installed registry b))
        (deaf (record { epoch = e; term = e; leader = b; members = controller.view.members }) Stage.leader)
    -- No step.
    next malformed = s

    -- "A refused step returns its number, row, store and receipts untouched."
    abbrev pub step : Step → State Entry
    step st = cond (accepted (outline s) st) (next st) s
