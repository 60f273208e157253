-- Document 02, Paper 10, "How many steps back to normal": the records that lead a row to status normal, each tried on
-- the model's own step, in the state that the records before it leave. Cited by the promises of recovery, and by the
-- contracts of the crates that make such a list. Assumes nothing.
use Rattle.std.specs.Prelude.{Bool, true, false, cond, ◌&&◌, List, [], ◌∷◌, ◌++◌, ℕ, zero, suc, ◌-◌, leb, ltb, eqb, length}
use Rattle.model.specs.Prelude.{upd}
use Rattle.model.specs.Members.{Members, ◌∩◌, size, quorum, lowest}
use Rattle.model.specs.State.{Entries, Status, normal, waiting, Stage, Controller, State, outline, stage_number}
use Rattle.model.specs.Steps.{above, accepted, answer_of, step}
use Rattle.model.specs.Records.{Record, bare, of, step_of}

-- "The lowest-numbered" n of m: those with fewer than n of m below them.
abbrev pub first_of : ℕ → Members → Members
first_of n m x = m x && ltb (size ((λ y. ltb y x) ∩ m)) n

-- "The highest ranked of them as heard, lowest number on a tie": the lowest of m above whom none of m ranks, 0 for the
-- empty set.
abbrev pub highest : Controller → Members → ℕ
highest c m = lowest (λ x. m x && eqb (size (m ∩ above c x)) 0)

-- "In stage boards".
abbrev pub in_boards : Stage → Bool
in_boards g = eqb (stage_number g) 2

-- A list in the making: its records so far, the state that they leave, and whether nothing was met that is error 20.
pub record Draft (E : Type 0) : Type 0 where
  pub records : List Record
  pub state : State E
  pub sound : Bool

abbrev pub start : {E : Type 0} → State E → Draft E
start s = record { records = []; state = s; sound = true }

-- n times the same.
unfoldable pub times : {A : Type 0} → ℕ → (A → A) → A → A
times zero f d = d
times (suc n) f d = times n f (f d)

-- For the boards of q among 1 to n, one after the other, the lowest first.
unfoldable pub turns : {A : Type 0} → ℕ → Members → (ℕ → A → A) → A → A
turns zero q f d = d
turns (suc n) q f d = let e = turns n q f d in cond (q (suc n)) (f (suc n) e) e

-- What a state has: its list, or error 20.
pub data Plan : Type 0 where
  found : List Record → Plan
  error : Plan

module _ (𝓔 : Entries) where
  open 𝓔 use {Entry}

  -- One record more. "Some record of the list would be refused" is error 20.
  unfoldable pub put : Record → Draft Entry → Draft Entry
  put r d = record {
    records = d.records ++ (r ∷ []);
    state = step 𝓔 d.state (step_of r);
    sound = d.sound && accepted (outline d.state) (step_of r);
  }

  -- "Left out are" those "that would be refused" n "at its place".
  unfoldable pub put_unless : ℕ → Record → Draft Entry → Draft Entry
  put_unless n r d = cond (eqb (answer_of (outline d.state) (step_of r)) n) d (put r d)

  -- Error 20 unless t.
  unfoldable pub need : Bool → Draft Entry → Draft Entry
  need t d = record { records = d.records; state = d.state; sound = d.sound && t }

  -- "Controller news", left out where it would be refused 12.
  unfoldable pub informs_controller : Draft Entry → Draft Entry
  informs_controller d = put_unless 12 (bare 10) d

  -- Choosing: "news and hearing" of b, each left out where it would be refused 12.
  unfoldable pub hears : ℕ → Draft Entry → Draft Entry
  hears b d = put_unless 12 (of 14 b) (put_unless 12 (of 6 b) d)

  -- "If choosing: controller news; then for the lowest-numbered majority of members, news and hearing in turn; install
  -- the highest ranked of them as heard, lowest number on a tie". The members are the registry's. With no member to
  -- name, installing 0 is refused.
  unfoldable pub choosing_part : Draft Entry → Draft Entry
  choosing_part d =
      let m = d.state.registry.view.members in
      let q = first_of (quorum (size m)) m in
      let e = turns 8 q hears (informs_controller d) in
      put (of 15 (highest e.state.controller q)) e

  -- Waiting: "news" of b, left out where it would be refused 12. Error 20 if b "has another leader in its view after
  -- its news" than l.
  unfoldable pub informs : ℕ → ℕ → Draft Entry → Draft Entry
  informs l b d = let e = put_unless 12 (of 6 b) d in need (eqb (e.state.view b).leader l) e

  -- "As many receives as bring each to the leader's length" now: none where b is longer.
  unfoldable pub receives : ℕ → ℕ → Draft Entry → Draft Entry
  receives l b d = times (length (d.state.log l) - length (d.state.log b)) (put (of 8 b)) d

  -- "News, join, as many receives as .., read": the join left out where it would be refused 11, the reading where 12.
  unfoldable pub follows : ℕ → ℕ → Draft Entry → Draft Entry
  follows l b d = put_unless 12 (of 12 b) (receives l b (put_unless 11 (of 7 b) (informs l b d)))

  -- "Read leader", left out "in stage boards".
  unfoldable pub reads_leader : Draft Entry → Draft Entry
  reads_leader d = cond (in_boards d.state.controller.stage) d (put (bare 11) d)

  -- "If waiting: controller news, leader's news, read leader; then for the lowest-numbered members other than the
  -- leader, as many as make a majority with it, heard before or not, news, join, .. receives .., read; then set
  -- normal." Leader and members are the registry's. Error 20 if "the leader is no member"; so there is a "leader .. to
  -- name", as 0 is no member of a row.
  unfoldable pub waiting_part : Draft Entry → Draft Entry
  waiting_part d =
      let l = d.state.registry.view.leader in
      let m = d.state.registry.view.members in
      let q = first_of (quorum (size m) - 1) (upd m l false) in
      put (bare 13) (turns 8 q (follows l) (reads_leader (informs l l (informs_controller (need (m l) d)))))

  -- "None if normal. If choosing: ..; then as waiting."
  unfoldable pub draft : Status → Draft Entry → Draft Entry
  draft normal d = d
  draft waiting d = waiting_part d
  draft Status.choosing d = waiting_part (choosing_part d)

  -- The list of a state. Error 20 too where "there are more than 2,064".
  unfoldable pub plan : State Entry → Plan
  plan s =
      let d = draft s.registry.status (start s) in
      cond (d.sound && leb (length d.records) 2064) (found d.records) error
