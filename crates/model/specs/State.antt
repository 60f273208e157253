-- The cluster (document 01: row): registry, replicas, controller, logs, receipts, and the opening. Cited by Steps,
-- Claim and most contracts. Assumes nothing.
use Rattle.std.specs.Prelude.{Bool, true, false, cond, ◌&&◌, List, [], ◌↔◌, ◌≡◌, ℕ, T, eqb, length}
use Rattle.model.specs.Members.{Members, is_replica, none, only}

-- What an entry is: made of a value and the term of the replica that appends it, with a test for equality.
-- No step and no proof of demand 3 looks inside an entry.
pub record Entries : Type 1 where
  pub Entry : Type 0
  pub make : ℕ → ℕ → Entry
  pub same : Entry → Entry → Bool

-- The test is exact: it says whether they are the same entry.
abbrev pub IsExact : Entries → Type 0
IsExact 𝓔 = (x y : 𝓔.Entry) → T (𝓔.same x y) ↔ (x ≡ y)

-- The entry of the calls: "An entry now carries the leader epoch of the board that appended it" (document 02, Paper 4).
-- Any numbers here: that a value has 32 bits, and that a kept epoch is 1 to 4,000, the calls see to.
pub record Entry : Type 0 where
  pub value : ℕ
  pub term : ℕ

abbrev pub entry : ℕ → ℕ → Entry
entry value term = record { value = value; term = term }

-- "Two entries are equal only if value and epoch both are."
abbrev pub same_entry : Entry → Entry → Bool
same_entry x y = eqb x.value y.value && eqb x.term y.term

-- The kind of entry that the calls use: here alone it is chosen.
abbrev pub entries : Entries
entries = record { Entry = Entry; make = entry; same = same_entry }

-- Epoch, leader epoch (term), leader (0: none) and members: as the registry holds them, or as a replica or the
-- controller last took them.
pub record View : Type 0 where
  pub epoch : ℕ
  pub term : ℕ
  pub leader : ℕ
  pub members : Members

pub data Status : Type 0 where
  normal waiting choosing : Status

pub data Stage : Type 0 where
  idle leader boards choosing : Stage

pub record Registry : Type 0 where
  pub view : View
  pub status : Status

-- A heard length is kept as 0 for none and n + 1 for the length n ("None is below 0").
pub record Controller : Type 0 where
  pub view : View
  pub stage : Stage
  pub heard : ℕ → ℕ
  pub heard_joined : ℕ → ℕ

-- By replica: its view; the term whose leader's log its own log last followed (joined); its counts, one for each
-- replica (acked); its log. For the whole cluster: the receipts (committed).
pub record State (E : Type 0) : Type 0 where
  pub registry : Registry
  pub controller : Controller
  pub view : ℕ → View
  pub joined : ℕ → ℕ
  pub acked : ℕ → ℕ → ℕ
  pub log : ℕ → List E
  pub committed : List E

-- The state that a row and the lent places of a call stand for.
abbrev pub RowState : Type 0
RowState = State Entry

-- A state in outline: the lengths of the lists stand for the lists. No check of a step looks at more.
pub record Outline : Type 0 where
  pub registry : Registry
  pub controller : Controller
  pub view : ℕ → View
  pub joined : ℕ → ℕ
  pub acked : ℕ → ℕ → ℕ
  pub len : ℕ → ℕ
  pub issued : ℕ

abbrev pub outline : {E : Type 0} → State E → Outline
outline s = record {
  registry = s.registry;
  controller = s.controller;
  view = s.view;
  joined = s.joined;
  acked = s.acked;
  len = λ b. length (s.log b);
  issued = length s.committed;
}

abbrev pub is_normal : Status → Bool
is_normal normal = true
is_normal waiting = false
is_normal Status.choosing = false

abbrev pub is_choosing : Status → Bool
is_choosing normal = false
is_choosing waiting = false
is_choosing Status.choosing = true

-- A stage by its place in document 01's list: idle, leader, boards, choosing.
abbrev pub stage_number : Stage → ℕ
stage_number idle = 0
stage_number leader = 1
stage_number boards = 2
stage_number Stage.choosing = 3

-- Step 10: "stage is idle, leader or choosing for normal, waiting or choosing".
abbrev pub stage_for : Status → Stage
stage_for normal = idle
stage_for waiting = leader
stage_for Status.choosing = Stage.choosing

abbrev pub zeros : ℕ → ℕ
zeros x = 0

-- What a number that is no replica holds.
abbrev pub no_view : View
no_view = record { epoch = 0; term = 0; leader = 0; members = none }

-- An opening: the board that it names.
pub record Opening : Type 0 where
  pub board : ℕ

abbrev pub opening_with : ℕ → Opening
opening_with b = record { board = b }

-- The opening is accepted: its board is one of 1 to 8.
abbrev pub can_open : Opening → Bool
can_open o = is_replica o.board

-- "Opening with board b: every epoch, leader epoch and joined is 1, every leader b, all members {b}, status normal,
-- stage idle, lists empty, counts 0, heard lengths none."
abbrev pub first_view : Opening → View
first_view o = record { epoch = 1; term = 1; leader = o.board; members = only o.board }

abbrev pub opened : {E : Type 0} → Opening → State E
opened o = record {
  registry = record { view = first_view o; status = normal };
  controller = record { view = first_view o; stage = idle; heard = zeros; heard_joined = zeros };
  view = λ x. cond (is_replica x) (first_view o) no_view;
  joined = λ x. cond (is_replica x) 1 0;
  acked = λ x. zeros;
  log = λ x. [];
  committed = [];
}

-- The opening's answer: 1 for a board outside 1 to 8.
abbrev pub open_answer : Opening → ℕ
open_answer o = cond (can_open o) 0 1
