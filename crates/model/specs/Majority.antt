-- "Some majority" as document 01 says it, by sets, and that steps 2, 13 and 15 ask for just that: none answers "no
-- majority" where one exists; and the set that each has behind it where it is accepted, in the words of document 02,
-- Paper 6. Cited by the promise of `majorities`. Assumes nothing.
use Rattle.std.specs.Prelude.{◌⊎◌, ◌≢◌, ◌↔◌, ◌≡◌, ℕ, ◌≤◌, ◌<◌, T}
use Rattle.model.specs.Prelude.{asks}
use Rattle.model.specs.Members.{Members, is_replica, none, ◌∩◌, size, quorum, is_quorum}
use Rattle.model.specs.State.{Outline}
use Rattle.model.specs.Steps.{Step, commit, set_normal, install, checks, answer_of, behind}
use Rattle.model.specs.Records.{Record, step_of}

-- q is a majority of m: a set of its members, of at least as many as "a majority of n boards" is. (That one of just as
-- many exists is the same.)
pub record MajorityOf (m q : Members) : Type 0 where
  pub within : (x : ℕ) → T (is_replica x) → T (q x) → T (m x)
  pub most : quorum (size m) ≤ size q

-- Some majority of m, and P of each replica in it.
pub record SomeMajority (m : Members) (P : ℕ → Type 0) : Type 0 where
  pub set : Members
  pub majority : MajorityOf m set
  pub each : (x : ℕ) → T (is_replica x) → T (set x) → P x

-- The members of m with P, all of them, are q, and q is a majority.
pub record AllWith (m : Members) (P : ℕ → Type 0) (q : Members) : Type 0 where
  pub all : (x : ℕ) → T (q x) ↔ (T (m x) × P x)
  pub majority : MajorityOf m q

module _ (m : Outline) where
  open m use {controller, view, acked, issued}
  open controller use {heard, heard_joined}

  -- A length is heard of x: it is not none, which is kept as 0.
  abbrev pub Heard : ℕ → Type 0
  Heard x = heard x ≢ 0

  -- "Installing ranks boards by joined epoch first, then length": x ranks above b.
  abbrev pub RanksAbove : ℕ → ℕ → Type 0
  RanksAbove b x = (heard_joined b < heard_joined x) ⊎ ((heard_joined b ≡ heard_joined x) × (heard b < heard x))

  -- The question that the step st asks with refusal 14 is Q: the test says Q, and where the answer is 14 there is no Q.
  pub record Question (st : Step) (Q : Type 0) : Type 0 where
    pub test : T (asks 14 (checks m st)) ↔ Q
    pub refused : answer_of m st ≡ 14 → ¬ Q

  pub record Questions : Type 0 where
    -- "a majority of b's members have counts in b above the receipts' length [14]".
    pub step_two : (b : ℕ) → Question (commit b) (SomeMajority (view b).members (λ x. issued < acked b x))
    -- "some majority of the controller's members are each heard,
    -- at a length not below the leader's heard one [14]".
    pub step_thirteen : Question set_normal
        (SomeMajority controller.view.members (λ x. Heard x × (heard controller.view.leader ≤ heard x)))
    -- b in the controller's members [5]: "some majority of the controller's members contains b,
    -- all heard, none ranked above b [14]".
    pub step_fifteen : (b : ℕ) → T (is_replica b) → T (controller.view.members b) → Question (install b)
        ((q : SomeMajority controller.view.members (λ x. Heard x × ¬ RanksAbove b x)) × T (q.set b))

  pub record Sets : Type 0 where
    -- "For a receipt these are the members counted above it,
    pub step_two : (b : ℕ) → answer_of m (commit b) ≡ 0
        → AllWith (view b).members (λ x. issued < acked b x) (behind m (commit b))
    -- for set normal those heard at the leader's heard length or more,
    pub step_thirteen : answer_of m set_normal ≡ 0
        → AllWith controller.view.members (λ x. Heard x × (heard controller.view.leader ≤ heard x))
        (behind m set_normal)
    -- for installing those heard and not ranked above the new leader", which is one of them.
    pub step_fifteen : (b : ℕ) → answer_of m (install b) ≡ 0
        → AllWith controller.view.members (λ x. Heard x × ¬ RanksAbove b x) (behind m (install b))
        × T (behind m (install b) b)
    -- A refused step has no one behind it.
    pub refused : (st : Step) → answer_of m st ≢ 0 → behind m st ≡ none
    -- Nor has a record of another number than 2, 13 and 15.
    pub others : (r : Record) → r.step ≢ 2 → r.step ≢ 13 → r.step ≢ 15 → behind m (step_of r) ≡ none

pub record Majorities : Type 0 where
  -- The members that qualify are a majority just where some majority of the members qualifies.
  pub counted : (m q : Members) → T (is_quorum m (m ∩ q)) ↔ SomeMajority m (λ x. T (q x))
  -- The checks with refusal 14 are the questions of document 01.
  pub questions : (m : Outline) → Questions m
  -- Those that qualify are behind an accepted step that asks for them; no one is behind any other step.
  pub sets : (m : Outline) → Sets m
