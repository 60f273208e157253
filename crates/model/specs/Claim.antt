-- Demand 3: one claim about every list of steps after an accepted opening. Cited by the promise of `model::claim`, and
-- by those of steps and sheet. Assumes nothing.
use Rattle.std.specs.Prelude.{List, ◌++◌, ◌≢◌, ◌≡◌, ℕ, T}
use Rattle.model.specs.Prelude.{◌⊑◌}
use Rattle.model.specs.Members.{is_replica}
use Rattle.model.specs.State.{Entries, IsExact, entries, State, Opening, can_open, opened}
use Rattle.model.specs.Steps.{Step}
use Rattle.model.specs.Runs.{run, given}

-- "A board holds itself leader if the leader in its view is itself, under the leader epoch there": x does so under term
-- t.
abbrev pub LeadsUnder : {E : Type 0} → State E → ℕ → ℕ → Type 0
LeadsUnder s x t = T (is_replica x) × ((s.view x).leader ≡ x) × ((s.view x).term ≡ t)

module _ (𝓔 : Entries) (o : Opening) where
  open 𝓔 use {Entry}

  -- The state, and the receipts given, after the opening o and the steps.
  abbrev pub after : List Step → State Entry
  after sts = run 𝓔 (opened o) sts

  abbrev pub receipts : List Step → List Entry
  receipts sts = given 𝓔 (opened o) sts

  pub record Safe (sts : List Step) : Type 0 where
    -- The receipts given are the first entries of the log of the leader that the registry names, if it names one.
    pub leading : (after sts).registry.view.leader ≢ 0
        → receipts sts ⊑ (after sts).log (after sts).registry.view.leader
    -- They never change: whatever steps follow, the receipts given then begin with them.
    pub lasting : (more : List Step) → receipts sts ⊑ receipts (sts ++ more)
    -- No two replicas hold themselves leader under one term, at one point of a list
    pub alone : (x y t : ℕ) → LeadsUnder (after sts) x t → LeadsUnder (after sts) y t → x ≡ y
    -- or at two.
    pub alone_later : (more : List Step) (x y t : ℕ) → LeadsUnder (after sts) x t → LeadsUnder (after (sts ++ more)) y t
        → x ≡ y
    -- The list that the cluster keeps is the list of the receipts given.
    pub kept : (after sts).committed ≡ receipts sts

-- The claim for every kind of entry whose test is exact,
unfoldable pub Safety : Type 1
Safety = (𝓔 : Entries) → IsExact 𝓔 → (o : Opening) → T (can_open o) → (sts : List Step) → Safe 𝓔 o sts

-- and for the calls' entries: "The epoch now counts in what a receipt guarantees" (document 02, Paper 4).
unfoldable pub DemandThree : Type 0
DemandThree = (o : Opening) → T (can_open o) → (sts : List Step) → Safe entries o sts
