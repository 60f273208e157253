-- The mark that ends a board line (document 02, Paper 1), and what a reader may take it for. Cited by the promises of
-- `is_late` and `claim` and, through the listing, of `run_sheet`. Assumes nothing.
use Rattle.std.specs.Prelude.{Bool, not, ◌||◌, List, ◌⊎◌, ◌≢◌, ◌≡◌, ℕ, T, ltb, eqb}
use Rattle.model.specs.Prelude.{◌⊑◌}
use Rattle.model.specs.State.{View, State, Outline, outline, RowState, entries, Opening, can_open}
use Rattle.model.specs.Steps.{Step, join, accepted, step}
use Rattle.model.specs.Claim.{after}

-- "a board is `late` if its epoch is below the registry's or its joined differs from the registry's leader epoch": a
-- board with the view v and this joined epoch, where r is the registry's view. Else it is `current`.
abbrev pub late : View → ℕ → View → Bool
late v joined r = ltb v.epoch r.epoch || not (eqb joined r.term)

-- So for board b of a row.
abbrev pub late_in : Outline → ℕ → Bool
late_in m b = late (m.view b) (m.joined b) m.registry.view

abbrev pub IsCurrent : {E : Type 0} → State E → ℕ → Type 0
IsCurrent s b = T (not (late_in (outline s) b))

-- What `current` says of replica b.
pub record CurrentSays {E : Type 0} (s : State E) (b : ℕ) : Type 0 where
  -- Its view is the registry's.
  pub view : s.view b ≡ s.registry.view
  -- It holds no entry that the leader does not: its log is a beginning of the log of the leader that the registry
  -- names, if it names one.
  pub follows : s.registry.view.leader ≢ 0 → s.log b ⊑ s.log s.registry.view.leader
  -- Of two current logs one begins with the other, also while no leader is named.
  pub alike : (x : ℕ) → IsCurrent s x → (s.log b ⊑ s.log x) ⊎ (s.log x ⊑ s.log b)

module _ (o : Opening) where
  abbrev state : List Step → RowState
  state sts = after entries o sts

  abbrev term_after : List Step → ℕ
  term_after sts = (state sts).registry.view.term

  -- Replica b was a member at no point of the registry's present term.
  abbrev pub Outside : List Step → ℕ → Type 0
  Outside sts b =
      (begun : List Step) → begun ⊑ sts → term_after begun ≡ term_after sts
      → T (not ((state begun).registry.view.members b))

  -- After every list of steps:
  pub record MarkSays (sts : List Step) (b : ℕ) : Type 0 where
    pub current : IsCurrent (state sts) b → CurrentSays (state sts) b
    -- The leader that the registry names is current once it has the registry's epoch; it joins nobody.
    pub by_news : b ≢ 0 → (state sts).registry.view.leader ≡ b
        → ((state sts).view b).epoch ≡ (state sts).registry.view.epoch
        → IsCurrent (state sts) b
    -- A replica that has the registry's epoch and joins is current then.
    pub by_joining : T (accepted (outline (state sts)) (join b))
        → ((state sts).view b).epoch ≡ (state sts).registry.view.epoch
        → IsCurrent (step entries (state sts) (join b)) b
    -- In a later term than the opening's, 1, a replica that was a member at no point of it is late, whatever news it
    -- takes.
    pub outside : term_after sts ≢ 1 → Outside sts b → T (late_in (outline (state sts)) b)

unfoldable pub MarksHold : Type 0
MarksHold = (o : Opening) → T (can_open o) → (sts : List Step) (b : ℕ) → MarkSays o sts b
