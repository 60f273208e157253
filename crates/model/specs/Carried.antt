-- What the set behind a step says of logs, in every run: "operators wish to see who carried a receipt" (document 02,
-- Paper 6). Cited by the promise of `carriers`. Assumes nothing.
use Rattle.std.specs.Prelude.{List, ◌≡◌, ℕ, suc, ◌-◌, ◌≤◌, T, length, take}
use Rattle.model.specs.Prelude.{◌⊑◌}
use Rattle.model.specs.State.{entries, RowState, outline, Opening, can_open}
use Rattle.model.specs.Steps.{Step, commit, set_normal, install, answer_of, behind, step}
use Rattle.model.specs.Claim.{after}

module _ (s : RowState) where
  open s use {registry, controller, view, joined, log}
  open controller use {heard, heard_joined}

  pub record Carriers : Type 0 where
    -- A receipt that b gives under the registry's leader epoch: the log of every board behind it begins with all
    -- receipts, this one too.
    pub receipt : (b : ℕ) → answer_of (outline s) (commit b) ≡ 0 → (view b).term ≡ registry.view.term
        → (x : ℕ) → T (behind (outline s) (commit b) x) → (step entries s (commit b)).committed ⊑ log x
    -- Under any leader epoch, so that b may have been replaced: the same of every board behind it that has not joined a
    -- later one.
    pub late_receipt : (b : ℕ) → answer_of (outline s) (commit b) ≡ 0
        → (x : ℕ) → T (behind (outline s) (commit b) x) → joined x ≤ (view b).term
        → (step entries s (commit b)).committed ⊑ log x
    -- Set normal: the log of every board behind it begins with as much of the leader's as was heard of it. (A heard
    -- length n is kept as n + 1.)
    pub normal : answer_of (outline s) set_normal ≡ 0 → (x : ℕ) → T (behind (outline s) set_normal x)
        → take (heard controller.view.leader - 1) (log controller.view.leader) ⊑ log x
    -- Install: every board behind it has the length and the joined epoch that were heard, and follows no leader.
    pub installed : (b : ℕ) → answer_of (outline s) (install b) ≡ 0 → (x : ℕ) → T (behind (outline s) (install b) x)
        → (heard x ≡ suc (length (log x))) × (heard_joined x ≡ joined x) × ((view x).leader ≡ 0)

unfoldable pub CarriersHold : Type 0
CarriersHold = (o : Opening) → T (can_open o) → (sts : List Step) → Carriers (after entries o sts)
