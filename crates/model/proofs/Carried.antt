-- Who is behind a step holds what it stands for: the lemmas of the steps, read off the set. Assumes nothing.
use mathlib.Core.Bool.{true, cond}
use mathlib.Core.List.{List}
use mathlib.Core.Path.{◌≡◌, refl, sym, subst, ap, ◌∙◌}
use Prim.Native.Nat.{ℕ, suc, ◌-◌, ◌≤◌}
use native.Mathlib.Omega.{arith}
use lib.Dec.{T}
use lib.ListN.{length}
use Rattle.model.specs.Prelude.{◌⊑◌}
use Rattle.model.specs.Members.{Members, none, ◌∩◌}
use Rattle.model.specs.State.{RowState, entries, outline}
use Rattle.model.specs.Steps.{Step, commit, set_normal, install, checks, accepted, answer_of, counted_above, heard_enough, ranked_not_above, qualified, behind, next, step}
use Rattle.model.specs.Carried.{Carriers, CarriersHold}
use Rattle.model.proofs.Tests.{split-and, of-true, Holds, facts}
use Rattle.model.proofs.Invariant.{Inv}
use Rattle.model.proofs.Commit.{commit-carried}
use Rattle.model.proofs.Raise.{set-normal-carried}
use Rattle.model.proofs.Install.{install-stands}
use Rattle.model.proofs.Answer.{zero-accepted}
use Rattle.model.proofs.Entries.{same-entry}
use Rattle.model.proofs.Theorem.{opened-inv, run-keeps}

module _ {L : ℕ → ℕ} {s : RowState} (i : Inv L s) where
  open s use {registry, controller, view, joined, acked, log, committed}

  -- The checks of an accepted step, and who is behind it: the members that pass.
  module _ (st : Step) (e : answer_of (outline s) st ≡ 0) where
    taken : accepted (outline s) st ≡ true
    taken = zero-accepted (outline s) st e

    holds : Holds (checks (outline s) st)
    holds = facts (checks (outline s) st) (of-true taken)

    passes-test : (ms q : Members) → qualified (outline s) st ≡ ms ∩ q → (x : ℕ) → T (behind (outline s) st x)
        → T (ms x) × T (q x)
    passes-test ms q those x t = split-and (ms x) (q x)
        (subst (λ (m : Members). T (m x)) (ap (λ k. cond k (qualified (outline s) st) none) taken ∙ those) t)

  late : (b : ℕ) → answer_of (outline s) (commit b) ≡ 0 → (x : ℕ) → T (behind (outline s) (commit b) x)
      → joined x ≤ (view b).term → (step entries s (commit b)).committed ⊑ log x
  late b e x t j =
      let z = passes-test (commit b) e (view b).members (counted_above (acked b) (length committed)) refl x t in
      subst (λ k. (cond k (next entries s (commit b)) s).committed ⊑ log x) (sym (taken (commit b) e))
      (commit-carried entries i b (holds (commit b) e) x z.1 j)

  carriers : Carriers s
  carriers = record {
    receipt = λ b e now x t. late b e x t (omega (arith, (i.views x).joined, (i.views x).term));
    late_receipt = late;
    normal = λ e x t.
        let z = passes-test set_normal e controller.view.members (heard_enough controller) refl x t in
        set-normal-carried entries i (holds set_normal e) x z.0 z.1;
    installed = λ b e x t.
        let z = passes-test (install b) e controller.view.members (ranked_not_above controller b) refl x t in
        let k = install-stands entries i b (holds (install b) e) x z.0 z.1 in
        (k.0.1, sym k.0.2, k.1);
  }

pub carriers-hold : CarriersHold
unfolding CarriersHold
carriers-hold o real sts = carriers (run-keeps entries same-entry (opened-inv o real) sts).inv
