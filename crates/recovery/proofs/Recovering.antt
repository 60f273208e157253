-- Document 02, Paper 10: from every state of a run with a registry epoch of at most 3,998 the list exists and leads to
-- normal. Assumes nothing.
use mathlib.Core.Bool.{cond, ◌&&◌}
use mathlib.Core.List.{List}
use mathlib.Core.Path.{◌≡◌, refl, sym, subst, ap}
use Prim.Native.Nat.{ℕ, ◌+◌, ◌*◌, ◌-◌, ◌≤◌, ◌<◌}
use native.Mathlib.Omega.{arith}
use lib.Dec.{T, leb, le→leb}
use lib.ListN.{length}
use Rattle.model.specs.Members.{Members, size, quorum}
use Rattle.model.specs.State.{Entries, IsExact, Status, normal, waiting, State, Opening, can_open, is_choosing}
use Rattle.model.specs.Steps.{Step}
use Rattle.model.specs.Claim.{after}
use Rattle.model.proofs.Tests.{join-and, is_true}
use Rattle.model.proofs.Invariant.{is_waiting}
use Rattle.recovery.specs.Plan.{start, found, error, choosing_part, draft, plan}
use Rattle.recovery.specs.Claim.{LeadsToNormal, Recovery}
use Rattle.recovery.proofs.Reached.{Reached, size-most, opened-reached, run-reached}
use Rattle.recovery.proofs.Drafts.{Sound, At, at_most}
use Rattle.recovery.proofs.Accepted.{any-plan}
use Rattle.recovery.proofs.Waiting.{waiting-to}
use Rattle.recovery.proofs.Choosing.{choosing-to}

-- How many records there are, by the number n of the members: 4 + 515 * 4 for eight. Choosing, there are seven at most.
waiting-count : (n : ℕ) → n ≤ 8 → 0 + 4 + 515 * (quorum n - 1) ≤ 2064
waiting-count n h = omega arith

choosing-count : (n k : ℕ) → n ≤ 7 → k ≡ n → 0 + 2 + 2 * quorum n + 4 + 515 * (quorum k - 1) ≤ 2064
choosing-count n k h e = omega arith

module _ (𝓔 : Entries) (exact : IsExact 𝓔) where
  open 𝓔 use {Entry}

  -- The state after the draft is normal.
  abbrev Normal : State Entry → Type 0
  Normal t = t.registry.status ≡ normal

  -- Choosing raises the epoch twice, waiting once.
  module _ (s : State Entry) (k : Reached 𝓔 exact s) (low : s.registry.view.epoch ≤ 3999)
      (lower : T (is_choosing s.registry.status) → s.registry.view.epoch ≤ 3998) where
    abbrev m : Members
    m = s.registry.view.members

    started : Sound 𝓔 exact 0 (start s)
    started = record { ok = tt; few = omega arith }

    drafted : (g : Status) → s.registry.status ≡ g → At 𝓔 exact 2064 Normal (draft 𝓔 g (start s))
    unfolding draft
    drafted normal e = at_most 𝓔 exact 2064 (omega arith) (record { sound = started; is = e })
    drafted waiting e = at_most 𝓔 exact 2064 (waiting-count (size m) (size-most m))
        (waiting-to 𝓔 exact {d = start s} k (subst (λ g. T (is_waiting g)) (sym e) tt) (omega arith) started)
    drafted Status.choosing e =
        let w = subst (λ g. T (is_choosing g)) (sym e) tt in
        let staff = k.poised.staffed w in
        let up : s.registry.view.epoch < 4000 = omega arith in
        let twice = lower w in
        let some : 1 ≤ size m = omega (arith, staff) in
        let a = choosing-to 𝓔 exact {d = start s} k w up some started in
        at_most 𝓔 exact 2064 (choosing-count (size m) (size (choosing_part 𝓔 (start s)).state.registry.view.members)
        staff.1 (ap size a.is.members))
        (waiting-to 𝓔 exact a.is.reached a.is.waits (omega (arith, a.is.epoch)) a.sound)

    pub found-plan : LeadsToNormal 𝓔 s
    unfolding plan
    found-plan =
        let d = draft 𝓔 s.registry.status (start s) in
        let a = drafted s.registry.status refl in
        let t = join-and d.sound (leb (length d.records) 2064) a.sound.ok
        (le→leb (length d.records) 2064 a.sound.few) in
        let e : plan 𝓔 s ≡ found d.records =
        ap (λ t. cond t (found d.records) error) (is_true (d.sound && leb (length d.records) 2064) t) in
        record { list = d.records; exists = e; leads = any-plan 𝓔 exact s d.records e }

  pub recovers : (o : Opening) → T (can_open o) → (sts : List Step) → (after 𝓔 o sts).registry.view.epoch ≤ 3998
      → LeadsToNormal 𝓔 (after 𝓔 o sts)
  recovers o real sts low =
      found-plan (after 𝓔 o sts) (run-reached 𝓔 exact (opened-reached 𝓔 exact o real) sts) (omega arith) (λ _. low)

-- The claim for every kind of entry.
pub recovery : Recovery
unfolding Recovery
recovery 𝓔 exact o real sts low = recovers 𝓔 exact o real sts low
