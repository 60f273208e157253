-- What is true of every state of a run: the model's invariant and bounds, and two facts more that a list needs. Assumes
-- nothing.
use mathlib.Core.Bool.{Bool, true, false, not}
use mathlib.Core.List.{List, [], ◌∷◌}
use mathlib.Core.Logic.{◌≢◌}
use mathlib.Core.Path.{◌≡◌, sym, subst}
use Prim.Native.Nat.{ℕ, suc, ◌≤◌}
use native.Mathlib.Omega.{arith}
use lib.Dec.{T, eqb, leb→le}
use Rattle.model.specs.Prelude.{upd}
use Rattle.model.specs.Members.{Members, is_replica, bit, size}
use Rattle.model.specs.State.{outline, Entries, IsExact, Status, normal, waiting, Registry, Controller, State, Opening, can_open, opened, is_normal, is_choosing, stage_number, stage_for}
use Rattle.model.specs.Steps.{Step, append, commit, add, remove, change_leader, refresh, join, receive, acknowledge, refresh_controller, read_leader, read, set_normal, hear, install, malformed, checks, next, step, accepted, succeeded, vacated}
use Rattle.model.specs.Runs.{run}
use Rattle.model.proofs.Tests.{Holds, facts, by_cond, upd_same, ne-fact}
use Rattle.model.proofs.Quorum.{size-without}
use Rattle.model.proofs.Invariant.{Inv}
use Rattle.model.proofs.Static.{named}
use Rattle.model.proofs.Theorem.{opened-inv, keeps}
use Rattle.model.proofs.Bounds.{Bounds, opened-bounds, bounds-keep}

-- A registry without a leader has two members or more, and a replica that is none: only step 5 leaves one so, and the
-- leader that it took out was a member.
abbrev Staffed : Registry → Type 0
Staffed r = T (is_choosing r.status) → (2 ≤ size r.view.members) × (size r.view.members ≤ 7)

-- A controller that reads boards has heard the leader: only step 11 brings it to read boards.
abbrev Heedful : Controller → Type 0
Heedful c = stage_number c.stage ≡ 2 → 1 ≤ c.heard c.view.leader

pub record Poised {E : Type 0} (s : State E) : Type 0 where
  pub staffed : Staffed s.registry
  pub heedful : Heedful s.controller

bit-most : (a : Bool) → bit a ≤ 1
bit-most true = omega arith
bit-most false = omega arith

pub size-most : (m : Members) → size m ≤ 8
size-most m = omega (
  arith,
  bit-most (m 1),
  bit-most (m 2),
  bit-most (m 3),
  bit-most (m 4),
  bit-most (m 5),
  bit-most (m 6),
  bit-most (m 7),
  bit-most (m 8),
)

calm : (g : Status) → T (is_normal g) → T (not (is_choosing g))
calm normal t = tt
calm waiting t = absurd t
calm Status.choosing t = absurd t

one_less : (n k : ℕ) → suc n ≡ k → n ≢ 1 → 2 ≤ k → k ≤ 8 → (2 ≤ n) × (n ≤ 7)
one_less n k e d l m = omega arith

more : (f : ℕ → ℕ) (b n x : ℕ) → 1 ≤ f x → 1 ≤ upd f b (suc n) x
more f b n x h = by_cond (λ y. 1 ≤ y) (eqb x b) (λ _. omega arith) (λ _. h)

module _ (𝓔 : Entries) (exact : IsExact 𝓔) where
  open 𝓔 use {Entry}

  module _ {L : ℕ → ℕ} {s : State Entry} (i : Inv L s) (k : Poised s) where
    open s use {registry, controller, view, joined, acked, log, committed}

    poised-keep : (st : Step) → Holds (checks (outline s) st) → Poised (next 𝓔 s st)
    poised-keep (append b v) h = record { staffed = k.staffed; heedful = k.heedful }
    poised-keep (commit b) h = record { staffed = k.staffed; heedful = k.heedful }
    poised-keep (add b) h = record { staffed = λ t. absurd t; heedful = k.heedful }
    poised-keep (remove b) h = record {
      staffed = λ t. absurd (by_cond (λ g. T (is_choosing g) → ⊥) (eqb (size (upd registry.view.members b false)) 1)
          {x = normal} {y = waiting} (λ _ u. u) (λ _ u. u) t);
      heedful = k.heedful;
    }
    poised-keep change_leader h = record {
      staffed = by_cond Staffed (eqb (size left) 1) {x = succeeded registry left} {y = vacated registry left}
          (λ _ t. absurd t)
          (λ n _. one_less (size left) (size m) (size-without m registry.view.leader leading.0 leading.1)
          (ne-fact (size left) 1 n) (leb→le 2 (size m) (h 6)) (size-most m));
      heedful = k.heedful;
    }
      where
        m : Members
        m = registry.view.members

        left : Members
        left = upd m registry.view.leader false

        leading : T (is_replica registry.view.leader) × T (m registry.view.leader)
        leading =
            let t = calm registry.status (h 4) in
            subst (λ x. T (is_replica x) × T (m x)) (sym (named i t))
            (i.real registry.view.term, i.registry.member t)
    poised-keep (refresh b) h = record { staffed = k.staffed; heedful = k.heedful }
    poised-keep (join b) h = record { staffed = k.staffed; heedful = k.heedful }
    poised-keep (receive b) h = record { staffed = k.staffed; heedful = k.heedful }
    poised-keep (acknowledge a b) h = record { staffed = k.staffed; heedful = k.heedful }
    poised-keep refresh_controller h =
        record { staffed = k.staffed; heedful = λ e. absurd (never registry.status e) }
      where
        never : (g : Status) → stage_number (stage_for g) ≡ 2 → ⊥
        never normal e = omega arith
        never waiting e = omega arith
        never Status.choosing e = omega arith
    poised-keep read_leader h = record {
      staffed = k.staffed;
      heedful = λ _. rw (upd_same controller.heard controller.view.leader _) (omega arith);
    }
    poised-keep (read b) h = record {
      staffed = k.staffed;
      heedful = λ e. more controller.heard b _ controller.view.leader (k.heedful e);
    }
    poised-keep set_normal h = record { staffed = λ t. absurd t; heedful = λ e. absurd (omega arith) }
    poised-keep (hear b) h = record {
      staffed = k.staffed;
      heedful = λ e. more controller.heard b _ controller.view.leader (k.heedful e);
    }
    poised-keep (install b) h = record { staffed = λ t. absurd t; heedful = λ e. absurd (omega arith) }
    poised-keep malformed h = absurd (h 1)

  -- All that is known of a state of a run.
  pub record Reached (s : State Entry) : Type 0 where
    pub history : ℕ → ℕ
    pub inv : Inv history s
    pub bounds : Bounds s
    pub poised : Poised s

  pub opened-reached : (o : Opening) → T (can_open o) → Reached (opened o)
  opened-reached o real = record {
    history = λ _. o.board;
    inv = opened-inv o real;
    bounds = opened-bounds o real;
    poised = record { staffed = λ t. absurd t; heedful = λ e. absurd (omega arith) };
  }

  pub next-reached : {s : State Entry} → Reached s → (st : Step) → Holds (checks (outline s) st)
      → Reached (next 𝓔 s st)
  next-reached k st h =
      let l = keeps 𝓔 exact k.inv st h in
      record {
        history = l.history;
        inv = l.inv;
        bounds = bounds-keep 𝓔 exact k.inv k.bounds st h;
        poised = poised-keep k.inv k.poised st h;
      }

  pub run-reached : {s : State Entry} → Reached s → (sts : List Step) → Reached (run 𝓔 s sts)
  unfolding run
  run-reached {s = s} k [] = k
  run-reached {s = s} k (st ∷ sts) =
      run-reached {s = step 𝓔 s st} (by_cond Reached (accepted (outline s) st)
      (λ t. next-reached k st (facts (checks (outline s) st) t)) (λ _. k)) sts
