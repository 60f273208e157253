-- No state of a run earns refusal 1: the bounds that steps keep by their own checks, and those that follow from the
-- invariant. Assumes nothing.
use mathlib.Core.Bool.{false, not, ◌&&◌}
use mathlib.Core.List.{List, [], ◌∷◌, ◌++◌}
use mathlib.Core.Logic.{◌⊎◌, inl, inr, ◌≢◌}
use mathlib.Core.Path.{◌≡◌, sym, subst, ◌∙◌}
use Prim.Native.Nat.{ℕ, suc, ◌+◌, ◌≤◌, ◌<◌}
use native.Mathlib.Omega.{arith}
use lib.Dec.{T, eqb, eqb→eq, ltb→lt}
use lib.ListN.{length}
use borrow.Author.Tests.{ne_eqb}
use Rattle.model.specs.Prelude.{upd}
use Rattle.model.specs.Members.{is_replica, size}
use Rattle.model.specs.State.{outline, Entries, IsExact, View, Status, normal, waiting, Stage, Registry, Controller, State, Opening, can_open, opened, is_choosing, stage_number, stage_for, zeros}
use Rattle.model.specs.Steps.{Step, append, commit, add, remove, change_leader, refresh, join, receive, acknowledge, refresh_controller, read_leader, read, set_normal, hear, install, malformed, checks, next, accepted, step, heard_of, succeeded, vacated}
use Rattle.model.specs.Runs.{run}
use Rattle.model.specs.Claim.{after}
use Rattle.model.specs.Ranges.{in_range}
use Rattle.model.proofs.Range.{IsEpoch, ViewInRange, InRange, from-ranges}
use Rattle.model.proofs.Tests.{Holds, facts, by_cond, at-or, eqb_same, eq-or-ne, is_true}
use Rattle.model.proofs.Prefix.{begins-length, length-snoc, shared-length}
use Rattle.model.proofs.Quorum.{replica-range, replica-ne}
use Rattle.model.proofs.Invariant.{Inv}
use Rattle.model.proofs.Static as Static
use Rattle.model.proofs.Static.{o}
use Rattle.model.proofs.Theorem.{opened-inv, step_keeps, run-keeps}

pub record ControllerIn (c : Controller) : Type 0 where
  pub view : ViewInRange c.view
  pub heard : (b : ℕ) → c.heard b ≤ 513
  pub heard_joined : (b : ℕ) → c.heard_joined b ≤ 4000
  pub reads : stage_number c.stage ≡ 1 → c.view.leader ≢ 0
  pub reads_on : stage_number c.stage ≡ 2 → c.view.leader ≢ 0

pub record ReplicaIn (v : View) (j : ℕ) : Type 0 where
  pub epoch : 1 ≤ v.epoch
  pub joined : 1 ≤ j

pub record LogsIn {E : Type 0} (counts : ℕ → ℕ → ℕ) (logs : ℕ → List E) : Type 0 where
  pub acked : (a b : ℕ) → counts a b ≤ 512
  pub log : (b : ℕ) → length (logs b) ≤ 512

pub record Bounds {E : Type 0} (s : State E) : Type 0 where
  pub registry : s.registry.view.epoch ≤ 4000
  pub controller : ControllerIn s.controller
  pub replicas : (b : ℕ) → T (is_replica b) → ReplicaIn (s.view b) (s.joined b)
  pub logs : LogsIn s.acked s.log

-- Counts and logs that change at one replica.
upd-in : (f : ℕ → ℕ) (n b v : ℕ) → v ≤ n → ((x : ℕ) → f x ≤ n) → (x : ℕ) → upd f b v x ≤ n
upd-in f n b v h k x = by_cond (λ y. y ≤ n) (eqb x b) (λ _. h) (λ _. k x)

counts-in : (f : ℕ → ℕ → ℕ) (g : ℕ → ℕ) (n b : ℕ) → ((x : ℕ) → g x ≤ n) → ((a x : ℕ) → f a x ≤ n) → (a x : ℕ)
    → upd f b g a x ≤ n
counts-in f g n b h k a x = by_cond (λ (y : ℕ → ℕ). y x ≤ n) (eqb a b) (λ _. h x) (λ _. k a x)

log-in : {E : Type 0} (f : ℕ → List E) (b : ℕ) (l : List E) → length l ≤ 512 → ((x : ℕ) → length (f x) ≤ 512) → (x : ℕ)
    → length (upd f b l x) ≤ 512
log-in f b l h k x = by_cond (λ y. length y ≤ 512) (eqb x b) (λ _. h) (λ _. k x)

one_more : {E : Type 0} (l : List E) (e : E) → length l < 512 → length (l ++ (e ∷ [])) ≤ 512
one_more l e h = omega (arith, length-snoc l e)

-- What the invariant and the bounds say of the registry's view, and of every replica's.
module _ {E : Type 0} {L : ℕ → ℕ} {s : State E} (i : Inv L s) (k : Bounds s) where
  open s use {registry, controller, view, joined, acked, log, committed}

  leader-in : (t : ℕ) → L t ≤ 8
  leader-in t = (replica-range (L t) (i.real t)).1

  first : (1 ≤ registry.view.term) × (registry.view.term ≤ registry.view.epoch)
  first =
      let j = (k.replicas (o i) (i.real registry.view.term)).joined in
      omega (arith, (i.views (o i)).joined, (i.views (o i)).term, i.registry.term)

  registry-in : ViewInRange registry.view
  registry-in = record {
    epoch = omega (arith, first, k.registry);
    term = omega (arith, first, k.registry);
    leader = subst (λ x. x ≤ 8) (sym i.registry.named)
        (by_cond (λ x. x ≤ 8) (is_choosing registry.status) (λ _. omega arith)
        (λ _. leader-in registry.view.term));
  }

  pub view_in : (b : ℕ) → T (is_replica b) → ViewInRange (view b)
  view_in b real =
      let v = i.views b in
      let q = k.replicas b real in
      record {
        epoch = omega (arith, v.epoch, k.registry, q.epoch);
        term = omega (arith, v.term, v.joined, first, k.registry, q.joined);
        leader = led (eq-or-ne (view b).leader 0);
      }
    where
      led : ((view b).leader ≡ 0) ⊎ ((view b).leader ≢ 0) → (view b).leader ≤ 8
      led (inl e) = omega arith
      led (inr n) = subst (λ x. x ≤ 8) (sym ((i.views b).led n)) (leader-in (view b).term)

  joined_in : (b : ℕ) → T (is_replica b) → IsEpoch (joined b)
  joined_in b real = omega (arith, (k.replicas b real).joined, (i.views b).joined, (i.views b).term, first, k.registry)

  named_in : T (not (is_choosing registry.status)) → registry.view.leader ≢ 0
  named_in t e = replica-ne (o i) (i.real registry.view.term) (sym (Static.named i t) ∙ e)

  pub all_in : InRange (outline s)
  all_in = record {
    registry = registry-in;
    controller = k.controller.view;
    views = view_in;
    joined = joined_in;
    heard = λ b _. k.controller.heard b;
    heard_joined = λ b _. k.controller.heard_joined b;
    acked = λ a b _ _. k.logs.acked a b;
    logs = λ b _. k.logs.log b;
    committed = omega (arith, begins-length i.safe.begins, k.logs.log (o i));
    named = named_in;
    reads = k.controller.reads;
    reads_on = k.controller.reads_on;
  }

pub opened-bounds : {E : Type 0} (o : Opening) → T (can_open o) → Bounds {E = E} (opened o)
opened-bounds o real = record {
  registry = omega arith;
  controller = record {
    view = record { epoch = omega arith; term = omega arith; leader = (replica-range o.board real).1 };
    heard = λ _. omega arith;
    heard_joined = λ _. omega arith;
    reads = λ e. absurd (omega arith);
    reads_on = λ e. absurd (omega arith);
  };
  replicas = λ x t. rw (is_true (is_replica x) t) (record { epoch = omega arith; joined = omega arith });
  logs = record { acked = λ _ _. omega arith; log = λ _. omega arith };
}

module _ (𝓔 : Entries) (exact : IsExact 𝓔) where
  open 𝓔 use {Entry, same}

  module _ {L : ℕ → ℕ} {s : State Entry} (i : Inv L s) (k : Bounds s) where
    open s use {registry, controller, view, joined, acked, log, committed}

    heard-in : (g : Stage) (b j : ℕ) → j ≤ 4000 → (stage_number g ≡ 1 → controller.view.leader ≢ 0)
        → (stage_number g ≡ 2 → controller.view.leader ≢ 0)
        → ControllerIn (heard_of controller g b (length (log b)) j)
    heard-in g b j h p q = let c = k.controller in record {
      view = c.view;
      heard = upd-in controller.heard 513 b (suc (length (log b))) (omega (arith, k.logs.log b)) c.heard;
      heard_joined = upd-in controller.heard_joined 4000 b j h c.heard_joined;
      reads = p;
      reads_on = q;
    }

    pub bounds-keep : (st : Step) → Holds (checks (outline s) st) → Bounds (next 𝓔 s st)
    bounds-keep (append b v) h = record {
      registry = k.registry;
      controller = k.controller;
      replicas = k.replicas;
      logs = let full = ltb→lt (length (log b)) 512 (h 13) in record {
        acked = counts-in acked _ 512 b (upd-in (acked b) 512 b _ (omega arith) (k.logs.acked b)) k.logs.acked;
        log = log-in log b _ (one_more (log b) _ full) k.logs.log;
      };
    }
    bounds-keep (commit b) h = record
        { registry = k.registry; controller = k.controller; replicas = k.replicas; logs = k.logs }
    bounds-keep (add b) h = record {
      registry = ltb→lt registry.view.epoch 4000 (h 7);
      controller = k.controller;
      replicas = k.replicas;
      logs = k.logs;
    }
    bounds-keep (remove b) h = record {
      registry = ltb→lt registry.view.epoch 4000 (h 7);
      controller = k.controller;
      replicas = k.replicas;
      logs = k.logs;
    }
    bounds-keep change_leader h = record {
      registry =
          let left = upd registry.view.members registry.view.leader false in
          let up = ltb→lt registry.view.epoch 4000 (h 7) in
          by_cond (λ (r : Registry). r.view.epoch ≤ 4000) (eqb (size left) 1) {x = succeeded registry left}
          {y = vacated registry left} (λ _. up) (λ _. up);
      controller = k.controller;
      replicas = k.replicas;
      logs = k.logs;
    }
    bounds-keep (refresh b) h = record {
      registry = k.registry;
      controller = k.controller;
      replicas = at-or b
          (λ real. rw (eqb_same b) (record {
            epoch = (registry-in i k).epoch.0;
            joined = by_cond (λ j. 1 ≤ j) (not (eqb (view b).term registry.view.term)
                && eqb registry.view.leader b) (λ _. (first i k).0) (λ _. (k.replicas b real).joined);
          }))
          (λ x n. rw (ne_eqb x b n) (k.replicas x));
      logs = record {
        log = k.logs.log;
        acked = counts-in acked _ 512 b
            (λ x. by_cond (λ (f : ℕ → ℕ). f x ≤ 512) (not (eqb (view b).term registry.view.term))
            (λ _. upd-in zeros 512 b (length (log b)) (k.logs.log b) (λ _. omega arith) x)
            (λ _. k.logs.acked b x)) k.logs.acked;
      };
    }
    bounds-keep (join b) h = record {
      registry = k.registry;
      controller = k.controller;
      replicas = at-or b (λ real. rw (eqb_same b)
          (record { epoch = (k.replicas b real).epoch; joined = (view_in i k b real).term.0 }))
          (λ x n. rw (ne_eqb x b n) (k.replicas x));
      logs = record {
        acked = k.logs.acked;
        log = log-in log b _ (omega (arith, shared-length same (log b) (log (view b).leader), k.logs.log b))
            k.logs.log;
      };
    }
    bounds-keep (receive b) h = record {
      registry = k.registry;
      controller = k.controller;
      replicas = k.replicas;
      logs = record {
        acked = k.logs.acked;
        log = log-in log b _ (one_more (log b) _
            (omega (
              arith,
              ltb→lt (length (log b)) (length (log (view b).leader)) (h 12),
              k.logs.log (view b).leader,
            ))) k.logs.log;
      };
    }
    bounds-keep (acknowledge a b) h = record {
      registry = k.registry;
      controller = k.controller;
      replicas = k.replicas;
      logs = record {
        log = k.logs.log;
        acked = counts-in acked _ 512 a (upd-in (acked a) 512 b (length (log b)) (k.logs.log b) (k.logs.acked a))
            k.logs.acked;
      };
    }
    bounds-keep refresh_controller h = record {
      registry = k.registry;
      replicas = k.replicas;
      logs = k.logs;
      controller = record {
        view = registry-in i k;
        heard = λ _. omega arith;
        heard_joined = λ _. omega arith;
        reads = λ e. named_in i k (leads registry.status e);
        reads_on = λ e. absurd (never registry.status e);
      };
    }
      where
        leads : (g : Status) → stage_number (stage_for g) ≡ 1 → T (not (is_choosing g))
        leads normal e = tt
        leads waiting e = tt
        leads Status.choosing e = absurd (omega arith)

        never : (g : Status) → stage_number (stage_for g) ≡ 2 → ⊥
        never normal e = omega arith
        never waiting e = omega arith
        never Status.choosing e = omega arith
    bounds-keep read_leader h = record {
      registry = k.registry;
      replicas = k.replicas;
      logs = k.logs;
      controller = heard-in _ controller.view.leader 0 (omega arith) (λ e. absurd (omega arith))
          (λ _. k.controller.reads (eqb→eq (stage_number controller.stage) 1 (h 15)));
    }
    bounds-keep (read b) h = record {
      registry = k.registry;
      replicas = k.replicas;
      logs = k.logs;
      controller = heard-in _ b 0 (omega arith) k.controller.reads k.controller.reads_on;
    }
    bounds-keep set_normal h = record {
      registry = ltb→lt registry.view.epoch 4000 (h 7);
      replicas = k.replicas;
      logs = k.logs;
      controller = record {
        view = record {
          epoch = omega (arith, ltb→lt registry.view.epoch 4000 (h 7));
          term = k.controller.view.term;
          leader = k.controller.view.leader;
        };
        heard = λ _. omega arith;
        heard_joined = λ _. omega arith;
        reads = λ e. absurd (omega arith);
        reads_on = λ e. absurd (omega arith);
      };
    }
    bounds-keep (hear b) h = record {
      registry = k.registry;
      replicas = k.replicas;
      logs = k.logs;
      controller = heard-in _ b (joined b) (joined_in i k b (h 1)).1 k.controller.reads k.controller.reads_on;
    }
    bounds-keep (install b) h = record {
      registry = ltb→lt registry.view.epoch 4000 (h 7);
      replicas = k.replicas;
      logs = k.logs;
      controller = record {
        view = record {
          epoch = omega (arith, ltb→lt registry.view.epoch 4000 (h 7));
          term = omega (arith, ltb→lt registry.view.epoch 4000 (h 7));
          leader = (replica-range b (h 1)).1;
        };
        heard = λ _. omega arith;
        heard_joined = λ _. omega arith;
        reads = λ _. replica-ne b (h 1);
        reads_on = λ e. absurd (omega arith);
      };
    }
    bounds-keep malformed h = absurd (h 1)

    pub step-bounds : (st : Step) → Bounds (step 𝓔 s st)
    step-bounds st =
        by_cond Bounds (accepted (outline s) st) (λ t. bounds-keep st (facts (checks (outline s) st) t)) (λ _. k)

  pub run-bounds : {L : ℕ → ℕ} {s : State Entry} → Inv L s → Bounds s → (sts : List Step) → Bounds (run 𝓔 s sts)
  unfolding run
  run-bounds {L = L} {s = s} i k [] = k
  run-bounds {L = L} {s = s} i k (st ∷ sts) =
      run-bounds {L = (step_keeps 𝓔 exact i st).history} (step_keeps 𝓔 exact i st).inv (step-bounds i k st) sts

  pub in-range : (o : Opening) → T (can_open o) → (sts : List Step) → T (in_range (outline (after 𝓔 o sts)))
  in-range o real sts =
      from-ranges (outline (after 𝓔 o sts))
      (all_in (run-keeps 𝓔 exact (opened-inv o real) sts).inv (run-bounds (opened-inv o real) (opened-bounds o real) sts))
