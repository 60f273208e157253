-- The steps of a list keep what they rely on in leaders. Assumes nothing.
use mathlib.Core.Logic.{◌≢◌}
use mathlib.Core.Path.{◌≡◌, sym, subst, ap}
use Prim.Native.Nat.{ℕ, ◌≤◌}
use native.Mathlib.Omega.{arith}
use lib.Dec.{T}
use Rattle.model.specs.Members.{is_replica}
use Rattle.model.specs.State.{RowState, View, Status, normal, waiting, entries, outline, stage_number, stage_for}
use Rattle.model.specs.Steps.{Step, refresh, join, receive, refresh_controller, read_leader, read, set_normal, hear, install, checks, accepted, next}
use Rattle.model.proofs.Tests.{facts, by_cond, at-or, is_true, upd_same, upd_other}
use Rattle.model.proofs.Quorum.{replica-range}
use Rattle.pieces.specs.Fitting.{Leaders, Keeps}

-- What is to be seen of an accepted step.
by_next : (st : Step) → ((s : RowState) → Leaders s → T (accepted (outline s) st) → Leaders (next entries s st)) → Keeps st
by_next st f s k = by_cond Leaders (accepted (outline s) st) (f s k) (λ _. k)

pub keeps-refresh : (b : ℕ) → Keeps (refresh b)
keeps-refresh b = by_next (refresh b) (λ s k t. record {
  named = k.named;
  waiting = k.waiting;
  views = at-or b
      (subst (λ (v : View). v.leader ≤ 8) (sym (upd_same s.view b s.registry.view)) k.named)
      (λ x n. subst (λ (v : View). v.leader ≤ 8) (sym (upd_other s.view b s.registry.view x n)) (k.views x));
  reads = k.reads;
})

pub keeps-join : (b : ℕ) → Keeps (join b)
keeps-join b = by_next (join b) (λ s k t. record { named = k.named; waiting = k.waiting; views = k.views; reads = k.reads })

pub keeps-receive : (b : ℕ) → Keeps (receive b)
keeps-receive b =
    by_next (receive b) (λ s k t. record { named = k.named; waiting = k.waiting; views = k.views; reads = k.reads })

-- Stage leader is for status waiting alone.
waits : (g : Status) → stage_number (stage_for g) ≡ 1 → g ≡ waiting
waits normal e = absurd (omega (arith, e))
waits waiting e = λ i. waiting
waits Status.choosing e = absurd (omega (arith, e))

pub keeps-refresh-controller : Keeps refresh_controller
keeps-refresh-controller = by_next refresh_controller (λ s k t. record {
  named = k.named;
  waiting = k.waiting;
  views = k.views;
  reads = λ e. k.waiting (waits s.registry.status e);
})

pub keeps-read-leader : Keeps read_leader
keeps-read-leader = by_next read_leader (λ s k t. record {
  named = k.named;
  waiting = k.waiting;
  views = k.views;
  reads = λ e. absurd (omega (arith, e));
})

pub keeps-read : (b : ℕ) → Keeps (read b)
keeps-read b = by_next (read b) (λ s k t. record { named = k.named; waiting = k.waiting; views = k.views; reads = k.reads })

pub keeps-hear : (b : ℕ) → Keeps (hear b)
keeps-hear b = by_next (hear b) (λ s k t. record { named = k.named; waiting = k.waiting; views = k.views; reads = k.reads })

-- A status by a number, to tell them apart.
place : Status → ℕ
place normal = 0
place waiting = 1
place Status.choosing = 2

not-waiting : normal ≢ waiting
unfolding place
not-waiting e = let z : ◌≡◌ {A = ℕ} 0 1 = ap place e in omega (arith, z)

pub keeps-set-normal : Keeps set_normal
keeps-set-normal = by_next set_normal (λ s k t. record {
  named = k.named;
  waiting = λ e. absurd (not-waiting e);
  views = k.views;
  reads = λ e. absurd (omega (arith, e));
})

pub keeps-install : (b : ℕ) → Keeps (install b)
keeps-install b = by_next (install b) (λ s k t.
    let r = facts (checks (outline s) (install b)) t 1 in
    record {
      named = (replica-range b r).1;
      waiting = λ _. is_true (is_replica b) r;
      views = k.views;
      reads = λ _. is_true (is_replica b) r;
    })
