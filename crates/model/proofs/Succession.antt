-- A new leader: whoever is named holds every safe list, and the leader that is replaced is outvoted from then on. Used
-- by change leader (5) and install (15). Assumes nothing.
use mathlib.Core.Bool.{not}
use mathlib.Core.List.{List}
use mathlib.Core.Logic.{◌⊎◌, inl, inr}
use mathlib.Core.Path.{◌≡◌, refl, sym, subst, ap, ◌∙◌}
use Prim.Native.Nat.{ℕ, suc, ◌≤◌, ◌<◌}
use native.Mathlib.Omega.{arith}
use lib.Dec.{T, eqb}
use Rattle.model.specs.Prelude.{upd, ◌⊑◌}
use Rattle.model.specs.Members.{Members, is_replica}
use Rattle.model.specs.State.{View, Status, leader, Registry, Controller, State, is_choosing}
use Rattle.model.proofs.Tests.{by_cond, eqb_same, le-or-lt, upd_other, is_false}
use Rattle.model.proofs.Invariant.{ControllerOk, Firm, HeardOk, Ok, Stale, Outvoted, SafeIn, Inv}
use Rattle.model.proofs.Static as Static
use Rattle.model.proofs.Static.{o, ◌⇒◌, Later, later}
use Rattle.model.proofs.Raise.{raised-views, raised-logs, outvoted-under}

module _ {E : Type 0} {L : ℕ → ℕ} {s : State E} (i : Inv L s) where
  open s use {registry, controller, view, joined, acked, log, committed}

  abbrev r : View
  r = registry.view

  -- A leader b under a new term, with the members m. It had joined the old term and holds every safe list.
  module _ (firm : Firm registry controller) (b : ℕ) (real : T (is_replica b)) (m : Members) (g : Status)
      (c : Controller)
      (joins : joined b ≡ r.term) (holds : SafeIn L s ⇒ (λ x. x ⊑ log b)) where
    abbrev r' : Registry
    r' = record { view = record { epoch = suc r.epoch; term = suc r.epoch; leader = b; members = m }; status = g }

    abbrev L' : ℕ → ℕ
    L' = upd L (suc r.epoch) b

    abbrev s' : State E
    s' = record {
      registry = r';
      controller = c;
      view = view;
      joined = joined;
      acked = acked;
      log = log;
      committed = committed;
    }

    -- Its office is not firm yet: then a list is safe if its log begins with it.
    module _ (loose : Firm r' c → ⊥) where
      pub new-safe : (x : List E) → x ⊑ log b → Ok b r' c joined log x
      new-safe x p = record { begins = p; backed = λ f. absurd (loose f) }

      pub new-leader : T (not (is_choosing g)) → T (m b) → ControllerOk r' c.view c.stage
          → HeardOk r' c view joined log
          → ((view (o i)).leader ≡ o i → Outvoted (Ok b r' c joined log) b view joined acked log (o i)) → Inv L' s'
      new-leader named member ok heard newly = record {
        real = λ t. by_cond (λ x. T (is_replica x)) (eqb t (suc r.epoch)) (λ _. real) (λ _. i.real t);
        registry = record {
          term = omega arith;
          member = λ _. rw (eqb_same (suc r.epoch)) member;
          named = rw (is_false (is_choosing g) named) (rw (eqb_same (suc r.epoch)));
        };
        views = raised-views i L' r'.view refl later same;
        logs = raised-logs i L' r'.view refl later same;
        controller = ok;
        heard = heard;
        leader = rw (eqb_same (suc r.epoch)) (record {
          joined = omega (arith, joins, (i.views b).joined, (i.views b).term);
          took = λ f. absurd (loose f);
          whole = λ f. absurd (loose f);
        });
        safe = rw (eqb_same (suc r.epoch)) (new-safe committed (holds committed i.safe));
        outvoted = λ a st. rw (eqb_same (suc r.epoch)) (go a st (le-or-lt r.term (view a).term));
      }
        where
          later : r.term ≤ suc r.epoch
          later = omega (arith, i.registry.term)

          same : (t : ℕ) → t ≤ r.epoch → L' t ≡ L t
          same t h = upd_other L (suc r.epoch) b t (λ e. omega arith)

          go : (a : ℕ) → Stale (suc r.epoch) (view a) a → (r.term ≤ (view a).term) ⊎ ((view a).term < r.term)
              → Outvoted (Ok b r' c joined log) b view joined acked log a
          go a st (inr lt) = outvoted-under i b (λ x k. new-safe x (holds x k)) firm a
              (record { real = st.real; leads = st.leads; old = lt })
          go a st (inl le) =
              let t : (view a).term ≡ r.term = omega (arith, (i.views a).term) in
              let e : o i ≡ a = ap L (sym t) ∙ Static.acting i a st.real st.leads in
              subst (Outvoted (Ok b r' c joined log) b view joined acked log) e
              (newly (subst (λ x. (view x).leader ≡ x) (sym e) st.leads))

-- The history with a leader b for the new epoch.
pub renamed : {E : Type 0} {L : ℕ → ℕ} {s s' : State E} (b : ℕ) → Inv (upd L (suc s.registry.view.epoch) b) s'
    → s.registry.view.epoch ≤ s'.registry.view.epoch → Later L s s'
renamed {L} {s} b k g = record {
  history = upd L (suc s.registry.view.epoch) b;
  inv = k;
  same = λ t h. upd_other L (suc s.registry.view.epoch) b t (λ e. omega arith);
  grows = g;
}
