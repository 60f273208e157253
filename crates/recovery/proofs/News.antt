-- A state of a run whose registry is r, and the news that both parts of a list take. Assumes nothing.
use mathlib.Core.Bool.{not}
use mathlib.Core.List.{[], ◌∷◌}
use mathlib.Core.Path.{◌≡◌, refl, sym, subst, ap, ◌∙◌}
use Prim.Native.Nat.{ℕ, suc, ◌≤◌}
use native.Mathlib.Omega.{arith}
use lib.Dec.{T, eqb, ltb}
use borrow.Author.Tests.{ltb-false}
use Rattle.model.specs.Prelude.{◌else◌}
use Rattle.model.specs.Members.{is_replica}
use Rattle.model.specs.State.{outline, Entries, IsExact, View, Registry, State}
use Rattle.model.specs.Steps.{Step, refresh, refresh_controller, checks, next}
use Rattle.model.specs.Records.{bare, of}
use Rattle.model.proofs.Tests.{Holds, by_cond, eq_test, upd_same, is_false}
use Rattle.model.proofs.Rules.{◌then◌}
use Rattle.model.proofs.Invariant.{ViewOk, ControllerOk}
use Rattle.recovery.specs.Plan.{Draft, put_unless, need, informs_controller, informs}
use Rattle.recovery.proofs.Reached.{Reached, next-reached}
use Rattle.recovery.proofs.Drafts.{Sound, At, unless-to, need-to}

pub not-less : (n m : ℕ) → T (not (ltb n m)) → m ≤ n
not-less n m t = ltb-false n m (is_false (ltb n m) t)

module _ (𝓔 : Entries) (exact : IsExact 𝓔) where
  open 𝓔 use {Entry}

  pub record Known (r : Registry) (t : State Entry) : Type 0 where
    pub reached : Reached 𝓔 exact t
    pub same : t.registry ≡ r

  module _ {r : Registry} {t : State Entry} (k : Known r t) where
    -- The invariant, said of r.
    abbrev pub leaders : ℕ → ℕ
    leaders = k.reached.history

    pub view-ok : (b : ℕ) → ViewOk leaders r.view (t.view b) (t.joined b)
    view-ok b = subst (λ x. ViewOk leaders x.view (t.view b) (t.joined b)) k.same (k.reached.inv.views b)

    pub control-ok : ControllerOk r t.controller.view t.controller.stage
    control-ok =
        subst (λ x. ControllerOk x t.controller.view t.controller.stage) k.same k.reached.inv.controller

  -- A step that leaves the registry.
  pub still-known : {r : Registry} {t : State Entry} → Known r t → (st : Step) → (next 𝓔 t st).registry ≡ t.registry
      → Holds (checks (outline t) st) → Known r (next 𝓔 t st)
  still-known k st e h = record { reached = next-reached 𝓔 exact k.reached st h; same = e ∙ k.same }

  -- After b's news: b is up to date, whoever was is so still, and nothing else of use has changed.
  pub record Informed (r : Registry) (b : ℕ) (t₀ t : State Entry) : Type 0 where
    pub known : Known r t
    pub control : t.controller ≡ t₀.controller
    pub fresh : (t.view b).epoch ≡ r.view.epoch
    pub still : (x : ℕ) → (t₀.view x).epoch ≡ r.view.epoch → (t.view x).epoch ≡ r.view.epoch

  -- News is left out where it is refused i: 12, if b is up to date.
  pub news-to : (r : Registry) (b : ℕ) → T (is_replica b) → (i : ℕ) → i ≡ 12 → {n : ℕ} {d : Draft Entry}
      → Known r d.state → Sound 𝓔 exact n d → At 𝓔 exact (suc n) (Informed r b d.state) (put_unless 𝓔 i (of 6 b) d)
  news-to r b real i is {n} {d} k w =
      subst (λ i. At 𝓔 exact (suc n) (Informed r b t) (put_unless 𝓔 i (of 6 b) d)) (sym is)
      (unless-to 𝓔 exact (Informed r b t) (of 6 b) ((is_replica b else 1) ∷ [])
      (ltb (t.view b).epoch t.registry.view.epoch) 12 w refl (real then tt) tt
      (λ h. record {
        known = still-known k (refresh b) refl h;
        control = refl;
        fresh = ap (λ (v : View). v.epoch) (upd_same t.view b t.registry.view) ∙ e;
        still = λ x q. by_cond (λ (v : View). v.epoch ≡ r.view.epoch) (eqb x b) (λ _. e) (λ _. q);
      })
      (λ z. record {
        known = k;
        control = refl;
        fresh = omega (arith, not-less (t.view b).epoch t.registry.view.epoch z, (view-ok k b).epoch, e);
        still = λ x q. q;
      }))
    where
      t : State Entry
      t = d.state

      e : t.registry.view.epoch ≡ r.view.epoch
      e = ap (λ (x : Registry). x.view.epoch) k.same

  -- Then its leader is the registry's.
  pub informs-to : (r : Registry) (b : ℕ) → T (is_replica b) → {n : ℕ} {d : Draft Entry} → Known r d.state
      → Sound 𝓔 exact n d → At 𝓔 exact (suc n) (Informed r b d.state) (informs 𝓔 r.view.leader b d)
  unfolding informs
  informs-to r b real {n} {d} k w = led (news-to r b real _ (omega arith) k w)
    where
      led : {e : Draft Entry} → At 𝓔 exact (suc n) (Informed r b d.state) e
          → At 𝓔 exact (suc n) (Informed r b d.state) (need 𝓔 (eqb (e.state.view b).leader r.view.leader) e)
      led {e} z = need-to 𝓔 exact (Informed r b d.state) _ (eq_test (e.state.view b).leader r.view.leader
          (ap (λ v. v.leader) ((view-ok z.is.known b).current z.is.fresh))) z

  -- After the controller's: it is up to date.
  pub record Called (r : Registry) (t : State Entry) : Type 0 where
    pub known : Known r t
    pub current : t.controller.view.epoch ≡ r.view.epoch

  pub control-to : (r : Registry) {n : ℕ} {d : Draft Entry} → Known r d.state → Sound 𝓔 exact n d
      → At 𝓔 exact (suc n) (Called r) (informs_controller 𝓔 d)
  unfolding informs_controller
  control-to r {n} {d} k w =
      unless-to 𝓔 exact (Called r) (bare 10) [] (ltb t.controller.view.epoch t.registry.view.epoch) 12 w refl tt tt
      (λ h. record {
        known = still-known k refresh_controller refl h;
        current = e;
      })
      (λ z. record {
        known = k;
        current = omega (
          arith,
          not-less t.controller.view.epoch t.registry.view.epoch z,
          (control-ok k).epoch,
          e,
        );
      })
    where
      t : State Entry
      t = d.state

      e : t.registry.view.epoch ≡ r.view.epoch
      e = ap (λ (x : Registry). x.view.epoch) k.same
