-- The choosing part: it is accepted in turn and ends with a leader installed, within 2 records and 2 for each member of
-- the lowest majority. Assumes nothing.
use mathlib.Core.Bool.{not}
use mathlib.Core.List.{[], ◌∷◌}
use mathlib.Core.Logic.{◌≢◌}
use mathlib.Core.Path.{◌≡◌, refl, sym, subst, ap, ◌∙◌}
use Prim.Native.Nat.{ℕ, suc, ◌+◌, ◌*◌, ◌≤◌, ◌<◌}
use native.Mathlib.Omega.{arith}
use lib.Dec.{T, eqb, leb, le→leb, ltb, lt→ltb}
use lib.ListN.{length}
use Rattle.model.specs.Prelude.{◌else◌}
use Rattle.model.specs.Members.{Members, is_replica, ◌∩◌, size, quorum}
use Rattle.model.specs.State.{outline, Entries, IsExact, View, Status, normal, waiting, Stage, idle, leader, boards, Registry, Controller, State, is_choosing, stage_number}
use Rattle.model.specs.Steps.{hear, install, checks, above, ranked_not_above}
use Rattle.model.specs.Records.{of}
use Rattle.model.proofs.Tests.{join-and, eq_test, upd_same, upd_other}
use Rattle.model.proofs.Quorum.{replica-range, size-sub, has_quorum}
use Rattle.model.proofs.Rules.{◌then◌}
use Rattle.model.proofs.Invariant.{is_waiting, fits}
use Rattle.recovery.specs.Plan.{Draft, first_of, highest, put, put_unless, hears, choosing_part}
use Rattle.recovery.proofs.Lowest.{first-size, first-in, highest-in}
use Rattle.recovery.proofs.Reached.{Reached, next-reached}
use Rattle.recovery.proofs.Drafts.{Each, Sound, At, at_most, at-so, put-to, unless-to, turns-to}
use Rattle.recovery.proofs.News.{not-less, Known, control-ok, still-known, news-to, Called, control-to}

-- A controller up to date hears.
to-hear : (g : Status) (x : Stage) → T (is_choosing g) → T (fits g x) → stage_number x ≡ 3
to-hear normal x w t = absurd w
to-hear waiting x w t = absurd w
to-hear Status.choosing idle w t = absurd t
to-hear Status.choosing leader w t = absurd t
to-hear Status.choosing boards w t = absurd t
to-hear Status.choosing Stage.choosing w t = refl

half : (n : ℕ) → 1 ≤ n → quorum n ≤ n
half n h = omega arith

one : (n : ℕ) → 1 ≤ quorum n
one n = omega arith

count : (n k q : ℕ) → k ≡ q → suc (suc n + 2 * k) ≤ n + 2 + 2 * q
count n k q e = omega arith

module _ (𝓔 : Entries) (exact : IsExact 𝓔) where
  open 𝓔 use {Entry}

  module _ (r : Registry) (w : T (is_choosing r.status)) (low : r.view.epoch < 4000)
      (some : 1 ≤ size r.view.members) where
    abbrev m : Members
    m = r.view.members

    -- The lowest majority.
    abbrev q : Members
    q = first_of (quorum (size m)) m

    q-in : (b : ℕ) → T (q b) → T (m b)
    q-in b t = first-in (quorum (size m)) m b t

    q-size : size q ≡ quorum (size m)
    q-size = first-size (quorum (size m)) m (half (size m) some)

    -- The controller is up to date and hears,
    record Hears (t : State Entry) : Type 0 where
      known : Known 𝓔 exact r t
      current : t.controller.view.epoch ≡ r.view.epoch
      stage : stage_number t.controller.stage ≡ 3

    -- and has heard x.
    abbrev Heard : ℕ → State Entry → Type 0
    Heard x t = 1 ≤ t.controller.heard x

    called : {n : ℕ} {d : Draft Entry} → At 𝓔 exact n (Called 𝓔 exact r) d → At 𝓔 exact n Hears d
    called {n} {d} k = at-so 𝓔 exact Hears (λ z. record {
      known = z.known;
      current = z.current;
      stage = to-hear r.status d.state.controller.stage w ((control-ok 𝓔 exact z.known).stage z.current);
    }) k

    module _ (b : ℕ) (real : T (is_replica b)) (member : T (m b)) where
      record Fresh (t₀ t : State Entry) : Type 0 where
        base : Hears t
        control : t.controller ≡ t₀.controller
        fresh : (t.view b).epoch ≡ r.view.epoch

      -- What the turn of b does: it is heard, and who was heard before still is.
      record Told (t₀ t : State Entry) : Type 0 where
        base : Hears t
        new : Heard b t
        old : (x : ℕ) → x ≢ b → Heard x t₀ → Heard x t

      informs-to : {n : ℕ} {d : Draft Entry} → At 𝓔 exact n Hears d
          → At 𝓔 exact (suc n) (Fresh d.state) (put_unless 𝓔 12 (of 6 b) d)
      informs-to {n} {d} k = at-so 𝓔 exact (Fresh d.state) (λ z. record {
        base = record {
          known = z.known;
          current = ap (λ c. c.view.epoch) z.control ∙ k.is.current;
          stage = ap (λ c. stage_number c.stage) z.control ∙ k.is.stage;
        };
        control = z.control;
        fresh = z.fresh;
      }) (news-to 𝓔 exact r b real 12 refl k.is.known k.sound)

      -- The hearing, left out if b was heard at its length.
      hear-to : (t₀ : State Entry) {n : ℕ} {d : Draft Entry} → At 𝓔 exact n (Fresh t₀) d
          → At 𝓔 exact (suc n) (Told t₀) (put_unless 𝓔 12 (of 14 b) d)
      hear-to t₀ {n} {d} k =
          unless-to 𝓔 exact (Told t₀) (of 14 b) (
          (is_replica b else 1)
          ∷ (eqb (stage_number c.stage) 3 else 15)
          ∷ (c.view.members b else 5)
          ∷ (eqb (t.view b).epoch c.view.epoch else 16) ∷ []
          ) (ltb (c.heard b) n') 12 k.sound refl
          (real then eq_test (stage_number c.stage) 3 f.stage
          then subst (λ (v : View). T (v.members b)) (sym cv) member
          then eq_test (t.view b).epoch c.view.epoch (k.is.fresh ∙ sym f.current) then tt) tt
          (λ h. record {
            base = record {
              known = still-known 𝓔 exact f.known (hear b) refl h;
              current = f.current;
              stage = f.stage;
            };
            new = omega (arith, upd_same c.heard b n');
            old = λ x ne o. omega (arith, upd_other c.heard b n' x ne, still x o);
          })
          (λ z. record {
            base = f;
            new = omega (arith, not-less (c.heard b) n' z);
            old = λ x _ o. still x o;
          })
        where
          t : State Entry
          t = d.state

          f : Hears t
          f = k.is.base

          c : Controller
          c = t.controller

          n' : ℕ
          n' = suc (length (t.log b))

          cv : c.view ≡ r.view
          cv = (control-ok 𝓔 exact f.known).current f.current

          still : (x : ℕ) → Heard x t₀ → Heard x t
          still x h = subst (λ (y : Controller). 1 ≤ y.heard x) (sym k.is.control) h

      hears-to : {n : ℕ} {d : Draft Entry} → At 𝓔 exact n Hears d → At 𝓔 exact (n + 2) (Told d.state) (hears 𝓔 b d)
      unfolding hears
      hears-to {n} {d} k = at_most 𝓔 exact (n + 2) (omega arith) (hear-to d.state (informs-to k))

    -- With a leader installed.
    pub record Led (t : State Entry) : Type 0 where
      pub reached : Reached 𝓔 exact t
      pub waits : T (is_waiting t.registry.status)
      pub epoch : t.registry.view.epoch ≡ suc r.view.epoch
      pub members : t.registry.view.members ≡ r.view.members

    -- All of the lowest majority are heard, and none ranks above the highest of them.
    installs : {n : ℕ} {d : Draft Entry}
        → At 𝓔 exact n (λ t. Hears t × ((x : ℕ) → 1 ≤ x → x ≤ 8 → T (q x) → Heard x t)) d
        → At 𝓔 exact (suc n) Led (put 𝓔 (of 15 (highest d.state.controller q)) d)
    installs {n} {d} k = put-to 𝓔 exact Led (of 15 best) k.sound holds (λ h. record {
      reached = next-reached 𝓔 exact f.known.reached (install best) h;
      waits = tt;
      epoch = ap suc e;
      members = ap (λ (x : Registry). x.view.members) f.known.same;
    })
      where
        t : State Entry
        t = d.state

        c : Controller
        c = t.controller

        f : Hears t
        f = k.is.0

        best : ℕ
        best = highest c q

        top : T (is_replica best) × T (q best)
            × ((b : ℕ) → T (is_replica b) → T (q b) → T (not (above c best b)))
        top = highest-in c q (omega (arith, q-size, one (size m)))

        cv : c.view ≡ r.view
        cv = (control-ok 𝓔 exact f.known).current f.current

        e : t.registry.view.epoch ≡ r.view.epoch
        e = ap (λ (x : Registry). x.view.epoch) f.known.same

        heard : (b : ℕ) → T (is_replica b) → T (q b) → T (leb 1 (c.heard b))
        heard b z t = let y = replica-range b z in le→leb 1 (c.heard b) (k.is.1 b y.0 y.1 t)

        ranked : size q ≤ size (m ∩ ranked_not_above c best)
        ranked = size-sub q (m ∩ ranked_not_above c best) (λ b z t.
            join-and (m b) (ranked_not_above c best b) (q-in b t)
            (join-and (leb 1 (c.heard b)) (not (above c best b)) (heard b z t) (top.2 b z t)))

        majority : T (has_quorum m (ranked_not_above c best))
        majority = le→leb (quorum (size m)) (size (m ∩ ranked_not_above c best)) (omega (arith, ranked, q-size))

        holds : Each (checks (outline t) (install best))
        holds =
            top.0
            then eq_test (stage_number c.stage) 3 f.stage
            then subst (λ (v : View). T (v.members best)) (sym cv) (q-in best top.1)
            then eq_test c.view.epoch t.registry.view.epoch (f.current ∙ sym e)
            then join-and (leb 1 (c.heard best)) (has_quorum c.view.members (ranked_not_above c best))
            (heard best top.0 top.1)
            (subst (λ (v : View). T (has_quorum v.members (ranked_not_above c best))) (sym cv) majority)
            then lt→ltb t.registry.view.epoch 4000 (omega (arith, e)) then tt

  pub choosing-to : {n : ℕ} {d : Draft Entry} → Reached 𝓔 exact d.state
      → (w : T (is_choosing d.state.registry.status)) (low : d.state.registry.view.epoch < 4000)
      (some : 1 ≤ size d.state.registry.view.members) → Sound 𝓔 exact n d
      → At 𝓔 exact (n + 2 + 2 * quorum (size d.state.registry.view.members)) (Led d.state.registry w low some)
      (choosing_part 𝓔 d)
  unfolding choosing_part
  choosing-to {n} {d} k w low some z =
      let r = d.state.registry in
      let b = called r w low some (control-to 𝓔 exact r {d = d} (record { reached = k; same = refl }) z) in
      at_most 𝓔 exact _ (count n _ (quorum (size r.view.members)) (q-size r w low some)) (installs r w low some
      (turns-to 𝓔 exact (q r w low some) (hears 𝓔) 2 (Hears r w low some) (Heard r w low some)
      (λ x rx qx n d h. at-so 𝓔 exact _ (λ y. record { base = y.base; new = y.new; old = y.old })
      (hears-to r w low some x rx (q-in r w low some x qx) h)) b))
