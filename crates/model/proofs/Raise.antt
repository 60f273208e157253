-- A raise of the registry's epoch: every view is now an old one, and the history changes at most at the new epoch. Then
-- the raises that keep leader and term: add (3), remove (4), set normal (13). Assumes nothing.
use mathlib.Core.Bool.{true, false, not}
use mathlib.Core.List.{List}
use mathlib.Core.Logic.{inl, inr, ◌≢◌}
use mathlib.Core.Path.{◌≡◌, refl, sym, subst, ap, ◌∙◌}
use Prim.Native.Nat.{ℕ, suc, ◌-◌, ◌*◌, ◌≤◌, ◌<◌}
use native.Mathlib.Omega.{arith}
use lib.Dec.{T, leb, eqb, eqb→eq, leb→le, T_not}
use lib.ListN.{length, take}
use lib.Seq.{length-take-le}
use Rattle.model.specs.Prelude.{upd, ◌⊑◌}
use Rattle.model.specs.Members.{Members, is_replica, ◌∩◌, size}
use Rattle.model.specs.State.{outline, Entries, View, Status, waiting, Registry, State, is_normal, is_choosing, stage_number}
use Rattle.model.specs.Steps as Steps
use Rattle.model.specs.Steps.{add, remove, set_normal, checks, next, with_registry, heard_enough}
use Rattle.model.proofs.Tests.{Holds, split-and, join-and, by_cond, ne-fact, upd_other, upd-idle, is_true}
use Rattle.model.proofs.Prefix.{begins-take, begins-length, begins-compare}
use Rattle.model.proofs.Quorum.{meet-sub, has_quorum, quorum-half, replica-ne}
use Rattle.model.proofs.Invariant as Invariant
use Rattle.model.proofs.Invariant.{ViewOk, ControllerOk, reading, Firm, vacant, steady, reads, electors, LogsOk, HeardOk, holding, Backed, held, Ok, Stale, Blocked, passed, stuck, Outvoted, SafeIn, Inv}
use Rattle.model.proofs.Static as Static
use Rattle.model.proofs.Static.{o, ◌⇒◌, to-holding, still-outvoted, follows-leader}
use Rattle.model.proofs.Control.{waits, waits-named}

module _ {E : Type 0} {L : ℕ → ℕ} {s : State E} (i : Inv L s) where
  open s use {registry, controller, view, joined, acked, log, committed}

  abbrev r : View
  r = registry.view

  -- Views and logs under the registry r' and the history L'.
  module _ (L' : ℕ → ℕ) (r' : View) (up : r'.epoch ≡ suc r.epoch) (later : r.term ≤ r'.term)
      (same : (t : ℕ) → t ≤ r.epoch → L' t ≡ L t) where
    term-same : (b : ℕ) → L' (view b).term ≡ L (view b).term
    term-same b = same (view b).term (omega (arith, (i.views b).term, i.registry.term))

    joined_same : (b : ℕ) → L' (joined b) ≡ L (joined b)
    joined_same b = same (joined b) (omega (arith, (i.views b).joined, (i.views b).term, i.registry.term))

    pub raised-views : (b : ℕ) → ViewOk L' r' (view b) (joined b)
    raised-views b = let v = i.views b in record {
      epoch = omega (arith, v.epoch);
      term = omega (arith, v.term);
      joined = v.joined;
      current = λ e. absurd (omega (arith, v.epoch));
      led = λ n. v.led n ∙ sym (term-same b);
    }

    pub raised-logs : LogsOk L' view joined acked log
    raised-logs = record {
      own = λ a q. i.logs.own a (sym (term-same a) ∙ q);
      taken = λ b. subst (λ x. joined b ≤ (view x).term) (sym (joined_same b)) (i.logs.taken b);
      follows = λ b. subst (λ x. (view x).term ≡ joined b → log b ⊑ log x) (sym (joined_same b)) (i.logs.follows b);
      counts = λ a b q. i.logs.counts a b (sym (term-same a) ∙ q);
    }

  -- A controller that has not heard of the raise.
  module _ (r' : Registry) (up : r'.view.epoch ≡ suc r.epoch) where
    behind : controller.view.epoch ≢ r'.view.epoch
    behind e = omega (arith, i.controller.epoch)

    pub raised-controller : ControllerOk r' controller.view controller.stage
    raised-controller = record {
      epoch = omega (arith, i.controller.epoch);
      current = λ e. absurd (behind e);
      stage = λ e. absurd (behind e);
    }

    pub raised-heard : HeardOk r' controller view joined log
    raised-heard = record { read = λ e. absurd (behind e); heard = λ e. absurd (behind e) }

    pub not-reading : T (reading r' controller) → ⊥
    not-reading t =
        behind (eqb→eq controller.view.epoch r'.view.epoch
        (split-and (eqb controller.view.epoch r'.view.epoch) (eqb (stage_number controller.stage) 2) t).0)

  -- Where the leader had taken up its term, those that were outvoted are so under another named leader too.
  pub outvoted-under : (l' : ℕ) {S' : List E → Type 0} → (SafeIn L s ⇒ S') → Firm registry controller → (a : ℕ)
      → Stale r.term (view a) a → Outvoted S' l' view joined acked log a
  outvoted-under l' {S'} f firm a st =
      let out = i.outvoted a st in record
      { some = out.some; enough = out.enough; blocked = λ b k t. go b k (out.blocked b k t) }
    where
      go : (b : ℕ) → T (is_replica b)
          → Blocked (SafeIn L s) r.leader (view a) (view b) (acked a b) (joined b) (log a) (log b) b
          → Blocked S' l' (view a) (view b) (acked a b) (joined b) (log a) (log b) b
      go b k (passed lt n safe) = passed lt n (f _ safe)
      go b k (stuck e (inl z) safe) = stuck e (inl z) (λ j. f _ (safe j))
      go b k (stuck e (inr z) safe) =
          let at : o i ≡ b = sym (Static.named-only i (λ w. replica-ne b k (sym z ∙ w))) ∙ z in
          absurd (omega (arith, st.old, i.leader.took firm, ap (λ x. (view x).term) at))

  -- Leader and term are kept, the members are m, and the leader's office is not firm (3 and 4).
  loosened : (m : Members) (g : Status) → T (not (is_choosing registry.status)) → T (not (is_choosing g)) → T (m (o i))
      → (T (is_normal g) → 2 ≤ size m → ⊥)
      → Inv L (with_registry s (record
      { view = record { epoch = suc r.epoch; term = r.term; leader = r.leader; members = m }; status = g }))
  loosened m g before after member few = record {
    real = i.real;
    views = raised-views L r'.view refl (omega arith) (λ _ _. refl);
    controller = raised-controller r' refl;
    registry = record {
      term = omega (arith, i.registry.term);
      named = Static.named i before ∙ by_cond (λ x. o i ≡ x) (is_choosing g) (λ t. absurd (T_not (is_choosing g) after t))
          (λ _. refl);
      member = λ _. member;
    };
    logs = raised-logs L r'.view refl (omega arith) (λ _ _. refl);
    leader = record { joined = i.leader.joined; took = λ f. absurd (loose f); whole = λ f. absurd (loose f) };
    heard = raised-heard r' refl;
    safe = safe _ i.safe;
    outvoted = λ a st. still-outvoted safe (i.outvoted a st);
  }
    where
      r' : Registry
      r' = record {
        view = record { epoch = suc r.epoch; term = r.term; leader = r.leader; members = m };
        status = g;
      }

      loose : Firm r' controller → ⊥
      loose (vacant t) = T_not (is_choosing g) after t
      loose (steady t n) = few t n
      loose (reads t) = not-reading r' refl t

      safe : SafeIn L s ⇒ Ok (o i) r' controller joined log
      safe x k = record { begins = k.begins; backed = λ f. absurd (loose f) }

module _ (𝓔 : Entries) where
  open 𝓔 use {Entry}

  module _ {L : ℕ → ℕ} {s : State Entry} (i : Inv L s) where
    open s use {registry, controller, view, joined, acked, log, committed}

    pub add-keeps : (b : ℕ) → Holds (checks (outline s) (add b)) → Inv L (next 𝓔 s (add b))
    add-keeps b h =
        loosened i _ waiting (h 4) tt (by_cond T (eqb (o i) b) (λ _. tt) (λ _. i.registry.member (h 4)))
        (λ t. absurd t)

    pub remove-keeps : (b : ℕ) → Holds (checks (outline s) (remove b)) → Inv L (next 𝓔 s (remove b))
    remove-keeps b h =
        loosened i left _ (h 4) (by_cond (λ g. T (not (is_choosing g))) (eqb (size left) 1) (λ _. tt) (λ _. tt))
        (subst T (sym (upd_other registry.view.members b false (o i)
        (λ e. ne-fact b registry.view.leader (h 6) (sym e ∙ sym (Static.named i (h 4))))))
        (i.registry.member (h 4)))
        (by_cond (λ g. T (is_normal g) → 2 ≤ size left → ⊥) (eqb (size left) 1)
        (λ t _ two. omega (arith, eqb→eq (size left) 1 t)) (λ _ t. absurd t))
      where
        left : Members
        left = upd registry.view.members b false

    -- Set normal: a quorum of the members holds what the controller read of the leader.
    module _ (h : Holds (checks (outline s) set_normal)) where
      at-boards : stage_number controller.stage ≡ 2
      at-boards = eqb→eq (stage_number controller.stage) 2 (h 15)

      now : controller.view.epoch ≡ registry.view.epoch
      now = eqb→eq controller.view.epoch registry.view.epoch (h 16)

      current : controller.view ≡ registry.view
      current = i.controller.current now

      not-choosing : T (not (is_choosing registry.status))
      not-choosing =
          waits-named registry.status
          (waits registry.status controller.stage 2 at-boards (omega arith) (omega arith)
          (i.controller.stage now))

      firm : Firm registry controller
      firm =
          reads (join-and (eqb controller.view.epoch registry.view.epoch)
          (eqb (stage_number controller.stage) 2) (h 16) (h 15))

      -- whoever is heard at the leader's length or more holds as many entries
      holds : (n x : ℕ) → suc n ≤ controller.heard (o i) → T (registry.view.members x) → T (heard_enough controller x)
          → T (holding joined log registry.view.term n x)
      holds n x l m t =
          let z = split-and (leb 1 (controller.heard x))
          (leb (controller.heard controller.view.leader) (controller.heard x)) t in
          let k = i.heard.read now (λ e. omega (arith, at-boards)) x m (leb→le 1 (controller.heard x) z.0) in
          to-holding joined log registry.view.term n x k.0
          (omega (
            arith,
            k.1,
            leb→le (controller.heard controller.view.leader) (controller.heard x) z.1,
            ap controller.heard (ap (λ v. v.leader) current ∙ Static.named i not-choosing),
          ))

      -- and its log begins with what the leader had when it was read
      pub set-normal-carried : (x : ℕ) → T (controller.view.members x) → T (heard_enough controller x)
          → take (controller.heard controller.view.leader - 1) (log controller.view.leader) ⊑ log x
      set-normal-carried x m t =
          let n = controller.heard controller.view.leader - 1 in
          let z = split-and (leb 1 (controller.heard x))
          (leb (controller.heard controller.view.leader) (controller.heard x)) t in
          let k = i.heard.read now (λ e. omega (arith, at-boards)) x (subst (λ (v : View). T (v.members x)) current m)
          (leb→le 1 (controller.heard x) z.0) in
          let f = follows-leader i (i.leader.took firm) x k.0 in
          let le : n ≤ length (log x) = omega (
            arith,
            k.1,
            leb→le (controller.heard controller.view.leader) (controller.heard x) z.1,
          ) in
          let l = length-take-le n (log (o i)) (omega (arith, le, begins-length f)) in
          subst (λ y. take n (log y) ⊑ log x) (sym (ap (λ v. v.leader) current ∙ Static.named i not-choosing))
          (begins-compare (begins-take n (log (o i))) f (omega (arith, l, le)))

      most : (n : ℕ) → suc n ≤ controller.heard (o i)
          → size (electors registry (o i)) < 2 * size
          (electors registry (o i) ∩ holding joined log registry.view.term n)
      most n l = subst (λ (m : Members). size m < 2 * size (m ∩ holding joined log registry.view.term n))
          (sym (upd-idle registry.view.members (o i) true
          (is_true (registry.view.members (o i)) (i.registry.member not-choosing))))
          (omega (
            arith,
            quorum-half registry.view.members (heard_enough controller)
                (subst (λ (v : View). T (has_quorum v.members (heard_enough controller))) current (h 14)),
            meet-sub registry.view.members (heard_enough controller) registry.view.members
                (holding joined log registry.view.term n) (λ x _ m t. (m, holds n x l m t)),
          ))

      pub set-normal-keeps : Inv L (next 𝓔 s set_normal)
      set-normal-keeps = record {
        real = i.real;
        views = raised-views i L r'.view refl (omega arith) (λ _ _. refl);
        registry = record {
          term = omega (arith, i.registry.term);
          named = Static.named i not-choosing;
          member = λ _. i.registry.member not-choosing;
        };
        controller = record {
          epoch = omega arith;
          stage = λ _. tt;
          current = λ _. ap (λ (v : View). record
              { epoch = suc registry.view.epoch; term = v.term; leader = v.leader; members = v.members })
              current;
        };
        logs = raised-logs i L r'.view refl (omega arith) (λ _ _. refl);
        leader = record {
          joined = i.leader.joined;
          took = λ _. i.leader.took firm;
          whole = λ _. i.leader.whole firm;
        };
        heard = record { read = λ _ _ b _ k. absurd (omega arith); heard = λ _ _ b _ k. absurd (omega arith) };
        safe = safe _ i.safe;
        outvoted = λ a st. still-outvoted safe (i.outvoted a st);
      }
        where
          r' : Registry
          r' = Steps.made_normal registry

          safe : SafeIn L s ⇒ SafeIn L (next 𝓔 s set_normal)
          safe x k = record { begins = k.begins; backed = λ _. go (k.backed firm) }
            where
              go : Backed (o i) registry controller joined log (length x)
                  → Backed (o i) r' (next 𝓔 s set_normal).controller joined log (length x)
              go (held m) = held m
              go (Invariant.read _ l) = held (most (length x) l)
