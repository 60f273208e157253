-- The controller's own steps keep the invariant: news (10), read leader (11), read (12), hear (14). All but the
-- controller stays. Assumes nothing.
use mathlib.Core.Bool.{true, false, not}
use mathlib.Core.List.{List}
use mathlib.Core.Path.{◌≡◌, refl, sym, subst, ap, ◌∙◌}
use Prim.Native.Nat.{ℕ, suc, ◌≤◌, ◌<◌}
use native.Mathlib.Omega.{arith}
use lib.Dec.{T, eqb, eqb→eq, ltb→lt, T_not}
use lib.ListN.{length}
use borrow.Author.Tests.{ne_eqb}
use Rattle.model.specs.State.{outline, Entries, View, Status, normal, waiting, Stage, idle, leader, boards, Controller, State, is_choosing, stage_number, stage_for}
use Rattle.model.specs.Steps.{refresh_controller, read_leader, read, hear, checks, next, with_controller, heard_of, deaf}
use Rattle.model.proofs.Tests.{Holds, split-and, join-and, by-test, at-or, eqb_same, eq_test, upd-idle, is_true}
use Rattle.model.proofs.Prefix.{begins-length}
use Rattle.model.proofs.Invariant as Invariant
use Rattle.model.proofs.Invariant.{is_waiting, fits, ControllerOk, reading, Firm, vacant, steady, reads, electors, LeaderOk, HeardOk, Backed, held, Ok, SafeIn, Inv}
use Rattle.model.proofs.Static as Static
use Rattle.model.proofs.Static.{o, ◌⇒◌, still-outvoted}

fits-stage_for : (g : Status) → T (fits g (stage_for g))
fits-stage_for normal = tt
fits-stage_for waiting = tt
fits-stage_for Status.choosing = tt

not-boards : (g : Status) → T (eqb (stage_number (stage_for g)) 2) → T false
not-boards normal t = t
not-boards waiting t = t
not-boards Status.choosing t = t

pub waits : (g : Status) (x : Stage) (n : ℕ) → stage_number x ≡ n → 1 ≤ n → n ≤ 2 → T (fits g x) → T (is_waiting g)
waits g idle n e h k t = absurd (omega arith)
waits g leader n e h k t = t
waits g boards n e h k t = t
waits g Stage.choosing n e h k t = absurd (omega arith)

pub waits-named : (g : Status) → T (is_waiting g) → T (not (is_choosing g))
waits-named normal t = tt
waits-named waiting t = tt
waits-named Status.choosing t = t

module _ {E : Type 0} {L : ℕ → ℕ} {s : State E} (i : Inv L s) where
  open s use {registry, controller, view, joined, acked, log, committed}

  -- Another controller, before which safe lists stay safe.
  with-controller : (c : Controller) → ControllerOk registry c.view c.stage
      → LeaderOk (o i) registry c (view (o i)) (joined (o i))
      → HeardOk registry c view joined log → (SafeIn L s ⇒ Ok (o i) registry c joined log) → Inv L (with_controller s c)
  with-controller c ok lead heard safe = record {
    real = i.real;
    registry = i.registry;
    views = i.views;
    controller = ok;
    logs = i.logs;
    leader = lead;
    heard = heard;
    safe = safe _ i.safe;
    outvoted = λ a st. still-outvoted safe (i.outvoted a st);
  }

  -- A controller that is read from here on exactly where it was before: the leader's office is as it was.
  same-leader : (c : Controller) → (Firm registry c → Firm registry controller)
      → LeaderOk (o i) registry c (view (o i)) (joined (o i))
  same-leader c f = record {
    joined = i.leader.joined;
    took = λ k. i.leader.took (f k);
    whole = λ k. i.leader.whole (f k);
  }

  -- One more length is heard, of b, longer than what was heard of it.
  module _ (b j : ℕ) (longer : controller.heard b < suc (length (log b))) where
    abbrev c' : Controller
    c' = heard_of controller controller.stage b (length (log b)) j

    same-firm : Firm registry c' → Firm registry controller
    same-firm (vacant t) = vacant t
    same-firm (steady t n) = steady t n
    same-firm (reads t) = reads t

    grows : (x : ℕ) → controller.heard x ≤ c'.heard x
    grows = at-or b (rw (eqb_same b) (omega arith)) (λ x n. rw (ne_eqb x b n) (omega arith))

    one-heard : HeardOk registry c' view joined log → Inv L (with_controller s c')
    one-heard heard = with-controller c' i.controller (same-leader c' same-firm) heard
        (λ x k. record { begins = k.begins; backed = λ f. go (k.backed (same-firm f)) })
      where
        go : {n : ℕ} → Backed (o i) registry controller joined log n → Backed (o i) registry c' joined log n
        go (held h) = held h
        go (Invariant.read t h) = Invariant.read t (omega (arith, grows (o i)))

module _ (𝓔 : Entries) where
  open 𝓔 use {Entry}

  module _ {L : ℕ → ℕ} {s : State Entry} (i : Inv L s) where
    open s use {registry, controller, view, joined, acked, log, committed}

    abbrev c : View
    c = controller.view

    abbrev r : View
    r = registry.view

    pub refresh-controller-keeps : Holds (checks (outline s) refresh_controller) → Inv L (next 𝓔 s refresh_controller)
    refresh-controller-keeps h = with-controller i c'
        (record { epoch = omega arith; current = λ _. refl; stage = λ _. fits-stage_for registry.status })
        (same-leader i c' firm)
        (record { read = λ _ _ b _ k. absurd (omega arith); heard = λ _ _ b _ k. absurd (omega arith) })
        (λ x k. record { begins = k.begins; backed = λ f. go (k.backed (firm f)) })
      where
        c' : Controller
        c' = deaf r (stage_for registry.status)

        firm : Firm registry c' → Firm registry controller
        firm (vacant t) = vacant t
        firm (steady t n) = steady t n
        firm (reads t) = absurd (not-boards registry.status
            (split-and (eqb r.epoch r.epoch) (eqb (stage_number (stage_for registry.status)) 2) t).1)

        go : {n : ℕ} → Backed (o i) registry controller joined log n → Backed (o i) registry c' joined log n
        go (held k) = held k
        go (Invariant.read t _) = absurd
            (omega (
              arith,
              ltb→lt c.epoch r.epoch (h 12),
              eqb→eq c.epoch r.epoch
                  (split-and (eqb c.epoch r.epoch) (eqb (stage_number controller.stage) 2) t).0,
            ))

    pub read_keeps : (b : ℕ) → Holds (checks (outline s) (read b)) → Inv L (next 𝓔 s (read b))
    read_keeps b h = one-heard i b 0 (ltb→lt (controller.heard b) (suc (length (log b))) (h 12)) (record {
      read = λ e g. at-or b
          (λ m k. (
            eqb→eq (joined b) c.term (h 11) ∙ ap (λ v. v.term) (i.controller.current e),
            rw (eqb_same b) (omega arith),
          ))
          (λ x n m. rw (ne_eqb x b n) (i.heard.read e g x m));
      heard = λ e g. absurd (omega (arith, eqb→eq (stage_number controller.stage) 2 (h 15)));
    })

    pub hear-keeps : (b : ℕ) → Holds (checks (outline s) (hear b)) → Inv L (next 𝓔 s (hear b))
    hear-keeps b h = one-heard i b (joined b) (ltb→lt (controller.heard b) (suc (length (log b))) (h 12)) (record {
      read = λ e g. absurd (g (eqb→eq (stage_number controller.stage) 3 (h 15)));
      heard = λ e g. at-or b
          (λ m k. (eqb→eq (view b).epoch c.epoch (h 16) ∙ e, rw (eqb_same b), rw (eqb_same b)))
          (λ x n m. rw (ne_eqb x b n) (i.heard.heard e g x m));
    })

    -- Read leader: the controller has its length, and its view is the registry's.
    module _ (h : Holds (checks (outline s) read_leader)) where
      abbrev lead : ℕ
      lead = c.leader

      abbrev after : Controller
      after = heard_of controller boards lead (length (log lead)) 0

      at-leader : stage_number controller.stage ≡ 1
      at-leader = eqb→eq (stage_number controller.stage) 1 (h 15)

      module _ (e : c.epoch ≡ r.epoch) where
        not-choosing : T (not (is_choosing registry.status))
        not-choosing = waits-named registry.status
            (waits registry.status controller.stage 1 at-leader (omega arith) (omega arith)
            (i.controller.stage e))

        is-o : lead ≡ o i
        is-o = ap (λ v. v.leader) (i.controller.current e) ∙ Static.named i not-choosing

        fresh : view (o i) ≡ r
        fresh = (i.views (o i)).current
            (ap (λ x. (view x).epoch) (sym is-o) ∙ eqb→eq (view lead).epoch c.epoch (h 16) ∙ e)

        whole : r.members ≡ electors registry (o i)
        whole = sym (upd-idle r.members (o i) true (is_true (r.members (o i)) (i.registry.member not-choosing)))

      up-to-date : T (reading registry after) → c.epoch ≡ r.epoch
      up-to-date t = eqb→eq c.epoch r.epoch (split-and (eqb c.epoch r.epoch) true t).0

      pub read-leader-keeps : Inv L (next 𝓔 s read_leader)
      read-leader-keeps = with-controller i after
          (record {
            epoch = i.controller.epoch;
            current = i.controller.current;
            stage = λ e. waits registry.status controller.stage 1 at-leader (omega arith) (omega arith)
                (i.controller.stage e);
          })
          (record { joined = i.leader.joined; took = took; whole = whole-view })
          (record {
            read = λ e _ b m k. at-or {P = λ b. T (r.members b) → 1 ≤ after.heard b → (joined b ≡ r.term)
                × (after.heard b ≤ suc (length (log b)))} lead
                (λ _ _. (
                  subst (λ x. joined x ≡ r.term) (sym (is-o e)) (i.leader.joined ∙ ap (λ v. v.term) (fresh e)),
                  rw (eqb_same lead) (omega arith),
                ))
                (λ x n m. rw (ne_eqb x lead n) (i.heard.read e (λ z. omega (arith, at-leader)) x m)) b m k;
            heard = λ _ g. absurd (omega arith);
          })
          (λ x k. record {
            begins = k.begins;
            backed = λ f. by-test (eqb c.epoch r.epoch) (new x k) (old x k f);
          })
        where
          took : Firm registry after → (view (o i)).term ≡ r.term
          took (vacant t) = i.leader.took (vacant t)
          took (steady t n) = i.leader.took (steady t n)
          took (reads t) = ap (λ v. v.term) (fresh (up-to-date t))

          whole-view : Firm registry after → (view (o i)).leader ≡ o i → (view (o i)).members ≡ electors registry (o i)
          whole-view (vacant t) = i.leader.whole (vacant t)
          whole-view (steady t n) = i.leader.whole (steady t n)
          whole-view (reads t) = λ _. ap (λ v. v.members) (fresh (up-to-date t)) ∙ whole (up-to-date t)

          new : (x : List Entry) → SafeIn L s x → T (eqb c.epoch r.epoch)
              → Backed (o i) registry after joined log (length x)
          new x k t = Invariant.read (join-and (eqb c.epoch r.epoch) true t tt)
              (subst (λ y. suc (length x) ≤ after.heard y) (is-o (eqb→eq c.epoch r.epoch t))
              (rw (eqb_same lead) (omega (
                arith,
                begins-length k.begins,
                ap (λ x. length (log x)) (is-o (eqb→eq c.epoch r.epoch t)),
              ))))

          old : (x : List Entry) → SafeIn L s x → Firm registry after → T (not (eqb c.epoch r.epoch))
              → Backed (o i) registry after joined log (length x)
          old x k f t = go f
            where
              keep : Backed (o i) registry controller joined log (length x)
                  → Backed (o i) registry after joined log (length x)
              keep (held h) = held h
              keep (Invariant.read u _) = absurd
                  (T_not (eqb c.epoch r.epoch) t
                  (split-and (eqb c.epoch r.epoch) (eqb (stage_number controller.stage) 2) u).0)

              go : Firm registry after → Backed (o i) registry after joined log (length x)
              go (vacant u) = keep (k.backed (vacant u))
              go (steady u n) = keep (k.backed (steady u n))
              go (reads u) = absurd (T_not (eqb c.epoch r.epoch) t (eq_test c.epoch r.epoch (up-to-date u)))
