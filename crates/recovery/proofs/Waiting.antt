-- The waiting part: it is accepted in turn and ends normal, within 4 records and 515 for each member that follows.
-- Assumes nothing.
use mathlib.Core.Bool.{Bool, true, false, not, cond}
use mathlib.Core.Logic.{◌≢◌}
use mathlib.Core.Path.{◌≡◌, refl, sym, subst, ap, ◌∙◌}
use Prim.Native.Nat.{ℕ, suc, ◌+◌, ◌*◌, ◌-◌, ◌≤◌, ◌<◌}
use native.Mathlib.Omega.{arith}
use lib.Dec.{T, eqb, eqb→eq, le→leb, lt→ltb}
use Rattle.model.specs.Prelude.{upd}
use Rattle.model.specs.Members.{Members, is_replica, ◌∩◌, size, quorum}
use Rattle.model.specs.State.{outline, Entries, IsExact, View, Status, normal, waiting, Stage, idle, leader, boards, Registry, Controller, State, is_choosing, stage_number}
use Rattle.model.specs.Steps.{read_leader, set_normal, checks, heard_enough}
use Rattle.model.specs.Records.{bare}
use Rattle.model.proofs.Tests.{by_cond, join-and, eq_test, ne-fact, upd_same, upd_other}
use Rattle.model.proofs.Quorum.{replica-range, size-sub, size-without, size-some, has_quorum}
use Rattle.model.proofs.Rules.{◌then◌}
use Rattle.model.proofs.Invariant.{is_waiting, fits}
use Rattle.model.proofs.Control.{waits-named}
use Rattle.recovery.specs.Plan.{Draft, first_of, in_boards, turns, put, informs, follows, reads_leader, waiting_part}
use Rattle.recovery.proofs.Lowest.{first-size, first-in}
use Rattle.recovery.proofs.Reached.{Reached}
use Rattle.recovery.proofs.Drafts.{Each, Sound, At, at_most, at-so, put-to, need-to, turns-to}
use Rattle.recovery.proofs.News.{Known, control-ok, still-known, Informed, informs-to, Called, control-to}
use Rattle.recovery.proofs.Following.{leader-real, leader-member, Reads, Heard, control-view, heard-leader, to-heard, follows_to}

-- A controller up to date has read the leader, or is to.
to_read : (g : Status) (x : Stage) → T (is_waiting g) → T (fits g x) → T (not (in_boards x)) → T (eqb (stage_number x) 1)
to_read normal x w t n = absurd w
to_read Status.choosing x w t n = absurd w
to_read waiting idle w t n = absurd t
to_read waiting leader w t n = tt
to_read waiting boards w t n = absurd n
to_read waiting Stage.choosing w t n = absurd t

-- The n lowest members other than the leader l, of whom there are as many.
module _ (m : Members) (l : ℕ) (real : T (is_replica l)) (member : T (m l)) (n : ℕ) (few : n < size m) where
  abbrev pub rest : Members
  rest = first_of n (upd m l false)

  pub rest_in : (b : ℕ) → T (rest b) → T (m b) × (b ≢ l)
  rest_in b t = go (eqb b l) refl (first-in n (upd m l false) b t)
    where
      go : (e : Bool) → eqb b l ≡ e → T (cond e false (m b)) → T (m b) × (b ≢ l)
      go true e h = absurd h
      go false e h = (h, ne-fact b l (subst (λ x. T (not x)) (sym e) tt))

  pub rest-size : size rest ≡ n
  rest-size = first-size n (upd m l false) (omega (arith, size-without m l real member))

  -- With the leader they are a majority, where one more than n is: so any set is that has them all.
  pub enough : quorum (size m) ≤ suc n → (q : Members) → T (q l)
      → ((b : ℕ) → T (is_replica b) → T (rest b) → T (q b)) → T (has_quorum m q)
  enough most q ql f = le→leb (quorum (size m)) (size (m ∩ q)) (sum rest-size more all most)
    where
      sum : {a b c k : ℕ} → a ≡ n → suc a ≤ b → b ≤ c → k ≤ suc n → k ≤ c
      sum e h i j = omega arith

      more : suc (size rest) ≤ size (upd rest l true)
      more = omega (
        arith,
        size-without (upd rest l true) l real (subst T (sym (upd_same rest l true)) tt),
        size-sub rest (upd (upd rest l true) l false) (λ b k t.
            let ne = (rest_in b t).1 in
            subst T (sym (upd_other (upd rest l true) l false b ne ∙ upd_other rest l true b ne)) t),
      )

      all : size (upd rest l true) ≤ size (m ∩ q)
      all = size-sub (upd rest l true) (m ∩ q) (λ b k. by_cond (λ z. T z → T ((m ∩ q) b)) (eqb b l)
          (λ e _. subst (λ x. T ((m ∩ q) x)) (sym (eqb→eq b l e)) (join-and (m l) (q l) member ql))
          (λ _ t. join-and (m b) (q b) (rest_in b t).0 (f b k t)))

fewer : (n k : ℕ) → 1 ≤ k → n ≤ quorum k - 1 → n < k
fewer n k h f = omega arith

count : (n k j q : ℕ) → k ≡ j → j ≤ q → suc (suc (suc (suc n)) + 515 * k) ≤ n + 4 + 515 * q
count n k j q e h = omega arith

module _ (𝓔 : Entries) (exact : IsExact 𝓔) where
  open 𝓔 use {Entry}

  module _ (r : Registry) (w : T (is_waiting r.status)) (low : r.view.epoch < 4000) where
    abbrev led : T (not (is_choosing r.status))
    led = waits-named r.status w

    abbrev l : ℕ
    l = r.view.leader

    abbrev m : Members
    m = r.view.members

    -- The controller is up to date, and so is the leader.
    record Ready (t : State Entry) : Type 0 where
      known : Known 𝓔 exact r t
      current : t.controller.view.epoch ≡ r.view.epoch
      leader : (t.view l).epoch ≡ r.view.epoch

    informs-leader : {n : ℕ} {d : Draft Entry} → At 𝓔 exact n (Called 𝓔 exact r) d → At 𝓔 exact (suc n) Ready (informs 𝓔 l l d)
    informs-leader {n} {d} k =
        at-so 𝓔 exact Ready new (informs-to 𝓔 exact r l (leader-real 𝓔 exact r led k.is.known) k.is.known k.sound)
      where
        new : {t : State Entry} → Informed 𝓔 exact r l d.state t → Ready t
        new z = record {
          known = z.known;
          current = ap (λ c. c.view.epoch) z.control ∙ k.is.current;
          leader = z.fresh;
        }

    -- The leader is read, or was.
    reads-leader : {n : ℕ} {d : Draft Entry} → At 𝓔 exact n Ready d → At 𝓔 exact (suc n) (Reads 𝓔 exact r led) (reads_leader 𝓔 d)
    unfolding reads_leader
    reads-leader {n} {d} k = by_cond (At 𝓔 exact (suc n) (Reads 𝓔 exact r led)) (in_boards c.stage)
        (λ t. at_most 𝓔 exact (suc n) (omega arith) (at-so 𝓔 exact (Reads 𝓔 exact r led) (λ z. record {
          known = z.known;
          current = z.current;
          stage = eqb→eq (stage_number c.stage) _ t;
          leader = z.leader;
        }) k))
        (λ t. put-to 𝓔 exact (Reads 𝓔 exact r led) (bare 11) k.sound
        (to_read r.status c.stage w ((control-ok 𝓔 exact k.is.known).stage k.is.current) t
        then eq_test (d.state.view c.view.leader).epoch c.view.epoch
        (ap (λ (v : View). (d.state.view v.leader).epoch) cv ∙ k.is.leader ∙ sym k.is.current)
        then tt)
        (λ h. record {
          known = still-known 𝓔 exact k.is.known read_leader refl h;
          current = k.is.current;
          stage = refl;
          leader = k.is.leader;
        }))
      where
        c : Controller
        c = d.state.controller

        cv : c.view ≡ r.view
        cv = (control-ok 𝓔 exact k.is.known).current k.is.current

    -- The leader and the n others make a majority, all heard at the leader's length or more.
    sets-normal : (real : T (is_replica l)) (member : T (m l)) (n : ℕ) (few : n < size m) → quorum (size m) ≤ suc n
        → {k : ℕ} {d : Draft Entry}
        → At 𝓔 exact k (λ t. Reads 𝓔 exact r led t
        × ((x : ℕ) → 1 ≤ x → x ≤ 8 → T (rest m l real member n few x) → Heard 𝓔 exact r led x t)) d
        → At 𝓔 exact (suc k) (λ t. t.registry.status ≡ normal) (put 𝓔 (bare 13) d)
    sets-normal real member n few most {k} {d} a =
        put-to 𝓔 exact (λ t. t.registry.status ≡ normal) (bare 13) a.sound holds (λ _. refl)
      where
        t : State Entry
        t = d.state

        c : Controller
        c = t.controller

        f : Reads 𝓔 exact r led t
        f = a.is.0

        cv : c.view ≡ r.view
        cv = control-view 𝓔 exact r led f

        e : t.registry.view.epoch ≡ r.view.epoch
        e = ap (λ (x : Registry). x.view.epoch) f.known.same

        own : T (heard_enough c l)
        own = to-heard c.heard c.view.leader l (heard-leader 𝓔 exact r led f).0
            (omega (arith, ap (λ (v : View). c.heard v.leader) cv))

        majority : T (has_quorum m (heard_enough c))
        majority = enough m l real member n few most (heard_enough c) own
            (λ b z q. let y = replica-range b z in a.is.1 b y.0 y.1 q)

        holds : Each (checks (outline t) set_normal)
        holds =
            eq_test (stage_number c.stage) 2 f.stage
            then eq_test c.view.epoch t.registry.view.epoch (f.current ∙ sym e)
            then subst (λ (v : View). T (has_quorum v.members (heard_enough c))) (sym cv) majority
            then lt→ltb t.registry.view.epoch 4000 (omega (arith, e)) then tt

    -- The n others in turn, then set normal: n is neither more nor less than makes a majority with the leader.
    ends-normal : (n : ℕ) → n ≤ quorum (size m) - 1 → quorum (size m) ≤ suc n → {k : ℕ} {d : Draft Entry}
        → At 𝓔 exact (suc (suc (suc k))) (Reads 𝓔 exact r led) d
        → At 𝓔 exact (k + 4 + 515 * (quorum (size m) - 1)) (λ t. t.registry.status ≡ normal)
        (put 𝓔 (bare 13) (turns 8 (first_of n (upd m l false)) (follows 𝓔 l) d))
    ends-normal n least most {k} {d} a =
        let real = leader-real 𝓔 exact r led a.is.known in
        let member = leader-member 𝓔 exact r led a.is.known in
        let few = fewer n (size m) (size-some m l real member) least in
        at_most 𝓔 exact _ (count k _ n (quorum (size m) - 1) (rest-size m l real member n few) least)
        (sets-normal real member n few most
        (turns-to 𝓔 exact (rest m l real member n few) (follows 𝓔 l) 515 (Reads 𝓔 exact r led) (Heard 𝓔 exact r led)
        (λ x rx qx n d h. let y = rest_in m l real member _ few x qx in
        at-so 𝓔 exact _ (λ y. record { base = y.0; new = y.1; old = y.2 }) (follows_to 𝓔 exact r led x rx y.0 y.1 h)) a))

  pub waiting-to : {n : ℕ} {d : Draft Entry} → Reached 𝓔 exact d.state → T (is_waiting d.state.registry.status)
      → d.state.registry.view.epoch < 4000 → Sound 𝓔 exact n d
      → At 𝓔 exact (n + 4 + 515 * (quorum (size d.state.registry.view.members) - 1))
      (λ t. t.registry.status ≡ normal) (waiting_part 𝓔 d)
  unfolding waiting_part
  waiting-to {n} {d} k w low z =
      let r = d.state.registry in
      let known : Known 𝓔 exact r d.state = record { reached = k; same = refl } in
      let a = need-to 𝓔 exact (Known 𝓔 exact r) _ (leader-member 𝓔 exact r (led r w low) known) (record { sound = z; is = known }) in
      let b = control-to 𝓔 exact r a.is a.sound in
      ends-normal r w low _ (omega arith) (omega arith) (reads-leader r w low (informs-leader r w low b))
