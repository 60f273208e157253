-- The waiting part, one member: news, join, receives, read. After them the controller has heard it at the leader's
-- length. Assumes nothing.
use mathlib.Core.Bool.{Bool, true, false, not, cond, ◌&&◌}
use mathlib.Core.List.{List, [], ◌∷◌, ◌++◌}
use mathlib.Core.Logic.{◌≢◌}
use mathlib.Core.Path.{◌≡◌, refl, sym, subst, ap, ◌∙◌}
use Prim.Native.Nat.{ℕ, zero, suc, ◌+◌, ◌≤◌}
use native.Mathlib.Omega.{arith}
use lib.Dec.{T, eqb, eqb→eq, leb, leb→le, le→leb, ltb, lt→ltb, not_T}
use lib.ListN.{length}
use Rattle.model.specs.Prelude.{upd, ◌⊑◌, ◌else◌}
use Rattle.model.specs.Members.{is_replica}
use Rattle.model.specs.State.{outline, Entries, IsExact, View, Registry, Controller, State, is_choosing, stage_number}
use Rattle.model.specs.Steps.{join, receive, read, checks, entry_at, heard_enough}
use Rattle.model.specs.Records.{of}
use Rattle.model.proofs.Tests.{join-and, split-and, eq_test, upd_same, upd_other, is_false}
use Rattle.model.proofs.Prefix.{begins-length, length-snoc}
use Rattle.model.proofs.Quorum.{replica-ne}
use Rattle.model.proofs.Rules.{◌then◌}
use Rattle.model.proofs.Invariant.{RegistryOk, HeardOk}
use Rattle.recovery.specs.Plan.{Draft, times, put, put_unless, informs, receives, follows}
use Rattle.recovery.proofs.Drafts.{Each, At, at_most, at-so, put-to, unless-to}
use Rattle.recovery.proofs.News.{not-less, Known, leaders, view-ok, control-ok, still-known, Informed, informs-to}

not-eq : (x y : ℕ) → x ≢ y → T (not (eqb x y))
not-eq x y n = not_T (eqb x y) (λ t. n (eqb→eq x y t))

not-not : (t : Bool) → T (not (not t)) → T t
not-not true h = tt
not-not false h = h

pub to-heard : (h : ℕ → ℕ) (v x : ℕ) → 1 ≤ h x → h v ≤ h x → T (leb 1 (h x) && leb (h v) (h x))
to-heard h v x a b = join-and (leb 1 (h x)) (leb (h v) (h x)) (le→leb 1 (h x) a) (le→leb (h v) (h x) b)

of-heard : (h : ℕ → ℕ) (v x : ℕ) → T (leb 1 (h x) && leb (h v) (h x)) → (1 ≤ h x) × (h v ≤ h x)
of-heard h v x t =
    let z = split-and (leb 1 (h x)) (leb (h v) (h x)) t in (leb→le 1 (h x) z.0, leb→le (h v) (h x) z.1)

module _ (𝓔 : Entries) (exact : IsExact 𝓔) where
  open 𝓔 use {Entry}

  module _ (r : Registry) (led : T (not (is_choosing r.status))) where
    abbrev l : ℕ
    l = r.view.leader

    -- What is known of the leader that r names.
    module _ {t : State Entry} (k : Known 𝓔 exact r t) where
      registry-ok : RegistryOk (leaders 𝓔 exact k) r
      registry-ok = subst (λ x. RegistryOk (leaders 𝓔 exact k) x) k.same k.reached.inv.registry

      leader-is : l ≡ leaders 𝓔 exact k r.view.term
      leader-is =
          registry-ok.named
          ∙ ap (λ x. cond x 0 (leaders 𝓔 exact k r.view.term)) (is_false (is_choosing r.status) led)

      pub leader-real : T (is_replica l)
      leader-real = subst (λ x. T (is_replica x)) (sym leader-is) (k.reached.inv.real r.view.term)

      pub leader-member : T (r.view.members l)
      leader-member = subst (λ x. T (r.view.members x)) (sym leader-is) (registry-ok.member led)

      -- Who has joined its term has a beginning of its log, once it has taken up that term.
      behind : (b : ℕ) → t.joined b ≡ r.view.term → (t.view l).term ≡ r.view.term → t.log b ⊑ t.log l
      behind b j v =
          let c : leaders 𝓔 exact k (t.joined b) ≡ l = ap (leaders 𝓔 exact k) j ∙ sym leader-is in
          subst (λ x. t.log b ⊑ t.log x) c
          (k.reached.inv.logs.follows b (ap (λ x. (t.view x).term) c ∙ v ∙ sym j))

    -- The controller reads boards, and the leader is up to date.
    pub record Reads (t : State Entry) : Type 0 where
      pub known : Known 𝓔 exact r t
      pub current : t.controller.view.epoch ≡ r.view.epoch
      pub stage : stage_number t.controller.stage ≡ 2
      pub leader : (t.view l).epoch ≡ r.view.epoch

    -- It has heard x, at the leader's length or more.
    abbrev pub Heard : ℕ → State Entry → Type 0
    Heard x t = T (heard_enough t.controller x)

    module _ {t : State Entry} (k : Reads t) where
      pub control-view : t.controller.view ≡ r.view
      control-view = (control-ok 𝓔 exact k.known).current k.current

      leader-view : t.view l ≡ r.view
      leader-view = (view-ok 𝓔 exact k.known l).current k.leader

      -- The leader was heard, at a length that it still has.
      pub heard-leader : (1 ≤ t.controller.heard l) × (t.controller.heard l ≤ suc (length (t.log l)))
      heard-leader =
          let one : 1 ≤ t.controller.heard l =
          subst (λ (v : View). 1 ≤ t.controller.heard v.leader) control-view
          (k.known.reached.poised.heedful k.stage) in
          let ok = subst (λ x. HeardOk x t.controller t.view t.joined t.log) k.known.same
          k.known.reached.inv.heard in
          (one, (ok.read k.current (λ e. omega (arith, k.stage)) l (leader-member k.known) one).1)

    -- What the turn of b does: it is heard, and who was heard before still is.
    abbrev pub Followed : ℕ → State Entry → State Entry → Type 0
    Followed b t₀ t = Reads t × Heard b t × ((x : ℕ) → x ≢ b → Heard x t₀ → Heard x t)

    module _ (b : ℕ) (real : T (is_replica b)) (member : T (r.view.members b)) (other : b ≢ l) where
      -- b is up to date,
      record Fresh (t₀ t : State Entry) : Type 0 where
        reads : Reads t
        control : t.controller ≡ t₀.controller
        fresh : (t.view b).epoch ≡ r.view.epoch

      -- and has joined,
      record Joined (t₀ t : State Entry) : Type 0 where
        base : Fresh t₀ t
        joined : t.joined b ≡ r.view.term

      -- and lacks n entries.
      record Lacks (n : ℕ) (t₀ t : State Entry) : Type 0 where
        base : Joined t₀ t
        lens : length (t.log l) ≡ length (t.log b) + n

      -- The checks of steps 7 and 8, of a board that has the registry's view.
      module _ {t₀ t : State Entry} (k : Fresh t₀ t) where
        its_view : t.view b ≡ r.view
        its_view = (view-ok 𝓔 exact k.reads.known b).current k.fresh

        its-leader : (t.view b).leader ≡ l
        its-leader = ap (λ v. v.leader) its_view

        follows_test : T (not (eqb (t.view b).leader 0) && not (eqb (t.view b).leader b))
        follows_test = subst (λ x. T (not (eqb x 0) && not (eqb x b))) (sym its-leader)
            (join-and (not (eqb l 0)) (not (eqb l b)) (not-eq l 0 (replica-ne l (leader-real k.reads.known)))
            (not-eq l b (λ e. other (sym e))))

        member-test : T ((t.view b).members b)
        member-test = subst (λ (v : View). T (v.members b)) (sym its_view) member

        leader-test : T ((t.view (t.view b).leader).members b)
        leader-test = subst (λ x. T ((t.view x).members b)) (sym its-leader)
            (subst (λ (v : View). T (v.members b)) (sym (leader-view k.reads)) member)

        term-test : T (eqb (t.view b).term (t.view (t.view b).leader).term)
        term-test = eq_test (t.view b).term (t.view (t.view b).leader).term
            (ap (λ v. v.term) its_view
            ∙ sym (ap (λ x. (t.view x).term) its-leader ∙ ap (λ v. v.term) (leader-view k.reads)))

      news : {n : ℕ} {d : Draft Entry} → At 𝓔 exact n Reads d → At 𝓔 exact (suc n) (Fresh d.state) (informs 𝓔 l b d)
      news {n} {d} k = at-so 𝓔 exact (Fresh d.state) new (informs-to 𝓔 exact r b real k.is.known k.sound)
        where
          new : {t : State Entry} → Informed 𝓔 exact r b d.state t → Fresh d.state t
          new z = record {
            reads = record {
              known = z.known;
              current = ap (λ c. c.view.epoch) z.control ∙ k.is.current;
              stage = ap (λ c. stage_number c.stage) z.control ∙ k.is.stage;
              leader = z.still l k.is.leader;
            };
            control = z.control;
            fresh = z.fresh;
          }

      -- The join, left out where it is refused i: 11, if b has joined.
      joins-to : (t₀ : State Entry) (i : ℕ) → i ≡ 11 → {n : ℕ} {d : Draft Entry} → At 𝓔 exact n (Fresh t₀) d
          → At 𝓔 exact (suc n) (Joined t₀) (put_unless 𝓔 i (of 7 b) d)
      joins-to t₀ i is {n} {d} k =
          subst (λ i. At 𝓔 exact (suc n) (Joined t₀) (put_unless 𝓔 i (of 7 b) d)) (sym is)
          (unless-to 𝓔 exact (Joined t₀) (of 7 b) (
          (is_replica b else 1)
          ∷ (not (eqb (t.view b).leader 0) && not (eqb (t.view b).leader b) else 9)
          ∷ ((t.view b).members b else 5)
          ∷ (eqb (t.view b).term (t.view (t.view b).leader).term else 10) ∷ []
          ) (not (eqb (t.joined b) (t.view b).term)) 11 k.sound refl
          (real then follows_test f then member-test f then term-test f then tt) tt
          (λ h. record {
            base = record {
              reads = record {
                known = still-known 𝓔 exact f.reads.known (join b) refl h;
                current = f.reads.current;
                stage = f.reads.stage;
                leader = f.reads.leader;
              };
              control = f.control;
              fresh = f.fresh;
            };
            joined = upd_same t.joined b (t.view b).term ∙ term;
          })
          (λ z. record {
            base = f;
            joined = eqb→eq (t.joined b) (t.view b).term (not-not (eqb (t.joined b) (t.view b).term) z) ∙ term;
          }))
        where
          t : State Entry
          t = d.state

          f : Fresh t₀ t
          f = k.is

          term : (t.view b).term ≡ r.view.term
          term = ap (λ v. v.term) (its_view f)

      grown : (log : ℕ → List Entry) (x : Entry) (i : ℕ) → length (log l) ≡ length (log b) + suc i
          → length (upd log b (log b ++ (x ∷ [])) l) ≡ length (upd log b (log b ++ (x ∷ [])) b) + i
      grown log x i h = omega (
        arith,
        ap length (upd_other log b (log b ++ (x ∷ [])) l (λ e. other (sym e))),
        ap length (upd_same log b (log b ++ (x ∷ []))),
        length-snoc (log b) x,
      )

      -- A receive: one entry less is lacking.
      receive-to : (t₀ : State Entry) (i : ℕ) {n : ℕ} {d : Draft Entry} → At 𝓔 exact n (Lacks (suc i) t₀) d
          → At 𝓔 exact (suc n) (Lacks i t₀) (put 𝓔 (of 8 b) d)
      receive-to t₀ i {n} {d} k = put-to 𝓔 exact (Lacks i t₀) (of 8 b) k.sound holds (λ h. record {
        base = record {
          base = record {
            reads = record {
              known = still-known 𝓔 exact f.reads.known (receive b) refl h;
              current = f.reads.current;
              stage = f.reads.stage;
              leader = f.reads.leader;
            };
            control = f.control;
            fresh = f.fresh;
          };
          joined = k.is.base.joined;
        };
        lens = grown t.log (entry_at 𝓔 t (t.view b).leader (length (t.log b))) i k.is.lens;
      })
        where
          t : State Entry
          t = d.state

          f : Fresh t₀ t
          f = k.is.base.base

          has-joined : T (eqb (t.joined b) (t.view b).term)
          has-joined = eq_test (t.joined b) (t.view b).term
              (k.is.base.joined ∙ sym (ap (λ v. v.term) (its_view f)))

          shorter : T (ltb (length (t.log b)) (length (t.log (t.view b).leader)))
          shorter = subst (λ x. T (ltb (length (t.log b)) (length (t.log x)))) (sym (its-leader f))
              (lt→ltb (length (t.log b)) (length (t.log l)) (omega (arith, k.is.lens)))

          holds : Each (checks (outline t) (receive b))
          holds =
              real then follows_test f
              then join-and ((t.view b).members b) ((t.view (t.view b).leader).members b) (member-test f)
              (leader-test f)
              then term-test f then has-joined then shorter then tt

      receives-all : (t₀ : State Entry) (i : ℕ) {n : ℕ} {d : Draft Entry} → At 𝓔 exact n (Lacks i t₀) d
          → At 𝓔 exact (n + i) (Lacks 0 t₀) (times i (put 𝓔 (of 8 b)) d)
      unfolding times
      receives-all t₀ zero {n} {d} k = at_most 𝓔 exact (n + 0) (omega arith) k
      receives-all t₀ (suc i) {n} {d} k = at_most 𝓔 exact (n + suc i) (omega arith) (receives-all t₀ i (receive-to t₀ i k))

      -- As many receives as it lacks entries: 512 at most.
      receives-to : (t₀ : State Entry) {n : ℕ} {d : Draft Entry} → At 𝓔 exact n (Joined t₀) d
          → At 𝓔 exact (n + 512) (Lacks 0 t₀) (receives 𝓔 l b d)
      unfolding receives
      receives-to t₀ {n} {d} k =
          at_most 𝓔 exact (n + 512) (omega (arith, k.is.base.reads.known.reached.bounds.logs.log l))
          (receives-all t₀ _ (at-so 𝓔 exact (Lacks _ t₀) (λ z. record { base = z; lens = omega (arith, short) }) k))
        where
          short : length (d.state.log b) ≤ length (d.state.log l)
          short = begins-length (behind k.is.base.reads.known b k.is.joined
              (ap (λ v. v.term) (leader-view k.is.base.reads)))

      -- The reading, left out if b was heard at its length.
      reads-to : (t₀ : State Entry) {n : ℕ} {d : Draft Entry} → At 𝓔 exact n (Lacks 0 t₀) d
          → At 𝓔 exact (suc n) (Followed b t₀) (put_unless 𝓔 12 (of 12 b) d)
      reads-to t₀ {n} {d} k =
          unless-to 𝓔 exact (Followed b t₀) (of 12 b) (
          (is_replica b else 1)
          ∷ (eqb (stage_number c.stage) 2 else 15)
          ∷ (not (eqb b c.view.leader) else 6)
          ∷ (c.view.members b else 5)
          ∷ (eqb (t.joined b) c.view.term else 11) ∷ []
          ) (ltb (c.heard b) n') 12 k.sound refl
          (real then eq_test (stage_number c.stage) 2 f.stage then not-eq b c.view.leader aside
          then subst (λ (v : View). T (v.members b)) (sym cv) member
          then eq_test (t.joined b) c.view.term (k.is.base.joined ∙ sym (ap (λ v. v.term) cv)) then tt) tt
          (λ h. (
            record {
              known = still-known 𝓔 exact f.known (read b) refl h;
              current = f.current;
              stage = f.stage;
              leader = f.leader;
            },
            to-heard (upd c.heard b n') c.view.leader b (omega (arith, now)) (omega (arith, now, bar, most)),
            λ x ne old.
                let z = of-heard c.heard c.view.leader x (still x old) in
                let e : upd c.heard b n' x ≡ c.heard x = upd_other c.heard b n' x ne in
                to-heard (upd c.heard b n') c.view.leader x (omega (arith, e, z)) (omega (arith, e, bar, z)),
          ))
          (λ z. (
            f,
            to-heard c.heard c.view.leader b (omega (arith, not-less (c.heard b) n' z))
                (omega (arith, not-less (c.heard b) n' z, most)),
            λ x _ old. still x old,
          ))
        where
          t : State Entry
          t = d.state

          f : Reads t
          f = k.is.base.base.reads

          c : Controller
          c = t.controller

          cv : c.view ≡ r.view
          cv = control-view f

          aside : b ≢ c.view.leader
          aside e = other (e ∙ ap (λ v. v.leader) cv)

          n' : ℕ
          n' = suc (length (t.log b))

          now : upd c.heard b n' b ≡ suc (length (t.log b))
          now = upd_same c.heard b n'

          bar : upd c.heard b n' c.view.leader ≡ c.heard c.view.leader
          bar = upd_other c.heard b n' c.view.leader (λ e. aside (sym e))

          -- The leader was heard at no more than b now has, which is all that the leader has.
          most : c.heard c.view.leader ≤ suc (length (t.log b))
          most = omega (arith, (heard-leader f).1, ap (λ (v : View). c.heard v.leader) cv, k.is.lens)

          still : (x : ℕ) → Heard x t₀ → Heard x t
          still x h = subst (λ y. T (heard_enough y x)) (sym k.is.base.base.control) h

      -- The turn of b: at most 515 records.
      pub follows_to : {n : ℕ} {d : Draft Entry} → At 𝓔 exact n Reads d
          → At 𝓔 exact (n + 515) (Followed b d.state) (follows 𝓔 l b d)
      unfolding follows
      follows_to {n} {d} k = at_most 𝓔 exact (n + 515) (omega arith)
          (reads-to d.state (receives-to d.state (joins-to d.state _ (omega arith) (news k))))
