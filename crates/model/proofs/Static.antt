-- What the invariant says of one state, before any step. Assumes nothing.
use mathlib.Core.Bool.{not, cond}
use mathlib.Core.List.{List}
use mathlib.Core.Logic.{◌⊎◌, inl, inr, ◌≢◌}
use mathlib.Core.Path.{◌≡◌, refl, sym, subst, ap, ◌∙◌}
use Prim.Native.Nat.{ℕ, ◌≤◌, ◌<◌}
use native.Mathlib.Omega.{arith}
use lib.Dec.{T, leb, eqb, eqb→eq, leb→le, le→leb, T_not}
use lib.ListN.{length, take}
use Rattle.model.specs.Prelude.{◌⊑◌}
use Rattle.model.specs.Members.{Members, is_replica, ◌∩◌, size}
use Rattle.model.specs.State.{View, Status, Stage, idle, leader, boards, Registry, Controller, State, is_choosing, stage_number}
use Rattle.model.proofs.Tests.{split-and, join-and, by-test, by_cond, eq_test, le-or-lt, is_true, is_false}
use Rattle.model.proofs.Prefix.{begins-nil, begins-trans, begins-take, begins-length, begins-compare, take-grown}
use Rattle.model.proofs.Quorum.{overlap, meet-sub, has_quorum, quorum-half, size-with}
use Rattle.model.proofs.Invariant.{fits, reading, Firm, electors, holding, Backed, held, read, Ok, Blocked, passed, stuck, Outvoted, SafeIn, Inv}

pub chooses : (g : Status) (x : Stage) → stage_number x ≡ 3 → T (fits g x) → T (is_choosing g)
chooses g idle n t = absurd (omega arith)
chooses g leader n t = absurd (omega arith)
chooses g boards n t = absurd (omega arith)
chooses g Stage.choosing n t = t

module _ {E : Type 0} where
  -- whatever list is safe in the one sense is safe in the other
  infix 30 ◌⇒◌
  abbrev pub ◌⇒◌ : (List E → Type 0) → (List E → Type 0) → Type 0
  ◌⇒◌ S S' = (x : List E) → S x → S' x

  pub holding-of : (joined : ℕ → ℕ) (log : ℕ → List E) (t n b : ℕ) → T (holding joined log t n b) → (joined b ≡ t)
      × (n ≤ length (log b))
  holding-of joined log t n b h =
      let z = split-and (eqb (joined b) t) (leb n (length (log b))) h in
      (eqb→eq (joined b) t z.0, leb→le n (length (log b)) z.1)

  pub to-holding : (joined : ℕ → ℕ) (log : ℕ → List E) (t n b : ℕ) → joined b ≡ t → n ≤ length (log b)
      → T (holding joined log t n b)
  to-holding joined log t n b e h =
      join-and (eqb (joined b) t) (leb n (length (log b))) (eq_test (joined b) t e) (le→leb n (length (log b)) h)

  -- A safe list stays safe where the leader's log and those of the replicas that have joined only grow.
  pub ok-grows : {o : ℕ} {r : Registry} {c : Controller} {joined joined' : ℕ → ℕ} {log log' : ℕ → List E}
      → log o ⊑ log' o
      → ((b : ℕ) → joined b ≡ r.view.term → (joined' b ≡ r.view.term) × (length (log b) ≤ length (log' b)))
      → Ok o r c joined log ⇒ Ok o r c joined' log'
  ok-grows {o} {r} {c} {joined} {joined'} {log} {log'} g f x h =
      record { begins = begins-trans h.begins g; backed = λ k. go (h.backed k) }
    where
      more : size (electors r o ∩ holding joined log r.view.term (length x)) ≤ size
          (electors r o ∩ holding joined' log' r.view.term (length x))
      more =
          meet-sub (electors r o) (holding joined log r.view.term (length x)) (electors r o)
          (holding joined' log' r.view.term (length x))
          (λ b k m t. let y = holding-of joined log r.view.term (length x) b t in let z = f b y.0 in
          (m, to-holding joined' log' r.view.term (length x) b z.0 (omega (arith, y.1, z.1))))

      go : Backed o r c joined log (length x) → Backed o r c joined' log' (length x)
      go (held m) = held (omega (arith, more))
      go (read t n) = read t n

  -- A beginning of a safe list is safe.
  pub ok-less : {o : ℕ} {r : Registry} {c : Controller} {joined : ℕ → ℕ} {log : ℕ → List E} {x y : List E} → x ⊑ y
      → Ok o r c joined log y → Ok o r c joined log x
  ok-less {o} {r} {c} {joined} {log} {x} {y} p h =
      record { begins = begins-trans p h.begins; backed = λ k. go (h.backed k) }
    where
      more : size (electors r o ∩ holding joined log r.view.term (length y)) ≤ size
          (electors r o ∩ holding joined log r.view.term (length x))
      more =
          meet-sub (electors r o) (holding joined log r.view.term (length y)) (electors r o)
          (holding joined log r.view.term (length x))
          (λ b k m t. let z = holding-of joined log r.view.term (length y) b t in
          (m, to-holding joined log r.view.term (length x) b z.0 (omega (arith, z.1, begins-length p))))

      go : Backed o r c joined log (length y) → Backed o r c joined log (length x)
      go (held m) = held (omega (arith, more))
      go (read t n) = read t (omega (arith, begins-length p))

  -- Who is blocked stays so where safe lists stay safe.
  pub still-blocked : {S S' : List E → Type 0} → (S ⇒ S') → {l : ℕ} {v w : View} {n j : ℕ} {la lb : List E} {b : ℕ}
      → Blocked S l v w n j la lb b → Blocked S' l v w n j la lb b
  still-blocked f (passed lt n safe) = passed lt n (f _ safe)
  still-blocked f (stuck e w safe) = stuck e w (λ j. f _ (safe j))

  pub still-outvoted : {S S' : List E → Type 0} → (S ⇒ S')
      → {l : ℕ} {view : ℕ → View} {joined : ℕ → ℕ} {acked : ℕ → ℕ → ℕ} {log : ℕ → List E} {a : ℕ}
      → Outvoted S l view joined acked log a → Outvoted S' l view joined acked log a
  still-outvoted f out = record {
    some = out.some;
    enough = out.enough;
    blocked = λ b k t. still-blocked f (out.blocked b k t);
  }

module _ {E : Type 0} {L : ℕ → ℕ} {s : State E} (i : Inv L s) where
  open s use {registry, controller, view, joined, acked, log, committed}

  -- the leader of the registry's term
  abbrev pub o : ℕ
  o = L registry.view.term

  -- A replica that holds itself leader is the one that was named for its term.
  pub acting : (a : ℕ) → a ≢ 0 → (view a).leader ≡ a → L (view a).term ≡ a
  acting a n e = sym ((i.views a).led (λ z. n (sym e ∙ z))) ∙ e

  -- The registry names the leader of its term, or nobody.
  pub named : T (not (is_choosing registry.status)) → registry.view.leader ≡ o
  named t = i.registry.named ∙ ap (λ x. cond x 0 o) (is_false (is_choosing registry.status) t)

  pub vacant : T (is_choosing registry.status) → registry.view.leader ≡ 0
  vacant t = i.registry.named ∙ ap (λ x. cond x 0 o) (is_true (is_choosing registry.status) t)

  pub named-only : registry.view.leader ≢ 0 → registry.view.leader ≡ o
  named-only n = by-test (is_choosing registry.status) (λ t. absurd (n (vacant t))) named

  -- What a stale leader has counted of a blocked replica is safe: it is nothing, or that replica's log has not moved
  -- since.
  pub counted : {a b : ℕ} → L (view a).term ≡ a
      → Blocked (SafeIn L s) registry.view.leader (view a) (view b) (acked a b) (joined b) (log a) (log b) b
      → (acked a b ≤ length (log a)) × SafeIn L s (take (acked a b) (log a))
  counted {a} {b} e (passed h n x) = (n, x)
  counted {a} {b} e (stuck same still safe) = go (le-or-lt (view a).term (joined b))
    where
      go : ((view a).term ≤ joined b) ⊎ (joined b < (view a).term) → (acked a b ≤ length (log a))
          × SafeIn L s (take (acked a b) (log a))
      go (inr lt) =
          let z = (i.logs.counts a b e).early lt in
          subst (λ n. (n ≤ length (log a)) × SafeIn L s (take n (log a))) (sym z)
          (omega arith, ok-less (begins-nil committed) i.safe)
      go (inl le) =
          let j : joined b ≡ (view a).term = omega (arith, (i.views b).joined) in
          let n = (i.logs.counts a b e).now j in
          let c : L (joined b) ≡ a = ap L j ∙ e in
          let f : log b ⊑ log a = subst (λ x. log b ⊑ log x) c
          (i.logs.follows b (ap (λ x. (view x).term) c ∙ sym j)) in (
            omega (arith, n, begins-length f),
            subst (SafeIn L s) (sym (take-grown (acked a b) f n)) (ok-less (begins-take (acked a b) (log b)) (safe j)),
          )

  -- While it is choosing, a replica that is up to date follows nobody.
  pub frozen : controller.view.epoch ≡ registry.view.epoch → stage_number controller.stage ≡ 3 → (b : ℕ)
      → (view b).epoch ≡ registry.view.epoch → (view b).leader ≡ 0
  frozen e g b h =
      ap (λ v. v.leader) ((i.views b).current h)
      ∙ vacant (chooses registry.status controller.stage g (i.controller.stage e))

  -- Who has joined the registry's term follows its leader, once that leader has taken it up.
  pub follows-leader : (view o).term ≡ registry.view.term → (b : ℕ) → joined b ≡ registry.view.term → log b ⊑ log o
  follows-leader e b j =
      subst (λ t. log b ⊑ log (L t)) j (i.logs.follows b (subst (λ t. (view (L t)).term ≡ t) (sym j) e))

  -- A member within q whose log begins with x.
  pub record Holder (q : Members) (x : List E) : Type 0 where
    pub replica : ℕ
    pub real : T (is_replica replica)
    pub member : T (registry.view.members replica)
    pub inside : T (q replica)
    pub joins : joined replica ≡ registry.view.term
    pub holds : x ⊑ log replica

  -- Where the leader may be replaced and is not being read, every quorum of the members has one that holds a safe list.
  pub witness : Firm registry controller → T (not (reading registry controller)) → {x : List E} → SafeIn L s x
      → (q : Members) → T (has_quorum registry.view.members q) → Holder q x
  witness f n {x} k q t = go (k.backed f)
    where
      m : Members
      m = registry.view.members

      in_k : (b : ℕ) → T (m b) → T (electors registry o b)
      in_k b h = by_cond T (eqb b o) (λ _. tt) (λ _. h)

      go : Backed o registry controller joined log (length x) → Holder q x
      go (read r _) = absurd (T_not (reading registry controller) n r)
      go (held h) =
          let c = overlap (electors registry o) (m ∩ q) (holding joined log registry.view.term (length x))
          (omega (
            arith,
            quorum-half m q t,
            size-with m o (i.real registry.view.term),
            h,
            meet-sub m q (electors registry o) (m ∩ q) (λ b _ mb qb. (in_k b mb, join-and (m b) (q b) mb qb)),
          )) in
          let y = split-and (m c.replica) (q c.replica) c.first in
          let z = holding-of joined log registry.view.term (length x) c.replica c.second in
          record {
            replica = c.replica;
            real = c.real;
            member = y.0;
            inside = y.1;
            joins = z.0;
            holds = begins-compare k.begins (follows-leader (i.leader.took f) c.replica z.0) z.1;
          }

-- A state that a step leads to, with a history that agrees with the old one up to the old epoch.
pub record Later {E : Type 0} (L : ℕ → ℕ) (s s' : State E) : Type 0 where
  pub history : ℕ → ℕ
  pub inv : Inv history s'
  pub same : (t : ℕ) → t ≤ s.registry.view.epoch → history t ≡ L t
  pub grows : s.registry.view.epoch ≤ s'.registry.view.epoch

-- The history stays.
pub later : {E : Type 0} {L : ℕ → ℕ} {s s' : State E} → Inv L s' → s.registry.view.epoch ≤ s'.registry.view.epoch
    → Later L s s'
later {L} i h = record { history = L; inv = i; same = λ _ _. refl; grows = h }
