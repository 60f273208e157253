-- Change leader (5) keeps the invariant: the registry is steady, so more than half of its members hold every safe list.
-- Assumes nothing.
use mathlib.Core.Bool.{true, false, not}
use mathlib.Core.List.{List}
use mathlib.Core.Logic.{inr, ◌≢◌}
use mathlib.Core.Path.{◌≡◌, refl, sym, subst, ap, ◌∙◌}
use Prim.Native.Nat.{ℕ, suc, ◌*◌, ◌≤◌, ◌<◌}
use native.Mathlib.Omega.{arith}
use lib.Dec.{T, leb, eqb, eqb→eq, leb→le, eqb_refl}
use lib.ListN.{length}
use Rattle.model.specs.Prelude.{upd, ◌⊑◌}
use Rattle.model.specs.Members.{Members, is_replica, only, ◌∩◌, size, lowest}
use Rattle.model.specs.State.{outline, Entries, Status, normal, waiting, Stage, idle, leader, Registry, State, is_normal, is_choosing, stage_number}
use Rattle.model.specs.Steps.{change_leader, checks, next, with_registry, succeeded, vacated}
use Rattle.model.proofs.Tests.{Holds, split-and, join-and, by_cond, upd_same, upd_other, upd-twice, upd-idle, is_true}
use Rattle.model.proofs.Prefix.{begins-refl, begins-compare}
use Rattle.model.proofs.Quorum.{overlap, size-without, size-some, lowest-in}
use Rattle.model.proofs.Invariant.{fits, reading, Firm, vacant, steady, reads, electors, holding, Backed, held, read, Ok, Blocked, stuck, Outvoted, SafeIn, Inv}
use Rattle.model.proofs.Static as Static
use Rattle.model.proofs.Static.{o, ◌⇒◌, holding-of, Later, later}
use Rattle.model.proofs.Raise.{raised-views, raised-logs, raised-controller, raised-heard, not-reading, outvoted-under}
use Rattle.model.proofs.Succession.{new-leader, renamed}

normal-named : (g : Status) → T (is_normal g) → T (not (is_choosing g))
normal-named normal t = tt
normal-named waiting t = tt
normal-named Status.choosing t = t

module _ (𝓔 : Entries) where
  open 𝓔 use {Entry}

  module _ {L : ℕ → ℕ} {s : State Entry} (i : Inv L s) where
    open s use {registry, controller, view, joined, acked, log, committed}

    module _ (h : Holds (checks (outline s) change_leader)) where
      abbrev members : Members
      members = registry.view.members

      abbrev left : Members
      left = upd members registry.view.leader false

      two : 2 ≤ size members
      two = leb→le 2 (size members) (h 6)

      firm : Firm registry controller
      firm = steady (h 4) two

      named : registry.view.leader ≡ o i
      named = Static.named i (normal-named registry.status (h 4))

      led : T (members (o i))
      led = i.registry.member (normal-named registry.status (h 4))

      all : electors registry (o i) ≡ members
      all = upd-idle members (o i) true (is_true (members (o i)) led)

      unread : T (reading registry controller) → ⊥
      unread t =
          let z = split-and (eqb controller.view.epoch registry.view.epoch)
          (eqb (stage_number controller.stage) 2) t in
          no-boards registry.status controller.stage (h 4) (eqb→eq (stage_number controller.stage) 2 z.1)
          (i.controller.stage (eqb→eq controller.view.epoch registry.view.epoch z.0))
        where
          no-boards : (g : Status) (x : Stage) → T (is_normal g) → stage_number x ≡ 2 → T (fits g x) → ⊥
          no-boards normal idle t e f = omega arith
          no-boards normal leader t e f = f
          no-boards normal Stage.boards t e f = f
          no-boards normal Stage.choosing t e f = f
          no-boards waiting x t e f = t
          no-boards Status.choosing x t e f = t

      half : (x : List Entry) → SafeIn L s x
          → size (electors registry (o i)) < 2 * size
          (electors registry (o i) ∩ holding joined log registry.view.term (length x))
      half x k = go (k.backed firm)
        where
          go : Backed (o i) registry controller joined log (length x)
              → size (electors registry (o i)) < 2 * size
              (electors registry (o i) ∩ holding joined log registry.view.term (length x))
          go (held l) = l
          go (read t _) = absurd (unread t)

      -- Three or more: nobody is named, and the electors are the members that were.
      to-choosing : Inv L (with_registry s (vacated registry left))
      to-choosing = record {
        real = i.real;
        views = raised-views i L r'.view refl (omega arith) (λ _ _. refl);
        controller = raised-controller i r' refl;
        registry = record { term = omega (arith, i.registry.term); named = refl; member = λ t. absurd t };
        logs = raised-logs i L r'.view refl (omega arith) (λ _ _. refl);
        heard = raised-heard i r' refl;
        leader = record {
          joined = i.leader.joined;
          took = λ _. i.leader.took firm;
          whole = λ _ l. i.leader.whole firm l ∙ sym same-electors;
        };
        safe = safe _ i.safe;
        outvoted = λ a st. outvoted-under i 0 safe firm a st;
      }
        where
          r' : Registry
          r' = vacated registry left

          same-electors : upd left (o i) true ≡ electors registry (o i)
          same-electors = ap (λ x. upd (upd members x false) (o i) true) named ∙ upd-twice members (o i) false true

          safe : SafeIn L s ⇒ Ok (o i) r' controller joined log
          safe x k = record {
            begins = k.begins;
            backed = λ _. held (subst (λ (m : Members). size m < 2 * size
                (m ∩ holding joined log registry.view.term (length x))) (sym same-electors) (half x k));
          }

      -- Two: both hold every safe list, so the one that is left does.
      to-other : size left ≡ 1 → Inv (upd L (suc registry.view.epoch) (lowest left))
          (with_registry s (succeeded registry left))
      to-other one =
          new-leader i firm n in_left.0 left normal controller (known committed i.safe).0 holds loose tt
          in_left.1 (raised-controller i r' refl) (raised-heard i r' refl) newly
        where
          n : ℕ
          n = lowest left

          r' : Registry
          r' = succeeded registry left

          in_left : T (is_replica (lowest left)) × T (left (lowest left))
          in_left = lowest-in left (omega (arith, one))

          other : lowest left ≢ registry.view.leader
          other e = subst T (upd_same members registry.view.leader false) (subst (λ x. T (left x)) e in_left.1)

          member : T (members (lowest left))
          member = subst T (upd_other members registry.view.leader false (lowest left) other) in_left.1

          pair : size members ≡ 2
          pair = omega (
            arith,
            one,
            size-without members (o i) (i.real registry.view.term) led,
            ap (λ x. size (upd members x false)) named,
          )

          mine : 1 ≤ size (members ∩ only (lowest left))
          mine = size-some (members ∩ only (lowest left)) (lowest left) in_left.0
              (join-and (members (lowest left)) (eqb (lowest left) (lowest left)) member (eqb_refl (lowest left)))

          known : (x : List Entry) → SafeIn L s x → (joined (lowest left) ≡ registry.view.term)
              × (length x ≤ length (log (lowest left)))
          known x k =
              let l = subst (λ (m : Members). size m < 2 * size
              (m ∩ holding joined log registry.view.term (length x))) all (half x k) in
              let c = overlap members (only (lowest left)) (holding joined log registry.view.term (length x))
              (omega (arith, mine, pair, l)) in
              holding-of joined log registry.view.term (length x) (lowest left)
              (subst (λ y. T (holding joined log registry.view.term (length x) y))
              (eqb→eq c.replica (lowest left) c.first) c.second)

          holds : SafeIn L s ⇒ (λ x. x ⊑ log (lowest left))
          holds x k = let z = known x k in
              begins-compare k.begins (Static.follows-leader i (i.leader.took firm) (lowest left) z.0) z.1

          loose : Firm r' controller → ⊥
          loose (vacant t) = t
          loose (steady t l) = omega (arith, one)
          loose (reads t) = not-reading i r' refl t

          newly : (view (o i)).leader ≡ o i
              → Outvoted (Ok (lowest left) r' controller joined log) (lowest left) view joined acked log (o i)
          newly l = record {
            some = only (lowest left);
            enough = subst (λ (m : Members). size m ≤ 2 * size (m ∩ only (lowest left)))
                (sym (i.leader.whole firm l ∙ all)) (omega (arith, mine, pair));
            blocked = λ x k t. subst (λ y. Blocked (Ok (lowest left) r' controller joined log) (lowest left)
                (view (o i)) (view y) (acked (o i) y) (joined y) (log (o i)) (log y) y) (sym (eqb→eq x (lowest left) t))
                (stuck (omega (
                  arith,
                  (known committed i.safe).0,
                  (i.views (lowest left)).joined,
                  (i.views (lowest left)).term,
                  i.leader.took firm,
                )) (inr refl)
                (λ _. record { begins = begins-refl (log (lowest left)); backed = λ f. absurd (loose f) }));
          }

      pub change-keeps : Later L s (next 𝓔 s change_leader)
      change-keeps = by_cond (λ (r' : Registry). Later L s (with_registry s r')) (eqb (size left) 1)
          (λ t. renamed (lowest left) (to-other (eqb→eq (size left) 1 t)) (omega arith))
          (λ _. later to-choosing (omega arith))
