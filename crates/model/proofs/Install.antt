-- Install (15) keeps the invariant: the highest ranked of a quorum holds every safe list. Assumes nothing.
use mathlib.Core.Bool.{false, not, ◌&&◌}
use mathlib.Core.List.{List}
use mathlib.Core.Logic.{inl}
use mathlib.Core.Path.{◌≡◌, sym, subst, ap, ◌∙◌}
use Prim.Native.Nat.{ℕ, suc, ◌*◌, ◌≤◌}
use native.Mathlib.Omega.{arith}
use lib.Dec.{T, leb, ltb, eqb, eqb→eq, leb→le, nltb→le}
use lib.ListN.{length}
use Rattle.model.specs.Prelude.{◌⊑◌}
use Rattle.model.specs.Members.{Members, ◌∩◌, size}
use Rattle.model.specs.State.{outline, Entries, View, waiting, leader, Registry, Controller, State, is_choosing, stage_number}
use Rattle.model.specs.Steps.{install, checks, next, above, ranked_not_above}
use Rattle.model.proofs.Tests.{Holds, split-and, join-and, by-test, by_cond, not_left, not_right, not-both, eq_test}
use Rattle.model.proofs.Prefix.{begins-trans, begins-compare}
use Rattle.model.proofs.Quorum.{meet-sub, has_quorum, quorum-half, size-with}
use Rattle.model.proofs.Invariant.{reading, Firm, vacant, steady, reads, electors, read, Ok, Blocked, stuck, Outvoted, SafeIn, Inv}
use Rattle.model.proofs.Static as Static
use Rattle.model.proofs.Static.{o, ◌⇒◌, chooses, frozen, Holder, witness, Later}
use Rattle.model.proofs.Succession.{new-leader, renamed}

module _ (𝓔 : Entries) where
  open 𝓔 use {Entry}

  module _ {L : ℕ → ℕ} {s : State Entry} (i : Inv L s) where
    open s use {registry, controller, view, joined, acked, log, committed}

    module _ (b : ℕ) (h : Holds (checks (outline s) (install b))) where
      abbrev m : Members
      m = registry.view.members

      abbrev behind : Members
      behind = ranked_not_above controller b

      at-choosing : stage_number controller.stage ≡ 3
      at-choosing = eqb→eq (stage_number controller.stage) 3 (h 15)

      now : controller.view.epoch ≡ registry.view.epoch
      now = eqb→eq controller.view.epoch registry.view.epoch (h 16)

      current : controller.view ≡ registry.view
      current = i.controller.current now

      open-office : T (is_choosing registry.status)
      open-office = chooses registry.status controller.stage at-choosing (i.controller.stage now)

      asked : T (leb 1 (controller.heard b)) × T (has_quorum controller.view.members behind)
      asked = split-and (leb 1 (controller.heard b)) (has_quorum controller.view.members behind) (h 14)

      quorum : T (has_quorum m behind)
      quorum = subst (λ (v : View). T (has_quorum v.members behind)) current asked.1

      member : T (m b)
      member = subst (λ (v : View). T (v.members b)) current (h 5)

      -- what was heard of a member still stands
      abbrev Stands : ℕ → Type 0
      Stands x =
          ((view x).epoch ≡ registry.view.epoch) × (controller.heard x ≡ suc (length (log x)))
          × (joined x ≡ controller.heard_joined x)

      stands : (x : ℕ) → T (m x) → T (leb 1 (controller.heard x)) → Stands x
      stands x k t = i.heard.heard now at-choosing x k (leb→le 1 (controller.heard x) t)

      behind-of : (x : ℕ) → T (behind x) → T (leb 1 (controller.heard x)) × T (not (above controller b x))
      behind-of x t = split-and (leb 1 (controller.heard x)) (not (above controller b x)) t

      -- and it follows nobody
      pub install-stands : (x : ℕ) → T (controller.view.members x) → T (behind x) → Stands x × ((view x).leader ≡ 0)
      install-stands x k t =
          let z = stands x (subst (λ (v : View). T (v.members x)) current k) (behind-of x t).0 in
          (z, frozen i now at-choosing x z.0)

      -- b ranks as high as x: if x has joined the term, so has b, and b's log is no shorter
      rank : (x : ℕ) → T (m x) → T (behind x) → joined x ≡ registry.view.term → (joined b ≡ registry.view.term)
          × (length (log x) ≤ length (log b))
      rank x k t j =
          let z = behind-of x t in
          let sx = stands x k z.0 in
          let sb = stands b member asked.0 in
          let lower = ltb (controller.heard_joined b) (controller.heard_joined x) in
          let shorter = eqb (controller.heard_joined b) (controller.heard_joined x)
          && ltb (controller.heard b) (controller.heard x) in
          let hj = nltb→le (controller.heard_joined b) (controller.heard_joined x) (not_left lower shorter z.1) in
          let jb : joined b ≡ registry.view.term =
          omega (arith, sx.2, sb.2, (i.views b).joined, (i.views b).term) in
          let hl = nltb→le (controller.heard b) (controller.heard x)
          (not-both (eqb (controller.heard_joined b) (controller.heard_joined x))
          (ltb (controller.heard b) (controller.heard x)) (not_right lower shorter z.1)
          (eq_test (controller.heard_joined b) (controller.heard_joined x) (sym sb.2 ∙ jb ∙ sym j ∙ sx.2))) in
          (jb, omega (arith, sx.1, sb.1))

      firm : Firm registry controller
      firm = vacant open-office

      follows : (x : ℕ) → joined x ≡ registry.view.term → log x ⊑ log (o i)
      follows = Static.follows-leader i (i.leader.took firm)

      -- some member of the quorum holds a safe list, and so does b
      holder : {x : List Entry} → SafeIn L s x → Holder i behind x
      holder k = witness i firm (by-test (reading registry controller)
          (λ t. absurd (omega (
            arith,
            at-choosing,
            eqb→eq (stage_number controller.stage) 2
                (split-and (eqb controller.view.epoch registry.view.epoch)
                (eqb (stage_number controller.stage) 2)
                t).1,
          )))
          (λ t. t)) k behind quorum

      joins : joined b ≡ registry.view.term
      joins = let w = holder i.safe in (rank w.replica w.member w.inside w.joins).0

      above-all : (x : ℕ) → T (m x) → T (behind x) → joined x ≡ registry.view.term → log x ⊑ log b
      above-all x k t j = begins-compare (follows x j) (follows b joins) (rank x k t j).1

      holds : SafeIn L s ⇒ (λ x. x ⊑ log b)
      holds x k =
          let w = holder k in begins-trans w.holds (above-all w.replica w.member w.inside w.joins)

      abbrev c' : Controller
      c' = (next 𝓔 s (install b)).controller

      abbrev r' : Registry
      r' = (next 𝓔 s (install b)).registry

      loose : Firm r' c' → ⊥
      loose (vacant t) = t
      loose (steady t l) = t
      loose (reads t) = (split-and (eqb (suc registry.view.epoch) (suc registry.view.epoch)) false t).1

      -- Those behind the new leader have its log or less of the term's, and follow nobody until they take the next
      -- news.
      newly : (view (o i)).leader ≡ o i → Outvoted (Ok b r' c' joined log) b view joined acked log (o i)
      newly l = record {
        some = m ∩ behind;
        enough = subst (λ (k : Members). size k ≤ 2 * size (k ∩ (m ∩ behind))) (sym (i.leader.whole firm l))
            (omega (
              arith,
              quorum-half m behind quorum,
              size-with m (o i) (i.real registry.view.term),
              meet-sub m behind (electors registry (o i)) (m ∩ behind)
                  (λ x _ k t. (by_cond T (eqb x (o i)) (λ _. tt) (λ _. k), join-and (m x) (behind x) k t)),
            ));
        blocked = λ x _ t. let z = split-and (m x) (behind x) t in go x z.0 z.1;
      }
        where
          go : (x : ℕ) → T (m x) → T (behind x)
              → Blocked (Ok b r' c' joined log) b (view (o i)) (view x) (acked (o i) x) (joined x) (log (o i)) (log x) x
          go x k t =
              let v : view x ≡ registry.view = (i.views x).current (stands x k (behind-of x t).0).0 in
              stuck (ap (λ y. y.term) v ∙ sym (i.leader.took firm))
              (inl (ap (λ y. y.leader) v ∙ Static.vacant i open-office))
              (λ j. record { begins = above-all x k t (j ∙ i.leader.took firm); backed = λ f. absurd (loose f) })

      pub install-keeps : Later L s (next 𝓔 s (install b))
      install-keeps = renamed b (new-leader i firm b (h 1) m waiting c' joins holds loose tt member
          (record {
            epoch = omega arith;
            stage = λ _. tt;
            current = λ _. ap (λ (v : View). record {
              epoch = suc registry.view.epoch;
              term = suc registry.view.epoch;
              leader = b;
              members = v.members;
            }) current;
          })
          (record { read = λ _ _ x _ k. absurd (omega arith); heard = λ _ _ x _ k. absurd (omega arith) }) newly)
          (omega arith)
