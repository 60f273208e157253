-- Under a later leader than the first, a replica that was not a member under it is late: it was not at that leader's
-- term before, and can neither join it nor be its leader. Assumes nothing.
use mathlib.Core.Bool.{false, not, ◌&&◌}
use mathlib.Core.List.{List, [], ◌∷◌}
use mathlib.Core.Logic.{◌≢◌}
use mathlib.Core.Path.{◌≡◌, refl, sym, subst, ap, ◌∙◌}
use Prim.Native.Nat.{ℕ, suc, ◌≤◌, ◌<◌}
use native.Mathlib.Omega.{arith}
use lib.Dec.{T, eqb, eqb→eq, T_not}
use borrow.Author.Tests.{ne_eqb}
use Rattle.model.specs.Prelude.{upd, ◌⊑◌}
use Rattle.model.specs.Members.{is_replica, size}
use Rattle.model.specs.State.{outline, Entries, IsExact, View, State, Registry, is_choosing}
use Rattle.model.specs.Steps.{Step, append, commit, add, remove, change_leader, refresh, join, receive, acknowledge, refresh_controller, read_leader, read, set_normal, hear, install, malformed, checks, next, accepted, step}
use Rattle.model.specs.Runs.{run}
use Rattle.model.proofs.Tests.{Holds, facts, is_true, is_false, split-and, by-test, by_cond, at-or, eqb_same}
use Rattle.model.proofs.Prefix.{begins-nil}
use Rattle.model.proofs.Quorum.{replica-ne}
use Rattle.model.proofs.Invariant.{Inv}
use Rattle.model.proofs.Static.{named, vacant}
use Rattle.model.proofs.Theorem.{step_keeps}
use Rattle.mark.specs.Mark.{late_in}
use Rattle.mark.proofs.Current.{parts}

-- Replica b, with the view v and the joined term j, where the registry is at term u: it has not joined that term, and
-- has no view of it in which it is a member.
record Barred (u : ℕ) (v : View) (j b : ℕ) : Type 0 where
  joined : j < u
  member : T (v.members b) → v.term < u

module _ (𝓔 : Entries) (exact : IsExact 𝓔) (b : ℕ) where
  open 𝓔 use {Entry}

  abbrev BarredIn : State Entry → Type 0
  BarredIn s = Barred s.registry.view.term (s.view b) (s.joined b) b

  module _ {L : ℕ → ℕ} {s : State Entry} (i : Inv L s) where
    open s use {registry, view, joined}

    -- b is not the leader that the registry names
    not_named : T (not (registry.view.members b)) → T (is_replica b) → registry.view.leader ≢ b
    not_named out real e = by-test (is_choosing registry.status)
        (λ c. replica-ne b real (sym e ∙ vacant i c))
        (λ c. T_not (registry.view.members b) out
        (subst (λ x. T (registry.view.members x)) (sym (named i c) ∙ e) (i.registry.member c)))

    -- a term begins: nobody was at it
    new_term : Barred (suc registry.view.epoch) (view b) (joined b) b
    new_term =
        let h : joined b ≤ (view b).term = (i.views b).joined in
        let l : (view b).term ≤ registry.view.term = (i.views b).term in
        let m : registry.view.term ≤ registry.view.epoch = i.registry.term in
        record { joined = omega (arith, h, l, m); member = λ _. omega (arith, l, m) }

    -- what is known of b before a step that stays in the term
    abbrev Known : Type 0
    Known = T (not (registry.view.members b)) × BarredIn s

    -- it takes news: as no member, and not as the leader
    told : Known → Holds (checks (outline s) (refresh b)) → BarredIn (next 𝓔 s (refresh b))
    told k h =
        let changed = not (eqb (view b).term registry.view.term) in
        let leads = eqb registry.view.leader b in
        rw (eqb_same b)
        (by_cond (λ j. Barred registry.view.term registry.view j b) (changed && leads)
        (λ c. absurd (not_named k.0 (h 1) (eqb→eq _ _ (split-and changed leads c).1)))
        (λ _. record { joined = k.1.joined; member = λ m. absurd (T_not (registry.view.members b) k.0 m) }))

    -- it joins: a term before this one
    joins : Known → Holds (checks (outline s) (join b)) → BarredIn (next 𝓔 s (join b))
    joins k h = rw (eqb_same b) (record { joined = k.1.member (h 5); member = k.1.member })

    -- a step of one replica: b's own, or another's
    by-own : (st : ℕ → Step) → (Holds (checks (outline s) (st b)) → BarredIn (next 𝓔 s (st b)))
        → ((y : ℕ) → y ≢ b → BarredIn (next 𝓔 s (st y)))
        → (x : ℕ) → Holds (checks (outline s) (st x))
        → BarredIn (next 𝓔 s (st x))
    by-own st own other x h =
        at-or {P = λ y. Holds (checks (outline s) (st y)) → BarredIn (next 𝓔 s (st y))} b own (λ y n _. other y n) x h

    -- Every step keeps it: a step that begins a term does so whatever was before, any other stays in the term, and only
    -- b's own news and joining change what is said of b.
    keeps : (st : Step) → Holds (checks (outline s) st)
        → ((next 𝓔 s st).registry.view.term ≡ registry.view.term → Known)
        → BarredIn (next 𝓔 s st)
    keeps (append x v) h k = (k refl).1
    keeps (commit x) h k = (k refl).1
    keeps (add x) h k = (k refl).1
    keeps (remove x) h k = (k refl).1
    keeps change_leader h k =
        let left = upd registry.view.members registry.view.leader false in
        by_cond
        (λ (r : Registry). (r.view.term ≡ registry.view.term → Known) → Barred r.view.term (view b) (joined b) b)
        (eqb (size left) 1) (λ _ _. new_term) (λ _ k. (k refl).1) k
    keeps (refresh x) h k =
        by-own refresh (told (k refl)) (λ y n. rw (ne_eqb b y (λ e. n (sym e))) (k refl).1) x h
    keeps (join x) h k =
        by-own join (joins (k refl)) (λ y n. rw (ne_eqb b y (λ e. n (sym e))) (k refl).1) x h
    keeps (receive x) h k = (k refl).1
    keeps (acknowledge a x) h k = (k refl).1
    keeps refresh_controller h k = (k refl).1
    keeps read_leader h k = (k refl).1
    keeps (read x) h k = (k refl).1
    keeps set_normal h k = (k refl).1
    keeps (hear x) h k = (k refl).1
    keeps (install x) h k = new_term
    keeps malformed h k = (k refl).1

  abbrev term : State Entry → ℕ
  term s = s.registry.view.term

  -- `Outside` from any state: b is no member at any point of the term in which the steps end
  abbrev OutsideFrom : State Entry → List Step → Type 0
  OutsideFrom s sts =
      (begun : List Step) → begun ⊑ sts → term (run 𝓔 s begun) ≡ term (run 𝓔 s sts)
      → T (not ((run 𝓔 s begun).registry.view.members b))

  -- By induction: what is asked of a state is asked only if its term is the one in which the steps end.
  barred : {L : ℕ → ℕ} {s : State Entry} → Inv L s → (sts : List Step) → OutsideFrom s sts
      → (term (run 𝓔 s sts) ≡ term s → BarredIn s)
      → BarredIn (run 𝓔 s sts)
  unfolding run
  barred {L = L} {s = s} i [] out k = k refl
  barred {L = L} {s = s} i (st ∷ sts) out k =
      barred {L = (step_keeps 𝓔 exact i st).history} (step_keeps 𝓔 exact i st).inv sts
      (λ begun p. out (st ∷ begun) (record { rest = p.rest; is = ap (λ l. st ∷ l) p.is }))
      (λ e. by-test (accepted (outline s) st)
      (λ c. let q : step 𝓔 s st ≡ next 𝓔 s st = rw (is_true (accepted (outline s) st) c) in
      subst BarredIn (sym q)
      (keeps i st (facts (checks (outline s) st) c)
      (λ e'. let d = e ∙ ap term q ∙ e' in (out [] (begins-nil (st ∷ sts)) (sym d), k d))))
      (λ c. let q : step 𝓔 s st ≡ s = rw (is_false (accepted (outline s) st) c) in
      subst BarredIn (sym q) (k (e ∙ ap term q))))

  -- The steps end in another term than they began in, so nothing is asked of the first state.
  pub outside : {L : ℕ → ℕ} {s : State Entry} → Inv L s → (sts : List Step) → term (run 𝓔 s sts) ≢ term s
      → OutsideFrom s sts
      → T (late_in (outline (run 𝓔 s sts)) b)
  outside {s} i sts n out =
      let z = run 𝓔 s sts in
      let k = barred i sts out (λ e. absurd (n e)) in
      by-test (late_in (outline z) b) (λ y. y) (λ y. absurd (omega (arith, k.joined, (parts z b y).1)))
