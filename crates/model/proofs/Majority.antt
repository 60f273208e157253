-- The count of those that qualify as a set that is a majority, the three majority questions in document 01's words, and
-- who is behind an accepted step. Assumes nothing.
use mathlib.Core.Bool.{Bool, true, false, not, cond, ◌&&◌, ◌||◌}
use mathlib.Core.Logic.Iff
use mathlib.Core.Logic.{◌⊎◌, inl, inr, ⊎_elim, ◌↔◌, ◌≢◌}
use mathlib.Core.Path.{◌≡◌, refl, sym, ap, subst, ◌∙◌}
use Prim.Native.Nat.{ℕ, zero, suc, ◌≤◌, ◌<◌}
use native.Mathlib.Omega.{arith}
use lib.Dec.{T, leb, ltb, eqb, leb→le, le→leb, ltb→lt, lt→ltb, eqb→eq, T_not, not_T}
use Rattle.model.specs.Prelude.{asks}
use Rattle.model.specs.Members.{Members, is_replica, none, ◌∩◌, size, quorum}
use Rattle.model.specs.State.{Outline}
use Rattle.model.specs.Steps.{Step, commit, set_normal, install, checks, accepted, answer_of, above, counted_above, heard_enough, ranked_not_above, qualified, behind}
use Rattle.model.specs.Records.{Record, step_of}
use Rattle.model.specs.Majority.{SomeMajority, Heard, RanksAbove, Question, Questions, AllWith, Sets, Majorities}
use Rattle.model.proofs.Tests.{split-and, join-and, eq_test, of-true, by_cond, Holds, facts}
use Rattle.model.proofs.Answer.{zero-accepted, nonzero-refused}
use Rattle.model.proofs.Quorum.{size-sub, has_quorum}
use Rattle.model.proofs.Refusals.{once, once-fails}
use Rattle.model.proofs.Rules.{◌then◌, by-rule}

-- Those that qualify, by a test q that says P.
module _ (m q : Members) (P : ℕ → Type 0) (says : (x : ℕ) → T (q x) ↔ P x) where
  counted : T (has_quorum m q) → SomeMajority m P
  counted t = record {
    set = m ∩ q;
    majority = record {
      within = λ x _ h. (split-and (m x) (q x) h).0;
      most = leb→le (quorum (size m)) (size (m ∩ q)) t;
    };
    each = λ x _ h. (says x).0 (split-and (m x) (q x) h).1;
  }

  enough : SomeMajority m P → T (has_quorum m q)
  enough s = le→leb (quorum (size m)) (size (m ∩ q)) (most s.majority.most (size-sub s.set (m ∩ q) among))
    where
      among : (x : ℕ) → T (is_replica x) → T (s.set x) → T ((m ∩ q) x)
      among x k h = join-and (m x) (q x) (s.majority.within x k h) ((says x).1 (s.each x k h))

      most : {a b c : ℕ} → a ≤ b → b ≤ c → a ≤ c
      most h k = omega arith

  just : T (has_quorum m q) ↔ SomeMajority m P
  just = (counted, enough)

-- The tests as words.
both_say : {A B : Type 0} (s t : Bool) → T s ↔ A → T t ↔ B → T (s && t) ↔ (A × B)
both_say s t f g =
    ((λ h. let z = split-and s t h in (f.0 z.0, g.0 z.1)), (λ h. join-and s t (f.1 h.0) (g.1 h.1)))

either-says : {A B : Type 0} (s t : Bool) → T s ↔ A → T t ↔ B → T (s || t) ↔ (A ⊎ B)
either-says true t f g = ((λ _. inl (f.0 tt)), (λ _. tt))
either-says false t f g = ((λ h. inr (g.0 h)), ⊎_elim (λ a. absurd (f.1 a)) g.1)

not-says : {A : Type 0} (t : Bool) → T t ↔ A → T (not t) ↔ (¬ A)
not-says t f = ((λ h a. T_not t h (f.1 a)), (λ n. not_T t (λ h. n (f.0 h))))

le-says : (m n : ℕ) → T (leb m n) ↔ (m ≤ n)
le-says m n = (leb→le m n, le→leb m n)

lt-says : (m n : ℕ) → T (ltb m n) ↔ (m < n)
lt-says m n = (ltb→lt m n, lt→ltb m n)

eq-says : (m n : ℕ) → T (eqb m n) ↔ (m ≡ n)
eq-says m n = (eqb→eq m n, eq_test m n)

some-says : (n : ℕ) → T (leb 1 n) ↔ (n ≢ 0)
some-says zero = ((λ t. absurd t), (λ h. h refl))
some-says (suc n) = ((λ _ e. omega arith), (λ _. le→leb 1 (suc n) (omega arith)))

module _ (m : Outline) where
  open m use {controller, view, acked, issued}
  open controller use {heard, heard_joined}

  abbrev lead : ℕ
  lead = controller.view.leader

  abbrev members : Members
  members = controller.view.members

  heard-enough : (x : ℕ) → T (heard_enough controller x) ↔ (Heard m x × (heard lead ≤ heard x))
  heard-enough x = both_say (leb 1 (heard x)) (leb (heard lead) (heard x))
      (some-says (heard x)) (le-says (heard lead) (heard x))

  ranks-above : (b x : ℕ) → T (above controller b x) ↔ RanksAbove m b x
  ranks-above b x =
      let i = heard_joined b in
      let j = heard_joined x in
      either-says (ltb i j) (eqb i j && ltb (heard b) (heard x)) (lt-says i j)
      (both_say (eqb i j) (ltb (heard b) (heard x)) (eq-says i j) (lt-says (heard b) (heard x)))

  -- None ranks above itself.
  level : (b : ℕ) → ¬ RanksAbove m b b
  level b = ⊎_elim (λ h. omega arith) (λ h. omega (arith, h.1))

  module _ (b : ℕ) where
    abbrev Fit : ℕ → Type 0
    Fit x = Heard m x × ¬ RanksAbove m b x

    abbrev fit : Members
    fit = ranked_not_above controller b

    not-above : (x : ℕ) → T (fit x) ↔ Fit x
    not-above x = both_say (leb 1 (heard x)) (not (above controller b x))
        (some-says (heard x)) (not-says (above controller b x) (ranks-above b x))

    -- Step 15's test asks too that b is heard: the set that the count finds then contains b.
    found : T (members b) → T (leb 1 (heard b) && has_quorum members fit) → (q : SomeMajority members Fit) × T (q.set b)
    unfolding counted
    found member t =
        let h = split-and (leb 1 (heard b)) (has_quorum members fit) t in (
          counted members fit Fit not-above h.1,
          join-and (members b) (fit b) member ((not-above b).1 ((some-says (heard b)).0 h.0, level b)),
        )

    finds : T (is_replica b) → (q : SomeMajority members Fit) × T (q.set b)
        → T (leb 1 (heard b) && has_quorum members fit)
    finds real f = join-and (leb 1 (heard b)) (has_quorum members fit)
        ((some-says (heard b)).1 (f.0.each b real f.1).0) (enough members fit Fit not-above f.0)

  asking : (st : Step) (Q : Type 0) → T (once 14 (checks m st)) → T (asks 14 (checks m st)) ↔ Q → Question m st Q
  asking st Q one test = record {
    test = test;
    refused = λ e q. once-fails 14 (λ z. omega arith) (checks m st) one e (test.1 q);
  }

  questions : Questions m
  questions = record {
    step_two = λ b. asking (commit b) _ tt
        (just (view b).members (counted_above (acked b) issued) _ (λ x. lt-says issued (acked b x)));
    step_thirteen = asking set_normal _ tt (just members (heard_enough controller) _ heard-enough);
    step_fifteen = λ b real member. asking (install b) _ tt (found b member, finds b real);
  }

  -- An accepted step whose question is of the members ms by the test q, which says P.
  module _ (st : Step) (ms q : Members) (P : ℕ → Type 0) (says : (x : ℕ) → T (q x) ↔ P x)
      (those : qualified m st ≡ ms ∩ q) (e : answer_of m st ≡ 0) where
    is_set : behind m st ≡ ms ∩ q
    is_set = ap (λ t. cond t (qualified m st) none) (zero-accepted m st e) ∙ those

    stood : T (has_quorum ms q) → AllWith ms P (behind m st)
    unfolding counted
    stood t = subst (AllWith ms P) (sym is_set) record {
      all = λ x. both_say (ms x) (q x) Iff.rfl (says x);
      majority = (counted ms q P says t).majority;
    }

  -- A step of another number than 2, 13 and 15 asks no majority.
  abbrev AsksNone : ℕ → Step → Type 0
  AsksNone n st = n ≢ 2 → n ≢ 13 → n ≢ 15 → qualified m st ≡ none

  no_one : (r : Record) → AsksNone r.step (step_of r)
  no_one r = by-rule AsksNone (λ _ _ _ _. refl) r
      ((λ _ _ _. refl) then (λ h _ _. absurd (h refl)) then (λ _ _ _. refl) then (λ _ _ _. refl) then (λ _ _ _. refl)
      then (λ _ _ _. refl) then (λ _ _ _. refl) then (λ _ _ _. refl) then (λ _ _ _. refl) then (λ _ _ _. refl)
      then (λ _ _ _. refl) then (λ _ _ _. refl) then (λ _ h _. absurd (h refl)) then (λ _ _ _. refl)
      then (λ _ _ h. absurd (h refl)) then tt)

  sets : Sets m
  sets = record {
    step_two = λ b e. stood (commit b) (view b).members (counted_above (acked b) issued) _
        (λ x. lt-says issued (acked b x)) refl e (holds (commit b) e 14);
    step_thirteen = λ e. stood set_normal members (heard_enough controller) _ heard-enough refl e (holds set_normal e 14);
    step_fifteen = λ b e.
        let h = split-and (leb 1 (heard b)) (has_quorum members (fit b)) (holds (install b) e 14) in
        let z = stood (install b) members (fit b) (Fit b) (not-above b) refl e h.1 in
        (z, (z.all b).1 (holds (install b) e 5, ((some-says (heard b)).0 h.0, level b)));
    refused = λ st n. ap (λ t. cond t (qualified m st) none) (nonzero-refused m st n);
    others = λ r h2 h13 h15.
        by_cond (λ q. q ≡ none) (accepted m (step_of r)) (λ _. no_one r h2 h13 h15) (λ _. refl);
  }
    where
      holds : (st : Step) → answer_of m st ≡ 0 → Holds (checks m st)
      holds st e = facts (checks m st) (of-true (zero-accepted m st e))

pub majorities : Majorities
majorities =
    record { counted = λ m q. just m q (λ x. T (q x)) (λ x. Iff.rfl); questions = questions; sets = sets }
