-- Demand 3: the invariant holds after the opening and after every list of steps, and says what is claimed. Assumes
-- nothing.
use mathlib.Core.Bool.{cond}
use mathlib.Core.List.{List, [], ◌∷◌, ◌++◌, append_assoc, append-nil}
use mathlib.Core.Path.{◌≡◌, refl, sym, subst, ap, ◌∙◌}
use Prim.Native.Nat.{ℕ, zero, suc, ◌+◌, ◌≤◌, ◌<◌}
use native.Mathlib.Omega.{arith}
use lib.Dec.{T, eqb_refl}
use lib.ListN.{get_or}
use Rattle.model.specs.Prelude.{◌⊑◌}
use Rattle.model.specs.Members.{is_replica, only, size}
use Rattle.model.specs.State.{outline, Entries, IsExact, State, Opening, can_open, opened, first_view, no_view}
use Rattle.model.specs.Steps.{Step, append, commit, add, remove, change_leader, refresh, join, receive, acknowledge, refresh_controller, read_leader, read, set_normal, hear, install, malformed, writes, checks, next, accepted, step}
use Rattle.model.specs.Runs.{run, gift, gives, given}
use Rattle.model.specs.Claim.{LeadsUnder, after, receipts, Safe, Safety}
use Rattle.model.proofs.Tests.{Holds, facts, by-test, by_cond, is_true, is_false}
use Rattle.model.proofs.Prefix.{begins-refl, begins-more}
use Rattle.model.proofs.Quorum.{by-replica, replica-ne}
use Rattle.model.proofs.Invariant.{Firm, vacant, steady, reads, Stale, Inv}
use Rattle.model.proofs.Static.{acting, named-only, Later, later}
use Rattle.model.proofs.Replicas.{append-keeps, refresh-keeps, join-keeps, receive-keeps, acknowledge-keeps}
use Rattle.model.proofs.Commit.{commit-keeps}
use Rattle.model.proofs.Control.{refresh-controller-keeps, read-leader-keeps, read_keeps, hear-keeps}
use Rattle.model.proofs.Raise.{add-keeps, remove-keeps, set-normal-keeps}
use Rattle.model.proofs.Change.{change-keeps}
use Rattle.model.proofs.Install.{install-keeps}

-- a property of the elements of a list, by their place from k on
abbrev pub All : {A : Type 0} → (ℕ → A → Type 0) → ℕ → List A → Type 0
All P k [] = Unit {0}
All P k (x ∷ xs) = P k x × All P (suc k) xs

pub nth : {A : Type 0} (P : ℕ → A → Type 0) (d : A) → ((m : ℕ) → P m d) → (xs : List A) (k n : ℕ) → All P k xs
    → P (k + n) (get_or xs n d)
nth P d out [] k n a = out (k + n)
nth P d out (x ∷ xs) k zero a = subst (λ m. P m x) (omega arith) a.0
nth P d out (x ∷ xs) k (suc n) a = subst (λ m. P m (get_or xs n d)) (omega arith) (nth P d out xs (suc k) n a.1)

-- The opening: its board was named under every term so far, and nobody is stale.
pub opened-inv : {E : Type 0} (o : Opening) → T (can_open o) → Inv {E = E} (λ _. o.board) (opened o)
opened-inv {E} o k = record {
  real = λ _. k;
  registry = record { term = omega arith; named = refl; member = λ _. eqb_refl o.board };
  views = λ x. by-test (is_replica x)
      (λ t. rw (is_true (is_replica x) t)
      (record {
        epoch = omega arith;
        term = omega arith;
        joined = omega arith;
        current = λ _. refl;
        led = λ _. refl;
      }))
      (λ t. rw (is_false (is_replica x) t)
      (record {
        epoch = omega arith;
        term = omega arith;
        joined = omega arith;
        current = λ e. absurd (omega arith);
        led = λ n. absurd (n refl);
      }));
  controller = record { epoch = omega arith; current = λ _. refl; stage = λ _. tt };
  logs = record {
    own = λ a _. by-test (is_replica a) (λ t. rw (is_true (is_replica a) t)) (λ t. rw (is_false (is_replica a) t));
    taken = λ x. rw (is_true (is_replica o.board) k)
        (by_cond (λ j. j ≤ 1) (is_replica x) (λ _. omega arith) (λ _. omega arith));
    follows = λ _ _. begins-refl [];
    counts = λ _ _ _. record { early = λ _. refl; now = λ _. omega arith };
  };
  leader = record {
    joined = rw (is_true (is_replica o.board) k);
    took = λ _. rw (is_true (is_replica o.board) k);
    whole = λ f. absurd (loose f);
  };
  heard = record { read = λ _ _ x _ h. absurd (omega arith); heard = λ _ _ x _ h. absurd (omega arith) };
  safe = record { begins = begins-refl []; backed = λ f. absurd (loose f) };
  outvoted = λ a st. absurd (fresh a st);
}
  where
    alone : size (only o.board) ≡ 1
    alone = by-replica (λ x. size (only x) ≡ 1) refl refl refl refl refl refl refl refl o.board k

    loose : Firm (opened {E = E} o).registry (opened {E = E} o).controller → ⊥
    loose (vacant t) = t
    loose (steady t n) = omega (arith, alone)
    loose (reads t) = t

    fresh : (a : ℕ) → Stale 1 (cond (is_replica a) (first_view o) no_view) a → ⊥
    fresh a st = by-test (is_replica a)
        (λ t. let lt : 1 < 1 = rw (is_true (is_replica a) t) at st.old in omega arith)
        (λ t. let e : 0 ≡ a = rw (is_false (is_replica a) t) at st.leads in st.real (sym e))

module _ (𝓔 : Entries) (exact : IsExact 𝓔) where
  open 𝓔 use {Entry, make}

  -- Every accepted step keeps it,
  pub keeps : {L : ℕ → ℕ} {s : State Entry} → Inv L s → (st : Step) → Holds (checks (outline s) st)
      → Later L s (next 𝓔 s st)
  keeps i (append b v) h = later (append-keeps 𝓔 i b v h) (omega arith)
  keeps i (commit b) h = later (commit-keeps 𝓔 i b h) (omega arith)
  keeps i (add b) h = later (add-keeps 𝓔 i b h) (omega arith)
  keeps i (remove b) h = later (remove-keeps 𝓔 i b h) (omega arith)
  keeps i change_leader h = change-keeps 𝓔 i h
  keeps i (refresh b) h = later (refresh-keeps 𝓔 i b h) (omega arith)
  keeps i (join b) h = later (join-keeps 𝓔 i exact b h) (omega arith)
  keeps i (receive b) h = later (receive-keeps 𝓔 i b h) (omega arith)
  keeps i (acknowledge a b) h = later (acknowledge-keeps 𝓔 i a b h) (omega arith)
  keeps i refresh_controller h = later (refresh-controller-keeps 𝓔 i h) (omega arith)
  keeps i read_leader h = later (read-leader-keeps 𝓔 i h) (omega arith)
  keeps i (read b) h = later (read_keeps 𝓔 i b h) (omega arith)
  keeps i set_normal h = later (set-normal-keeps 𝓔 i h) (omega arith)
  keeps i (hear b) h = later (hear-keeps 𝓔 i b h) (omega arith)
  keeps i (install b) h = install-keeps 𝓔 i b h
  keeps i malformed h = absurd (h 1)

  -- and so does every step, and every list of steps.
  pub step_keeps : {L : ℕ → ℕ} {s : State Entry} → Inv L s → (st : Step) → Later L s (step 𝓔 s st)
  step_keeps {L} {s} i st =
      by_cond (Later L s) (accepted (outline s) st) (λ t. keeps i st (facts (checks (outline s) st) t))
      (λ _. later i (omega arith))

  pub run-keeps : {L : ℕ → ℕ} {s : State Entry} → Inv L s → (sts : List Step) → Later L s (run 𝓔 s sts)
  unfolding run
  run-keeps {L = L} {s = s} i [] = later i (omega arith)
  run-keeps {L = L} {s = s} i (st ∷ sts) =
      let k = step_keeps i st in
      let m = run-keeps {L = k.history} k.inv sts in
      record {
        history = m.history;
        inv = m.inv;
        grows = omega (arith, k.grows, m.grows);
        same = λ t h. m.same t (omega (arith, k.grows)) ∙ k.same t h;
      }

  -- Receipts: the list that is kept is the list that was given.

  -- What an accepted step adds to the list kept is what it gives.
  next-gives : (s : State Entry) (st : Step) → (next 𝓔 s st).committed ≡ s.committed ++ gift 𝓔 s (writes st)
  next-gives s (append b v) = sym (append-nil s.committed)
  next-gives s (commit b) = refl
  next-gives s (add b) = sym (append-nil s.committed)
  next-gives s (remove b) = sym (append-nil s.committed)
  next-gives s change_leader = sym (append-nil s.committed)
  next-gives s (refresh b) = sym (append-nil s.committed)
  next-gives s (join b) = sym (append-nil s.committed)
  next-gives s (receive b) = sym (append-nil s.committed)
  next-gives s (acknowledge a b) = sym (append-nil s.committed)
  next-gives s refresh_controller = sym (append-nil s.committed)
  next-gives s read_leader = sym (append-nil s.committed)
  next-gives s (read b) = sym (append-nil s.committed)
  next-gives s set_normal = sym (append-nil s.committed)
  next-gives s (hear b) = sym (append-nil s.committed)
  next-gives s (install b) = sym (append-nil s.committed)
  next-gives s malformed = sym (append-nil s.committed)

  step_gives : (s : State Entry) (st : Step) → (step 𝓔 s st).committed ≡ s.committed ++ gives 𝓔 s st
  step_gives s st = by-test (accepted (outline s) st)
      (λ t. rw (is_true (accepted (outline s) st) t) (next-gives s st))
      (λ t. rw (is_false (accepted (outline s) st) t) (sym (append-nil s.committed)))

  run-given : (s : State Entry) (sts : List Step) → (run 𝓔 s sts).committed ≡ s.committed ++ given 𝓔 s sts
  unfolding run given
  run-given s [] = sym (append-nil s.committed)
  run-given s (st ∷ sts) =
      run-given (step 𝓔 s st) sts ∙ ap (λ xs. xs ++ given 𝓔 (step 𝓔 s st) sts) (step_gives s st)
      ∙ append_assoc s.committed (gives 𝓔 s st) _

  pub run-append : (s : State Entry) (sts more : List Step) → run 𝓔 s (sts ++ more) ≡ run 𝓔 (run 𝓔 s sts) more
  unfolding run
  run-append s [] more = refl
  run-append s (st ∷ sts) more = run-append (step 𝓔 s st) sts more

  given-append : (s : State Entry) (sts more : List Step) → given 𝓔 s (sts ++ more) ≡ given 𝓔 s sts
      ++ given 𝓔 (run 𝓔 s sts) more
  unfolding run given
  given-append s [] more = refl
  given-append s (st ∷ sts) more =
      ap (λ xs. gives 𝓔 s st ++ xs) (given-append (step 𝓔 s st) sts more) ∙ sym (append_assoc (gives 𝓔 s st) _ _)

  module _ (o : Opening) (real : T (can_open o)) (sts : List Step) where
    -- the history and the invariant after sts
    reached : Later (λ _. o.board) (opened o) (after 𝓔 o sts)
    reached = run-keeps (opened-inv o real) sts

    -- Who holds itself leader under t is the one that the history names for t.
    led : (x t : ℕ) → LeadsUnder (after 𝓔 o sts) x t → reached.history t ≡ x
    led x t k = subst (λ u. reached.history u ≡ x) k.2 (acting reached.inv x (replica-ne x k.0) k.1)

    pub safe : Safe 𝓔 o sts
    safe = record {
      leading = λ n. subst (λ x. receipts 𝓔 o sts ⊑ (after 𝓔 o sts).log x) (sym (named-only reached.inv n))
          (subst (λ xs. xs ⊑ (after 𝓔 o sts).log (reached.history (after 𝓔 o sts).registry.view.term))
          (run-given (opened o) sts) reached.inv.safe.begins);
      lasting = λ more. subst (λ xs. receipts 𝓔 o sts ⊑ xs) (sym (given-append (opened o) sts more))
          (begins-more (receipts 𝓔 o sts) _);
      alone = λ x y t k m. sym (led x t k) ∙ led y t m;
      alone_later = λ more x y t k m.
          let j = run-keeps reached.inv more in
          let l : LeadsUnder (run 𝓔 (after 𝓔 o sts) more) y t =
          subst (λ s. LeadsUnder s y t) (run-append (opened o) sts more) m in
          let v = reached.inv.views x in
          sym (led x t k) ∙ sym (j.same t (omega (arith, k.2, v.term, reached.inv.registry.term)))
          ∙ subst (λ u. j.history u ≡ y) l.2 (acting j.inv y (replica-ne y l.0) l.1);
      kept = run-given (opened o) sts;
    }

-- The claim for every kind of entry.
pub safety : Safety
unfolding Safety
safety 𝓔 exact o real sts = safe 𝓔 exact o real sts
