-- What the invariant says of a replica that is current: it has joined the registry's term, and the leader of that term
-- acts under it, so the invariant's `follows` applies. Assumes nothing.
use mathlib.Core.Bool.{not}
use mathlib.Core.Logic.{◌⊎◌, inl, inr, ◌≢◌}
use mathlib.Core.Path.{◌≡◌, sym, subst, ap, ◌∙◌}
use Prim.Native.Nat.{ℕ, ◌≤◌, ◌<◌}
use native.Mathlib.Omega.{arith}
use lib.Dec.{T, ltb, eqb, eqb→eq, nltb→le, T_not}
use borrow.Author.Tests.{eq-eqb, le-ltb}
use lib.ListN.{length}
use Rattle.model.specs.Prelude.{◌⊑◌}
use Rattle.model.specs.State.{State, Entries, outline}
use Rattle.model.specs.Steps.{join, accepted, next, step}
use Rattle.model.proofs.Tests.{is_true, eqb_same, not_left, not_right, by-test, le-or-lt}
use Rattle.model.proofs.Prefix.{begins-compare}
use Rattle.model.proofs.Invariant.{Inv}
use Rattle.model.proofs.Static.{named-only}
use Rattle.mark.specs.Mark.{IsCurrent, CurrentSays}

-- it is not below the registry's epoch, and has joined the registry's term
pub parts : {E : Type 0} (s : State E) (b : ℕ) → IsCurrent s b
    → (s.registry.view.epoch ≤ (s.view b).epoch) × (s.joined b ≡ s.registry.view.term)
parts s b h =
    let e = ltb (s.view b).epoch s.registry.view.epoch in
    let j = eqb (s.joined b) s.registry.view.term in (
      nltb→le _ _ (not_left e (not j) h),
      by-test j (eqb→eq _ _) (λ n. absurd (T_not (not j) (not_right e (not j) h) n)),
    )

-- and who is at its epoch and has joined is current
to-current : {E : Type 0} (s : State E) (b : ℕ) → (s.view b).epoch ≡ s.registry.view.epoch
    → s.joined b ≡ s.registry.view.term
    → IsCurrent s b
to-current s b e j = rw (le-ltb (s.view b).epoch s.registry.view.epoch (omega (arith, e)), eq-eqb _ _ j) tt

module _ {E : Type 0} {L : ℕ → ℕ} {s : State E} (i : Inv L s) where
  open s use {registry, view, joined, log}

  -- its log is a beginning of the log of the term's leader
  begins : (b : ℕ) → IsCurrent s b → log b ⊑ log (L registry.view.term)
  begins b h =
      let j = (parts s b h).1 in
      let t : (view (L (joined b))).term ≡ joined b =
      omega (arith, j, i.logs.taken b, (i.views (L (joined b))).term) in
      subst (λ x. log b ⊑ log (L x)) j (i.logs.follows b t)

  -- So it is a beginning of the named leader's, and comparable with any other that is.
  pub current : (b : ℕ) → IsCurrent s b → CurrentSays s b
  current b h = record {
    view = (i.views b).current (omega (arith, (parts s b h).0, (i.views b).epoch));
    follows = λ n. subst (λ x. log b ⊑ log x) (sym (named-only i n)) (begins b h);
    alike = λ x k. ordered x k (le-or-lt (length (log b)) (length (log x)));
  }
    where
      ordered : (x : ℕ) → IsCurrent s x → (length (log b) ≤ length (log x)) ⊎ (length (log x) < length (log b))
          → (log b ⊑ log x) ⊎ (log x ⊑ log b)
      ordered x k (inl l) = inl (begins-compare (begins b h) (begins x k) l)
      ordered x k (inr l) = inr (begins-compare (begins x k) (begins b h) (omega arith))

  -- The term's leader has always joined its own term.
  pub by-news : (b : ℕ) → b ≢ 0 → registry.view.leader ≡ b → (view b).epoch ≡ registry.view.epoch → IsCurrent s b
  by-news b real l e =
      let q : registry.view.leader ≡ L registry.view.term = named-only i (λ z. real (sym l ∙ z)) in
      let j : joined b ≡ (view b).term =
      subst (λ x. joined x ≡ (view x).term) (sym q ∙ l) i.leader.joined in
      to-current s b e (j ∙ ap (λ v. v.term) ((i.views b).current e))

module _ (𝓔 : Entries) {L : ℕ → ℕ} {s : State 𝓔.Entry} (i : Inv L s) where
  open s use {registry, view}

  -- At the registry's epoch a replica's term, which it joins, is the registry's.
  pub by-joining : (b : ℕ) → T (accepted (outline s) (join b)) → (view b).epoch ≡ registry.view.epoch
      → IsCurrent (step 𝓔 s (join b)) b
  by-joining b h e =
      rw (is_true (accepted (outline s) (join b)) h)
      (to-current (next 𝓔 s (join b)) b e (rw (eqb_same b) (ap (λ v. v.term) ((i.views b).current e))))
