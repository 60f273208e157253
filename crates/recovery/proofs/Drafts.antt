-- Drafts: one record more, one left out, boards in turn. What is said of the state after a draft is carried from one to
-- the next. Assumes nothing.
use mathlib.Core.Bool.{Bool, true, false, not, cond}
use mathlib.Core.List.{List, [], ◌∷◌, ◌++◌}
use mathlib.Core.Logic.{◌⊎◌, inl, inr, ◌≢◌}
use mathlib.Core.Path.{◌≡◌, refl, sym, subst, ap, ◌∙◌}
use Prim.Native.Nat.{ℕ, suc, ◌+◌, ◌*◌, ◌≤◌}
use native.Mathlib.Omega.{arith}
use lib.Dec.{T, eqb, T_not}
use lib.ListN.{length}
use Rattle.model.specs.Prelude.{Check, ◌else◌, first_failed, passes}
use Rattle.model.specs.Members.{Members, is_replica, bit, size}
use Rattle.model.specs.State.{outline, Entries, IsExact, State}
use Rattle.model.specs.Steps.{checks, next, accepted}
use Rattle.model.specs.Records.{Record, step_of}
use Rattle.model.proofs.Tests.{Holds, facts, by_cond, join-and, is_false, is_true, eqb_same, eq-or-ne, of-true}
use Rattle.model.proofs.Prefix.{length-snoc}
use Rattle.recovery.specs.Plan.{Draft, turns, put, put_unless, need}

-- Checks that hold

-- A fact for each check, in their order.
abbrev pub Each : List Check → Type 0
Each [] = Unit {0}
Each ((c else n) ∷ cs) = T c × Each cs

passed : (cs : List Check) → Each cs → T (passes cs)
passed [] h = tt
passed ((c else n) ∷ cs) h = join-and c (passes cs) h.0 (passed cs h.1)

-- Where all checks but the last hold, the last decides.
last : (cs : List Check) → Each cs → (c : Bool) (n : ℕ) → first_failed (cs ++ ((c else n) ∷ [])) ≡ cond c 0 n
last [] h c n = refl
last ((a else k) ∷ cs) h c n = rw (is_true a h.0) (last cs h.1 c n)

last-too : (cs : List Check) → Each cs → (c : Bool) (n : ℕ) → T c → Each (cs ++ ((c else n) ∷ []))
last-too [] h c n t = (t, tt)
last-too ((a else k) ∷ cs) h c n t = (h.0, last-too cs h.1 c n t)

module _ (𝓔 : Entries) (exact : IsExact 𝓔) where
  open 𝓔 use {Entry}

  -- No error so far, and n records at most.
  pub record Sound (n : ℕ) (d : Draft Entry) : Type 0 where
    pub ok : T d.sound
    pub few : length d.records ≤ n

  -- And P is true of the state after them.
  pub record At (n : ℕ) (P : State Entry → Type 0) (d : Draft Entry) : Type 0 where
    pub sound : Sound n d
    pub is : P d.state

  pub at_most : {n : ℕ} {P : State Entry → Type 0} {d : Draft Entry} (m : ℕ) → n ≤ m → At n P d → At m P d
  at_most m h k = record {
    sound = record { ok = k.sound.ok; few = omega (arith, k.sound.few) };
    is = k.is;
  }

  pub at-so : {n : ℕ} {P : State Entry → Type 0} {d : Draft Entry} (Q : State Entry → Type 0)
      → (P d.state → Q d.state) → At n P d → At n Q d
  at-so Q f k = record { sound = k.sound; is = f k.is }

  -- One record more, whose checks hold.
  pub put-to : (P : State Entry → Type 0) (r : Record) {n : ℕ} {d : Draft Entry} → Sound n d
      → Each (checks (outline d.state) (step_of r))
      → (Holds (checks (outline d.state) (step_of r)) → P (next 𝓔 d.state (step_of r)))
      → At (suc n) P (put 𝓔 r d)
  unfolding put
  put-to P r {n} {d} k h p = record {
    sound = record {
      ok = join-and d.sound ok k.ok t;
      few = omega (arith, length-snoc d.records r, k.few);
    };
    is = by_cond P ok (λ _. p (facts (checks (outline d.state) (step_of r)) t)) (λ n. absurd (T_not ok n t));
  }
    where
      ok : Bool
      ok = accepted (outline d.state) (step_of r)

      t : T ok
      t = passed (checks (outline d.state) (step_of r)) h

  -- One left out if its last check fails, the others hold.
  pub unless-to : (P : State Entry → Type 0) (r : Record) (cs : List Check) (c : Bool) (k : ℕ)
      {n : ℕ} {d : Draft Entry} → Sound n d
      → checks (outline d.state) (step_of r) ≡ cs ++ ((c else k) ∷ []) → Each cs → T (not (eqb 0 k))
      → (Holds (checks (outline d.state) (step_of r)) → P (next 𝓔 d.state (step_of r)))
      → (T (not c) → P d.state) → At (suc n) P (put_unless 𝓔 k r d)
  unfolding put_unless
  unless-to P r cs c k {n} {d} w e h z yea nay =
      subst (λ a. At (suc n) P (cond (eqb a k) d (put 𝓔 r d))) (sym (ap first_failed e ∙ last cs h c k)) (go c refl)
    where
      go : (t : Bool) → c ≡ t → At (suc n) P (cond (eqb (cond t 0 k) k) d (put 𝓔 r d))
      go true q = rw (is_false (eqb 0 k) z) (put-to P r w (subst Each (sym e) (last-too cs h c k (of-true q))) yea)
      go false q = rw (eqb_same k)
          (at_most (suc n) (omega arith) (record { sound = w; is = nay (subst (λ t. T (not t)) (sym q) tt) }))

  pub need-to : (P : State Entry → Type 0) (t : Bool) {n : ℕ} {d : Draft Entry} → T t → At n P d → At n P (need 𝓔 t d)
  unfolding need
  need-to P t {n} {d} y k = record {
    sound = record { ok = join-and d.sound t k.sound.ok y; few = k.sound.few };
    is = k.is;
  }

  -- Boards in turn: B stays true, and G is true of each board that had its turn, of at most k records.
  module _ (q : Members) (f : ℕ → Draft Entry → Draft Entry) (k : ℕ) (B : State Entry → Type 0)
      (G : ℕ → State Entry → Type 0) where
    -- What the turn of b does to a state t₀.
    pub record Turned (b : ℕ) (t₀ t : State Entry) : Type 0 where
      pub base : B t
      pub new : G b t
      pub old : (x : ℕ) → x ≢ b → G x t₀ → G x t

    record Upto (b : ℕ) (t : State Entry) : Type 0 where
      base : B t
      each : (x : ℕ) → 1 ≤ x → x ≤ b → T (q x) → G x t

    abbrev pub Turn : Type 0
    Turn = (b : ℕ) → T (is_replica b) → T (q b) → (n : ℕ) (d : Draft Entry) → At n B d
        → At (n + k) (Turned b d.state) (f b d)

    module _ (turn : Turn) where
      one-turn : (b : ℕ) → T (is_replica (suc b)) → {n : ℕ} {d : Draft Entry} → At n (Upto b) d
          → At (n + k * bit (q (suc b))) (Upto (suc b)) (cond (q (suc b)) (f (suc b) d) d)
      one-turn b real {n} {d} h = go (q (suc b)) refl
        where
          taken : q (suc b) ≡ true → {t : State Entry} → Turned (suc b) d.state t → Upto (suc b) t
          taken e {t} z = record { base = z.base; each = λ x l m y. by x l m y (eq-or-ne x (suc b)) }
            where
              by : (x : ℕ) → 1 ≤ x → x ≤ suc b → T (q x) → (x ≡ suc b) ⊎ (x ≢ suc b) → G x t
              by x l m y (inl i) = subst (λ x. G x t) (sym i) z.new
              by x l m y (inr i) = z.old x i (h.is.each x l (omega arith) y)

          passed_over : q (suc b) ≡ false → {t : State Entry} → Upto b t → Upto (suc b) t
          passed_over e {t} z = record { base = z.base; each = λ x l m y. by x l m y (eq-or-ne x (suc b)) }
            where
              by : (x : ℕ) → 1 ≤ x → x ≤ suc b → T (q x) → (x ≡ suc b) ⊎ (x ≢ suc b) → G x t
              by x l m y (inl i) = absurd (subst T (ap q i ∙ e) y)
              by x l m y (inr i) = z.each x l (omega arith) y

          go : (t : Bool) → q (suc b) ≡ t → At (n + k * bit t) (Upto (suc b)) (cond t (f (suc b) d) d)
          go true e = at_most (n + k * 1) (omega arith)
              (at-so (Upto (suc b)) (taken e) (turn (suc b) real (of-true e) n d (at-so B (λ z. z.base) h)))
          go false e = at_most (n + k * 0) (omega arith) (at-so (Upto (suc b)) (passed_over e) h)

      pub turns-to : {n : ℕ} {d : Draft Entry} → At n B d
          → At (n + k * size q) (λ t. B t × ((x : ℕ) → 1 ≤ x → x ≤ 8 → T (q x) → G x t)) (turns 8 q f d)
      unfolding turns
      turns-to {n} {d} h =
          at_most (n + k * size q) (omega arith)
          (at-so (λ t. B t × ((x : ℕ) → 1 ≤ x → x ≤ 8 → T (q x) → G x t)) (λ z. (z.base, z.each))
          (one-turn 7 tt (one-turn 6 tt (one-turn 5 tt (one-turn 4 tt
          (one-turn 3 tt (one-turn 2 tt (one-turn 1 tt (one-turn 0 tt
          (at-so (Upto 0) (λ z. record { base = z; each = λ x l m t. absurd (omega arith) }) h))))))))))
