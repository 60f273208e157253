-- The lowest n of a set, and the highest ranked of a set. Assumes nothing.
use mathlib.Core.Bool.{Bool, true, false, not, cond, ◌&&◌, ◌||◌}
use mathlib.Core.List.{List, [], ◌∷◌}
use mathlib.Core.Logic.{◌⊎◌, inl, inr}
use mathlib.Core.Path.{◌≡◌, refl}
use Prim.Native.Nat.{ℕ, ◌+◌, ◌≤◌, ◌<◌, min}
use native.Mathlib.Omega.{arith}
use lib.Dec.{T, leb, ltb, eqb, eqb→eq, leb→le, ltb→lt, lt→ltb, T_not, not_T}
use borrow.Author.Tests.{ltb-true, ltb-false}
use Rattle.model.specs.Members.{Members, is_replica, none, ◌∩◌, bit, size, lowest}
use Rattle.model.specs.State.{Controller}
use Rattle.model.specs.Steps.{above}
use Rattle.model.proofs.Tests.{split-and, join-and, by-test, by_cond, is_true, eq_test, le-or-lt}
use Rattle.model.proofs.Quorum.{size-sub, size-some, lowest-in, by-replica}
use Rattle.recovery.specs.Plan.{first_of, highest}

-- The lowest n

-- They are the lowest: whoever of the set stands below one of them is one of them.
pub first-lowest : (n : ℕ) (m : Members) (x y : ℕ) → T (first_of n m x) → T (m y) → y ≤ x → T (first_of n m y)
first-lowest n m x y t k h =
    join-and (m y) (ltb (size (below y)) n) k
    (lt→ltb (size (below y)) n (omega (arith, less, ltb→lt (size (below x)) n (split-and (m x) _ t).1)))
  where
    below : ℕ → Members
    below b = (λ z. ltb z b) ∩ m

    less : size (below y) ≤ size (below x)
    less = size-sub (below y) (below x) (λ z _ u.
        let v = split-and (ltb z y) (m z) u in
        join-and (ltb z x) (m z) (lt→ltb z x (omega (arith, ltb→lt z y v.0))) v.1)

pub first-in : (n : ℕ) (m : Members) (x : ℕ) → T (first_of n m x) → T (m x)
first-in n m x t = (split-and (m x) _ t).0

-- The lower of two numbers, shut so that omega splits no cases.
least : ℕ → ℕ → ℕ
least n k = min k n

-- One board, with k of the set below it, and k' up to it.
one : (a : Bool) (k k' n : ℕ) → k' ≡ k + bit a → least n k + bit (a && ltb k n) ≡ least n k'
unfolding least
one true k k' n q = go (ltb k n) refl
  where
    go : (t : Bool) → ltb k n ≡ t → min k n + bit t ≡ min k' n
    go true e = omega (arith, ltb-true k n e)
    go false e = omega (arith, ltb-false k n e)
one false k k' n q = omega arith

least-none : (n k : ℕ) → k ≡ 0 → least n k ≡ 0
unfolding least
least-none n k e = omega arith

least-all : (n k : ℕ) → n ≤ k → least n k ≡ n
unfolding least
least-all n k h = omega arith

-- They are n, where the set has as many: board by board, as many as the lower of n and those up to it.
pub first-size : (n : ℕ) (m : Members) → n ≤ size m → size (first_of n m) ≡ n
first-size n m h = omega (
  arith,
  at 1 (below 2) (omega arith),
  at 2 (below 3) (omega arith),
  at 3 (below 4) (omega arith),
  at 4 (below 5) (omega arith),
  at 5 (below 6) (omega arith),
  at 6 (below 7) (omega arith),
  at 7 (below 8) (omega arith),
  at 8 (size m) (omega arith),
  least-none n (below 1) (omega arith),
  least-all n (size m) h,
)
  where
    below : ℕ → ℕ
    below b = size ((λ y. ltb y b) ∩ m)

    at : (b k : ℕ) → k ≡ below b + bit (m b) → least n (below b) + bit (first_of n m b) ≡ least n k
    at b k e = one (m b) (below b) k n e

-- The lowest of a set is no higher than any other.
lowest-least : (m : Members) (b : ℕ) → T (is_replica b) → T (m b) → lowest m ≤ b
lowest-least m = by-replica (λ b. T (m b) → lowest m ≤ b)
    (λ t. is 1 _ t)
    (λ t. or 1 _ tt (is 2 _ t))
    (λ t. or 1 _ tt (or 2 _ tt (is 3 _ t)))
    (λ t. or 1 _ tt (or 2 _ tt (or 3 _ tt (is 4 _ t))))
    (λ t. or 1 _ tt (or 2 _ tt (or 3 _ tt (or 4 _ tt (is 5 _ t)))))
    (λ t. or 1 _ tt (or 2 _ tt (or 3 _ tt (or 4 _ tt (or 5 _ tt (is 6 _ t))))))
    (λ t. or 1 _ tt (or 2 _ tt (or 3 _ tt (or 4 _ tt (or 5 _ tt (or 6 _ tt (is 7 _ t)))))))
    (λ t. or 1 _ tt (or 2 _ tt (or 3 _ tt (or 4 _ tt (or 5 _ tt (or 6 _ tt (or 7 _ tt (is 8 _ t))))))))
  where
    is : (k y : ℕ) → T (m k) → cond (m k) k y ≤ k
    is k y t = rw (is_true (m k) t) (omega arith)

    or : (k y : ℕ) {b : ℕ} → T (leb k b) → y ≤ b → cond (m k) k y ≤ b
    or k y {b} h i = by_cond (λ x. x ≤ b) (m k) (λ _. leb→le k b h) (λ _. i)

-- Ranks

abbrev every : List ℕ → Bool
every [] = true
every (b ∷ bs) = is_replica b && every bs

module _ (c : Controller) where
  open c use {heard, heard_joined}

  -- x ranks above b, as a fact.
  Above : ℕ → ℕ → Type 0
  Above b x = (heard_joined b < heard_joined x) ⊎ ((heard_joined b ≡ heard_joined x) × (heard b < heard x))

  above_of : (b x : ℕ) → T (above c b x) → Above b x
  unfolding Above
  above_of b x t = go (ltb (heard_joined b) (heard_joined x)) refl t
    where
      go : (p : Bool) → ltb (heard_joined b) (heard_joined x) ≡ p
          → T (p || (eqb (heard_joined b) (heard_joined x) && ltb (heard b) (heard x))) → Above b x
      go true e t = inl (ltb-true (heard_joined b) (heard_joined x) e)
      go false e t =
          let h = split-and (eqb (heard_joined b) (heard_joined x)) (ltb (heard b) (heard x)) t in
          inr (eqb→eq (heard_joined b) (heard_joined x) h.0, ltb→lt (heard b) (heard x) h.1)

  above-trans : (a b x : ℕ) → Above a b → Above b x → Above a x
  unfolding Above
  above-trans a b x (inl h) (inl k) = inl (omega arith)
  above-trans a b x (inl h) (inr k) = inl (omega arith)
  above-trans a b x (inr h) (inl k) = inl (omega arith)
  above-trans a b x (inr h) (inr k) = inr (omega arith)

  above-self : (b : ℕ) → Above b b → ⊥
  unfolding Above
  above-self b (inl h) = omega arith
  above-self b (inr h) = omega arith

  above-or-not : (b x : ℕ) → Above b x ⊎ (Above b x → ⊥)
  unfolding Above
  above-or-not b x =
      go (le-or-lt (heard_joined x) (heard_joined b)) (le-or-lt (heard_joined b) (heard_joined x))
      (le-or-lt (heard x) (heard b))
    where
      no_way : heard_joined x ≤ heard_joined b → (heard_joined b ≡ heard_joined x → heard x ≤ heard b) → Above b x → ⊥
      no_way h k (inl l) = omega arith
      no_way h k (inr l) = omega (arith, k l.0)

      go : (heard_joined x ≤ heard_joined b) ⊎ (heard_joined b < heard_joined x)
          → (heard_joined b ≤ heard_joined x) ⊎ (heard_joined x < heard_joined b)
          → (heard x ≤ heard b) ⊎ (heard b < heard x) → Above b x ⊎ (Above b x → ⊥)
      go (inr l) p q = inl (inl l)
      go (inl h) (inr l) q = inr (no_way h (λ e. absurd (omega arith)))
      go (inl h) (inl k) (inl n) = inr (no_way h (λ _. n))
      go (inl h) (inl k) (inr n) = inl (inr (omega arith, n))

  module _ (m : Members) where
    -- Those of m above whom none of m ranks.
    abbrev tops : Members
    tops x = m x && eqb (size (m ∩ above c x)) 0

    nobody : (x : ℕ) → ((b : ℕ) → T (is_replica b) → T (m b) → T (above c x b) → ⊥) → T (eqb (size (m ∩ above c x)) 0)
    nobody x f = eq_test (size (m ∩ above c x)) 0 (omega (arith, few))
      where
        few : size (m ∩ above c x) ≤ size none
        few = size-sub (m ∩ above c x) none
            (λ b k h. let z = split-and (m b) (above c x b) h in f b k z.0 z.1)

    -- The highest ranked is the lowest-numbered of them.
    pub highest-lowest : (b : ℕ) → T (is_replica b) → T (m b)
        → ((x : ℕ) → T (is_replica x) → T (m x) → T (not (above c b x))) → highest c m ≤ b
    highest-lowest b real t f = lowest-least tops b real
        (join-and (m b) _ t (nobody b (λ x k u v. T_not (above c b x) (f x k u) v)))

    -- Of the boards bs, none of m ranks above x.
    Under : ℕ → List ℕ → Type 0
    Under x [] = Unit {0}
    Under x (y ∷ ys) = (T (m y) → Above x y → ⊥) × Under x ys

    -- x of m is such, or none of the boards is of m.
    data Peak (bs : List ℕ) : Type 0 where
      peak : (x : ℕ) → T (is_replica x) → T (m x) → Under x bs → Peak bs
      flat : ((x : ℕ) → Under x bs) → Peak bs

    over : (x b : ℕ) → Above x b → (ys : List ℕ) → Under x ys → Under b ys
    unfolding Under
    over x b h [] u = tt
    over x b h (y ∷ ys) u = (λ t k. u.0 t (above-trans x b y h k), over x b h ys u.1)

    find : (bs : List ℕ) → T (every bs) → Peak bs
    unfolding Under
    find [] r = flat (λ _. tt)
    find (b ∷ bs) r =
        let z = split-and (is_replica b) (every bs) r in
        by-test (m b) (λ t. with-b z.0 t (find bs z.1)) (λ n. without n (find bs z.1))
      where
        with-b : T (is_replica b) → T (m b) → Peak bs → Peak (b ∷ bs)
        with-b k t (flat f) = peak b k t (λ _ h. above-self b h, f b)
        with-b k t (peak x kx tx u) = go (above-or-not x b)
          where
            go : Above x b ⊎ (Above x b → ⊥) → Peak (b ∷ bs)
            go (inl h) = peak b k t (λ _ j. above-self b j, over x b h bs u)
            go (inr h) = peak x kx tx (λ _. h, u)

        without : T (not (m b)) → Peak bs → Peak (b ∷ bs)
        without n (flat f) = flat (λ x. (λ t _. T_not (m b) n t, f x))
        without n (peak x kx tx u) = peak x kx tx (λ t _. T_not (m b) n t, u)

    eight : List ℕ
    eight = 1 ∷ 2 ∷ 3 ∷ 4 ∷ 5 ∷ 6 ∷ 7 ∷ 8 ∷ []

    all_under : (x : ℕ) → Under x eight → (b : ℕ) → T (is_replica b) → T (m b) → Above x b → ⊥
    unfolding Under eight
    all_under x u =
        by-replica (λ b. T (m b) → Above x b → ⊥) u.0 u.1.0 u.1.1.0 u.1.1.1.0 u.1.1.1.1.0
        u.1.1.1.1.1.0 u.1.1.1.1.1.1.0 u.1.1.1.1.1.1.1.0

    top : (x : ℕ) → T (m x) → Under x eight → T (tops x)
    top x t u = join-and (m x) _ t (nobody x (λ b k h a. all_under x u b k h (above_of x b a)))

    -- The highest ranked of a set is of it, and none of the set ranks above it.
    pub highest-in : 1 ≤ size m → T (is_replica (highest c m)) × T (m (highest c m))
        × ((b : ℕ) → T (is_replica b) → T (m b) → T (not (above c (highest c m) b)))
    unfolding eight
    highest-in h =
        let l = lowest-in tops (some (find eight tt)) in
        let z = split-and (m (highest c m)) (eqb (size (m ∩ above c (highest c m))) 0) l.1 in (
          l.0,
          z.0,
          λ b k t. not_T (above c (highest c m) b) (λ r. absurd (omega (
            arith,
            size-some (m ∩ above c (highest c m)) b k (join-and (m b) (above c (highest c m) b) t r),
            eqb→eq (size (m ∩ above c (highest c m))) 0 z.1,
          ))),
        )
      where
        some : Peak eight → 1 ≤ size tops
        some (peak x k t u) = size-some tops x k (top x t u)
        some (flat f) =
            let l = lowest-in m h in
            size-some tops (lowest m) l.0 (top (lowest m) l.1 (f (lowest m)))
