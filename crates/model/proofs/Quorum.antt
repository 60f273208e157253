-- Counting replicas: subsets, one replica more or less, and sets that are too large not to meet. Assumes nothing.
use mathlib.Core.Bool.{Bool, true, false, not, cond, ◌&&◌}
use mathlib.Core.Logic.{◌⊎◌, inl, inr, ◌≢◌}
use mathlib.Core.Path.{◌≡◌, refl, sym, subst}
use Prim.Native.Nat.{ℕ, zero, suc, ◌+◌, ◌*◌, ◌≤◌, ◌<◌}
use native.Mathlib.Omega.{arith}
use lib.Dec.{T, leb, leb→le}
use Rattle.model.specs.Prelude.{upd}
use Rattle.model.specs.Members.{Members, is_replica, ◌∩◌, bit, size, quorum, is_quorum, lowest}
use Rattle.model.proofs.Tests.{split-and, join-and, by_cond, upd_other, eq-or-ne}

pub replica-range : (b : ℕ) → T (is_replica b) → (1 ≤ b) × (b ≤ 8)
replica-range b t = let h = split-and (leb 1 b) (leb b 8) t in (leb→le 1 b h.0, leb→le b 8 h.1)

pub replica-ne : (b : ℕ) → T (is_replica b) → b ≢ 0
replica-ne b t e = omega (arith, replica-range b t)

-- A property of the replicas 1 to 8.
pub by-replica : (P : ℕ → Type 0) → P 1 → P 2 → P 3 → P 4 → P 5 → P 6 → P 7 → P 8 → (b : ℕ) → T (is_replica b) → P b
by-replica P p1 p2 p3 p4 p5 p6 p7 p8 zero t = absurd t
by-replica P p1 p2 p3 p4 p5 p6 p7 p8 (suc zero) t = p1
by-replica P p1 p2 p3 p4 p5 p6 p7 p8 (suc (suc zero)) t = p2
by-replica P p1 p2 p3 p4 p5 p6 p7 p8 (suc (suc (suc zero))) t = p3
by-replica P p1 p2 p3 p4 p5 p6 p7 p8 (suc (suc (suc (suc zero)))) t = p4
by-replica P p1 p2 p3 p4 p5 p6 p7 p8 (suc (suc (suc (suc (suc zero))))) t = p5
by-replica P p1 p2 p3 p4 p5 p6 p7 p8 (suc (suc (suc (suc (suc (suc zero)))))) t = p6
by-replica P p1 p2 p3 p4 p5 p6 p7 p8 (suc (suc (suc (suc (suc (suc (suc zero))))))) t = p7
by-replica P p1 p2 p3 p4 p5 p6 p7 p8 (suc (suc (suc (suc (suc (suc (suc (suc zero)))))))) t = p8
by-replica P p1 p2 p3 p4 p5 p6 p7 p8 (suc (suc (suc (suc (suc (suc (suc (suc (suc n))))))))) t =
    absurd (omega (arith, replica-range (suc (suc (suc (suc (suc (suc (suc (suc (suc n))))))))) t))

bit_le : (a b : Bool) → (T a → T b) → bit a ≤ bit b
bit_le true true f = omega arith
bit_le true false f = absurd (f tt)
bit_le false b f = omega arith

bit-one : (a : Bool) → T a → bit a ≡ 1
bit-one true t = refl
bit-one false t = absurd t

bit-small : (a : Bool) → bit a ≤ 1
bit-small true = omega arith
bit-small false = omega arith

-- A subset is no larger.
pub size-sub : (x y : Members) → ((b : ℕ) → T (is_replica b) → T (x b) → T (y b)) → size x ≤ size y
size-sub x y f = omega (arith, le 1 tt, le 2 tt, le 3 tt, le 4 tt, le 5 tt, le 6 tt, le 7 tt, le 8 tt)
  where
    le : (b : ℕ) → T (is_replica b) → bit (x b) ≤ bit (y b)
    le b k = bit_le (x b) (y b) (f b k)

-- The same for the members that qualify.
pub meet-sub : (m q m' q' : Members) → ((b : ℕ) → T (is_replica b) → T (m b) → T (q b) → T (m' b) × T (q' b))
    → size (m ∩ q) ≤ size (m' ∩ q')
meet-sub m q m' q' f = size-sub (m ∩ q) (m' ∩ q')
    (λ b k t. let h = split-and (m b) (q b) t in let z = f b k h.0 h.1 in join-and (m' b) (q' b) z.0 z.1)

-- One member less.
pub size-without : (m : Members) (o : ℕ) → T (is_replica o) → T (m o) → suc (size (upd m o false)) ≡ size m
size-without m o k = by-replica (λ o. T (m o) → suc (size (upd m o false)) ≡ size m)
    (λ t. omega (arith, bit-one (m 1) t)) (λ t. omega (arith, bit-one (m 2) t)) (λ t. omega (arith, bit-one (m 3) t))
    (λ t. omega (arith, bit-one (m 4) t))
    (λ t. omega (arith, bit-one (m 5) t)) (λ t. omega (arith, bit-one (m 6) t)) (λ t. omega (arith, bit-one (m 7) t))
    (λ t. omega (arith, bit-one (m 8) t)) o k

-- One member more, or the same.
pub size-with : (m : Members) (o : ℕ) → T (is_replica o) → size (upd m o true) ≤ suc (size m)
size-with m o k = by-replica (λ o. size (upd m o true) ≤ suc (size m))
    (omega arith) (omega arith) (omega arith) (omega arith) (omega arith) (omega arith) (omega arith) (omega arith) o k

-- A set with a member is not empty.
pub size-some : (m : Members) (o : ℕ) → T (is_replica o) → T (m o) → 1 ≤ size m
size-some m o k t = omega (arith, size-without m o k t)

-- The lowest member is one, and the only one of a set of one.
pub lowest-in : (m : Members) → 1 ≤ size m → T (is_replica (lowest m)) × T (m (lowest m))
lowest-in m h =
    first 1 tt _ λ h1. first 2 tt _ λ h2. first 3 tt _ λ h3. first 4 tt _ λ h4. first 5 tt _ λ h5. first 6 tt _ λ h6.
    first 7 tt _ λ h7. first 8 tt _ λ h8.
    absurd (omega (arith, no 1 h1, no 2 h2, no 3 h3, no 4 h4, no 5 h5, no 6 h6, no 7 h7, no 8 h8))
  where
    zero_bit : (a : Bool) → T (not a) → bit a ≡ 0
    zero_bit true t = absurd t
    zero_bit false t = refl

    no : (b : ℕ) → T (not (m b)) → bit (m b) ≡ 0
    no b t = zero_bit (m b) t

    first : (b : ℕ) → T (is_replica b) → (r : ℕ) → (T (not (m b)) → T (is_replica r) × T (m r))
        → T (is_replica (cond (m b) b r)) × T (m (cond (m b) b r))
    first b k r f = by_cond (λ x. T (is_replica x) × T (m x)) (m b) (λ t. (k, t)) f

pub lowest-only : (m : Members) → size m ≡ 1 → (b : ℕ) → T (is_replica b) → T (m b) → b ≡ lowest m
lowest-only m h b k t = go (eq-or-ne b (lowest m))
  where
    go : (b ≡ lowest m) ⊎ (b ≢ lowest m) → b ≡ lowest m
    go (inl e) = e
    go (inr n) =
        let l = lowest-in m (omega arith) in
        absurd (omega (
          arith,
          size-without m (lowest m) l.0 l.1,
          size-some (upd m (lowest m) false) b k (subst T (sym (upd_other m (lowest m) false b n)) t),
        ))

-- A replica that is in two sets and among the members.
pub record Common (m x y : Members) : Type 0 where
  pub replica : ℕ
  pub real : T (is_replica replica)
  pub member : T (m replica)
  pub first : T (x replica)
  pub second : T (y replica)

-- Two sets that have more of the members than there are meet.
module _ (m x y : Members) where
  abbrev Apart : ℕ → Type 0
  Apart b = bit (m b && x b) + bit (m b && y b) ≤ bit (m b)

  one : (m x y : Bool) → (T m × T x × T y) ⊎ (bit (m && x) + bit (m && y) ≤ bit m)
  one true true true = inl (tt, tt, tt)
  one true true false = inr (omega arith)
  one true false true = inr (omega arith)
  one true false false = inr (omega arith)
  one false x y = inr (omega arith)

  at : (b : ℕ) → T (is_replica b) → (Apart b → Common m x y) → Common m x y
  at b k f = go (one (m b) (x b) (y b))
    where
      go : (T (m b) × T (x b) × T (y b)) ⊎ Apart b → Common m x y
      go (inl t) = record { replica = b; real = k; member = t.0; first = t.1; second = t.2 }
      go (inr h) = f h

  pub overlap : size m < size (m ∩ x) + size (m ∩ y) → Common m x y
  overlap h =
      at 1 tt λ h1. at 2 tt λ h2. at 3 tt λ h3. at 4 tt λ h4. at 5 tt λ h5. at 6 tt λ h6. at 7 tt λ h7. at 8 tt λ h8.
      absurd (omega arith)

-- Those of m that are in q are a majority of m.
abbrev pub has_quorum : Members → Members → Bool
has_quorum m q = is_quorum m (m ∩ q)

-- A quorum is more than half.
pub quorum-half : (m q : Members) → T (has_quorum m q) → size m < 2 * size (m ∩ q)
quorum-half m q t = half (size m) (size (m ∩ q)) (leb→le (quorum (size m)) (size (m ∩ q)) t)
  where
    half : (n k : ℕ) → quorum n ≤ k → n < 2 * k
    half n k h = omega arith
