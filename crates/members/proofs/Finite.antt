-- A fact of every number below a bound, of every replica, and of every place of a table, by one test that antt
-- computes. Assumes nothing.
use mathlib.Core.Bool.{Bool, true, false, ◌&&◌, and-eq-true_iff, beq}
use mathlib.Core.List.{List, [], ◌∷◌}
use mathlib.Core.Path.{◌≡◌, refl, sym, subst, ap, ◌∙◌}
use Prim.Native.Nat.{ℕ, zero, suc, ◌+◌, ◌-◌, ◌<◌, ◌≤◌}
use native.Mathlib.Nat.{add-zero, zero-add, add-suc, suc-add, le_of_suc-le-suc, not-suc-le-zero}
use native.Mathlib.Omega.{arith}
use lib.Dec.{eqb}
use lib.ListN.{get_or}
use borrow.Author.Tests.{eqb-true, eqb-false}

-- The test passes at every number below n.
abbrev pub all : (ℕ → Bool) → ℕ → Bool
all f zero = true
all f (suc n) = f n && all f n

last : (f : ℕ → Bool) (n k : ℕ) (s : Bool) → eqb k n ≡ s → k < suc n → f n ≡ true → (k < n → f k ≡ true) → f k ≡ true
last f n k true e h t p = subst (λ i. f i ≡ true) (sym (eqb-true k n e)) t
last f n k false e h t p = let d = eqb-false k n e in p (omega arith)

pub below : (f : ℕ → Bool) (n : ℕ) → all f n ≡ true → (k : ℕ) → k < n → f k ≡ true
below f zero t k h = absurd (not-suc-le-zero h)
below f (suc n) t k h =
    let both = (and-eq-true_iff (f n) (all f n)).0 t in
    last f n k (eqb k n) refl h both.0 (λ l. below f n both.1 k l)

-- The rule's numbers at i, i + 1 and so on, n of them.
abbrev pub table_from : (ℕ → ℕ) → ℕ → ℕ → List ℕ
table_from rule i zero = []
table_from rule i (suc n) = rule i ∷ table_from rule (suc i) n

-- The table of a rule: its numbers at 0 to n - 1. Where an array stands in a goal and this table in what is offered for
-- it, antt computes the rule at all n places and compares: the test that the array is the rule's.
abbrev pub table : (ℕ → ℕ) → ℕ → List ℕ
table rule n = table_from rule 0 n

-- The number at place k of what begins at i.
from : (rule : ℕ → ℕ) (i n k : ℕ) → k < n → get_or (table_from rule i n) k 0 ≡ rule (i + k)
from rule i zero k h = absurd (not-suc-le-zero h)
from rule i (suc n) zero h = ap rule (sym (add-zero i))
from rule i (suc n) (suc k) h = from rule (suc i) n k (le_of_suc-le-suc h) ∙ ap rule (suc-add i k ∙ sym (add-suc i k))

-- The table's number at a place is the rule's there.
pub table_at : (rule : ℕ → ℕ) (n k : ℕ) → k < n → get_or (table rule n) k 0 ≡ rule k
table_at rule n k h = from rule 0 n k h ∙ ap rule (zero-add k)

-- The test passes at every replica.
abbrev pub each : (ℕ → Bool) → Bool
each f = all (λ k. f (suc k)) 8

pub at-replica : (f : ℕ → Bool) → each f ≡ true → (b : ℕ) → 1 ≤ b → b ≤ 8 → f b ≡ true
at-replica f t b h k =
    let e : suc (b - 1) ≡ b = omega arith in
    subst (λ i. f i ≡ true) e (below (λ i. f (suc i)) 8 t (b - 1) (omega arith))

pub at-replicas : (f : ℕ → ℕ → Bool) → each (λ b. each (f b)) ≡ true → (b x : ℕ) → 1 ≤ b → b ≤ 8 → 1 ≤ x → x ≤ 8
    → f b x ≡ true
at-replicas f t b x hb kb hx kx = at-replica (f b) (at-replica (λ c. each (f c)) t b hb kb) x hx kx

-- Two tests with one outcome are equal.
pub beq-true : (s t : Bool) → beq s t ≡ true → s ≡ t
beq-true true true e = refl
beq-true true false e = sym e
beq-true false true e = e
beq-true false false e = refl
