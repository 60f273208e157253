-- Facts of every place of a list by one test that antt computes. Assumes nothing.
use mathlib.Core.Bool.{Bool, true, false, not, ◌&&◌, ◌||◌}
use mathlib.Core.List.{[], ◌∷◌}
use mathlib.Core.Path.{◌≡◌, refl, subst}
use Prim.Native.Nat.{ℕ, ◌<◌}
use lib.Dec.{T, T_not, eqb, eqb_refl}
use Rattle.model.proofs.Tests.{of-true, join-and}
use Rattle.members.proofs.Finite.{all, below}
use Rattle.text.specs.Text.{Text}

-- A test that all numbers below n pass, and one of two numbers.
pub passes : (n : ℕ) (p : ℕ → Bool) → all p n ≡ true → (i : ℕ) → i < n → T (p i)
passes n p t i h = of-true (below p n t i h)

pub passes-both : (n m : ℕ) (p : ℕ → ℕ → Bool) → all (λ i. all (p i) m) n ≡ true → (i k : ℕ) → i < n → k < m → T (p i k)
passes-both n m p t i k h l = passes m (p i) (below (λ i. all (p i) m) n t i h) k l

-- Truth values, and texts, compared.
abbrev pub agree : Bool → Bool → Bool
agree true b = b
agree false b = not b

pub agreeing : (a b : Bool) → T (agree a b) → a ≡ b
agreeing true true t = refl
agreeing true false t = absurd t
agreeing false true t = absurd t
agreeing false false t = refl

abbrev pub same : Text → Text → Bool
same [] [] = true
same [] (y ∷ ys) = false
same (x ∷ xs) [] = false
same (x ∷ xs) (y ∷ ys) = eqb x y && same xs ys

same_self : (xs : Text) → T (same xs xs)
same_self [] = tt
same_self (x ∷ xs) = join-and (eqb x x) (same xs xs) (eqb_refl x) (same_self xs)

-- Where different texts are asked for, or the test b: equal texts pass b.
pub told-apart : (xs ys : Text) (b : Bool) → T (not (same xs ys) || b) → xs ≡ ys → T b
told-apart xs ys b t e = go (not (same xs ys)) t (λ u. T_not (same xs ys) u
    (subst (λ z. T (same xs z)) e (same_self xs)))
  where
    go : (a : Bool) → T (a || b) → (T a → ⊥) → T b
    go true t f = absurd (f tt)
    go false t f = t
