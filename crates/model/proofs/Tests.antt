-- Tests as facts, checks as facts, choices and point updates. Assumes nothing.
use mathlib.Core.Bool.{Bool, true, false, not, cond, ◌&&◌, ◌||◌}
use mathlib.Core.List.{List, [], ◌∷◌}
use mathlib.Core.Logic.{◌⊎◌, inl, inr, ◌≢◌}
use mathlib.Core.Path.{◌≡◌, refl, sym, subst, fun_ext}
use Prim.Native.Nat.{ℕ, ◌≤◌, ◌<◌}
use lib.Dec.{T, leb, eqb, T_not}
use borrow.Author.Tests.{eqb-true, eqb-false, eq-eqb, ne_eqb, leb-true, leb-false}
use Rattle.model.specs.Prelude.{upd, Check, ◌else◌, passes, asks}

-- Booleans

pub of-true : {t : Bool} → t ≡ true → T t
of-true e = subst T (sym e) tt

pub is_true : (t : Bool) → T t → t ≡ true
is_true true h = refl
is_true false h = absurd h

pub is_false : (t : Bool) → T (not t) → t ≡ false
is_false true h = absurd h
is_false false h = refl

pub split-and : (a b : Bool) → T (a && b) → T a × T b
split-and true b t = (tt, t)
split-and false b t = absurd t

pub join-and : (a b : Bool) → T a → T b → T (a && b)
join-and true b s t = t
join-and false b s t = s

pub not_left : (a b : Bool) → T (not (a || b)) → T (not a)
not_left true b t = t
not_left false b t = tt

pub not_right : (a b : Bool) → T (not (a || b)) → T (not b)
not_right true b t = absurd t
not_right false b t = t

pub not-both : (a b : Bool) → T (not (a && b)) → T a → T (not b)
not-both true b t s = t
not-both false b t s = absurd s

-- A test by its two outcomes.
pub by-test {ℓ} : {P : Type ℓ} (t : Bool) → (T t → P) → (T (not t) → P) → P
by-test true f g = f tt
by-test false f g = g tt

-- A choice by its two outcomes.
pub by_cond {ℓ κ} : {A : Type ℓ} (P : A → Type κ) (t : Bool) {x y : A} → (T t → P x) → (T (not t) → P y)
    → P (cond t x y)
by_cond P true f g = f tt
by_cond P false f g = g tt

-- A choice of two that are the same.
pub same-choice : {A : Type 0} (t : Bool) {x y : A} → x ≡ y → y ≡ cond t x y
same-choice true e = sym e
same-choice false e = refl

-- Numbers

pub eqb_same : (b : ℕ) → eqb b b ≡ true
eqb_same b = eq-eqb b b refl

pub eq_test : (x y : ℕ) → x ≡ y → T (eqb x y)
eq_test x y e = of-true (eq-eqb x y e)

pub ne-fact : (x y : ℕ) → T (not (eqb x y)) → x ≢ y
ne-fact x y t e = T_not (eqb x y) t (eq_test x y e)

pub le-or-lt : (n m : ℕ) → (n ≤ m) ⊎ (m < n)
le-or-lt n m = go (leb n m) refl
  where
    go : (t : Bool) → leb n m ≡ t → (n ≤ m) ⊎ (m < n)
    go true e = inl (leb-true n m e)
    go false e = inr (leb-false n m e)

pub eq-or-ne : (n m : ℕ) → (n ≡ m) ⊎ (n ≢ m)
eq-or-ne n m = go (eqb n m) refl
  where
    go : (t : Bool) → eqb n m ≡ t → (n ≡ m) ⊎ (n ≢ m)
    go true e = inl (eqb-true n m e)
    go false e = inr (eqb-false n m e)

-- A property of every number, by the number b and the others.
pub at-or : {P : ℕ → Type 0} (b : ℕ) → P b → ((x : ℕ) → x ≢ b → P x) → (x : ℕ) → P x
at-or {P} b p f x = go (eqb x b) refl
  where
    go : (t : Bool) → eqb x b ≡ t → P x
    go true e = subst P (sym (eqb-true x b e)) p
    go false e = f x (eqb-false x b e)

-- Point updates

pub upd_same {ℓ} : {A : Type ℓ} (f : ℕ → A) (b : ℕ) (v : A) → upd f b v b ≡ v
upd_same f b v = rw (eqb_same b)

pub upd_other {ℓ} : {A : Type ℓ} (f : ℕ → A) (b : ℕ) (v : A) (x : ℕ) → x ≢ b → upd f b v x ≡ f x
upd_other f b v x n = rw (ne_eqb x b n)

-- The second of two updates at one place counts.
pub upd-twice : {A : Type 0} (f : ℕ → A) (b : ℕ) (v w : A) → upd (upd f b v) b w ≡ upd f b w
upd-twice f b v w = fun_ext (at-or b (rw (eqb_same b)) (λ x n. rw (ne_eqb x b n)))

-- To write what stands there changes nothing.
pub upd-idle : {A : Type 0} (f : ℕ → A) (b : ℕ) (v : A) → f b ≡ v → upd f b v ≡ f
upd-idle f b v e = fun_ext (at-or b (rw (eqb_same b) (sym e)) (λ x n. rw (ne_eqb x b n)))

-- Checks

-- What passed checks tell, by refusal: with h : Holds cs, the fact of the check that refuses with 11 is `h 11`.
abbrev pub Holds : List Check → Type 0
Holds cs = (n : ℕ) → T (asks n cs)

pub facts : (cs : List Check) → T (passes cs) → Holds cs
facts [] t n = tt
facts ((c else m) ∷ cs) t n =
    let h = split-and c (passes cs) t in by_cond T (eqb n m) (λ _. h.0) (λ _. facts cs h.1 n)
