-- Point updates, checks with their refusal numbers, beginnings of lists.
-- Cited by Steps and Claim, and by contracts of the crates over this one. Assumes nothing.
use Rattle.std.specs.Prelude.{Bool, true, cond, ◌&&◌, List, [], ◌∷◌, ◌++◌, ◌≡◌, ℕ, eqb}

-- f, with the value v at b.
abbrev pub upd {ℓ} : {A : Type ℓ} → (ℕ → A) → ℕ → A → ℕ → A
upd f b v x = cond (eqb x b) v (f x)

-- A check of a step, and the number of the refusal where it fails.
infix 20 ◌else◌
pub data Check : Type 0 where
  ◌else◌ : Bool → ℕ → Check

-- The refusal of the first check that fails, 0 where none does.
abbrev pub first_failed : List Check → ℕ
first_failed [] = 0
first_failed ((c else n) ∷ cs) = cond c (first_failed cs) n

-- No check fails.
abbrev pub passes : List Check → Bool
passes [] = true
passes ((c else n) ∷ cs) = c && passes cs

-- The test of the check with refusal n, true where no check has it. (No step has two checks with one refusal.)
abbrev pub asks : ℕ → List Check → Bool
asks n [] = true
asks n ((c else m) ∷ cs) = cond (eqb n m) c (asks n cs)

-- xs is a beginning of ys.
infix 40 ◌⊑◌
pub record ◌⊑◌ {E : Type 0} (xs ys : List E) : Type 0 where
  pub rest : List E
  pub is : xs ++ rest ≡ ys
