-- Which check an answer comes from: refusal numbers that stand once in a list of checks, or nowhere. Assumes nothing.
use mathlib.Core.Bool.{Bool, true, false, not, cond, ◌&&◌}
use mathlib.Core.List.{List, [], ◌∷◌}
use mathlib.Core.Logic.{◌≢◌}
use mathlib.Core.Path.{◌≡◌, sym}
use Prim.Native.Nat.{ℕ}
use lib.Dec.{T, eqb}
use Rattle.model.specs.Prelude.{Check, ◌else◌, first_failed, asks}
use Rattle.model.proofs.Tests.{split-and, by-test, is_true, is_false, eq_test, ne-fact}

-- No check has the refusal n.
abbrev pub absent : ℕ → List Check → Bool
absent n [] = true
absent n ((c else m) ∷ cs) = not (eqb n m) && absent n cs

-- One check at most has it.
abbrev pub once : ℕ → List Check → Bool
once n [] = true
once n ((c else m) ∷ cs) = cond (eqb n m) (absent n cs) (once n cs)

module _ (n : ℕ) (some : n ≢ 0) where
  pub absent-not : (cs : List Check) → T (absent n cs) → first_failed cs ≢ n
  absent-not [] t e = some (sym e)
  absent-not ((true else m) ∷ cs) t e = absent-not cs (split-and (not (eqb n m)) (absent n cs) t).1 e
  absent-not ((false else m) ∷ cs) t e = ne-fact n m (split-and (not (eqb n m)) (absent n cs) t).0 (sym e)

  -- Where the answer is n, the check with n fails.
  pub once-fails : (cs : List Check) → T (once n cs) → first_failed cs ≡ n → ¬ T (asks n cs)
  once-fails [] t e a = some (sym e)
  once-fails ((true else m) ∷ cs) t e a = by-test (eqb n m)
      (λ h. absent-not cs (rw (is_true (eqb n m) h) at t) e)
      (λ h. once-fails cs (rw (is_false (eqb n m) h) at t) e (rw (is_false (eqb n m) h) at a))
  once-fails ((false else m) ∷ cs) t e a = rw (is_true (eqb n m) (eq_test n m (sym e))) at a
