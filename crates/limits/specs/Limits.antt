-- The two long trials of document 01, at the limits of a log and of the epochs. Cited by the promise of `trials`.
-- Assumes nothing.
use Rattle.std.specs.Prelude.{List, [], ◌∷◌, ◌++◌, ℕ, zero, suc, T, eqb, length, replicate}
use Rattle.model.specs.Records.{of, of_value}
use Rattle.model.specs.Trials.{Trial, running, all_hold}

-- "Append 512 accepted, 513 gives 13."
abbrev full : Trial
full = running 1 (replicate 513 (of_value 1 1 7)) (replicate 512 0 ++ (13 ∷ [])) (λ s. eqb (length (s.log 1)) 512)

-- x and y in turn, n times each
abbrev pub in_turn : {A : Type 0} → ℕ → A → A → List A
in_turn zero x y = []
in_turn (suc n) x y = x ∷ y ∷ in_turn n x y

-- "Adding and removing 2 in turn 3,999 times reaches epoch 4,000; the next gives 7."
abbrev worn : Trial
worn =
    running 1 (in_turn 2000 (of 3 2) (of 4 2)) (replicate 3999 0 ++ (7 ∷ [])) (λ s. eqb s.registry.view.epoch 4000)

unfoldable pub LimitsHold : Type 0
LimitsHold = T (all_hold (full ∷ worn ∷ []))
