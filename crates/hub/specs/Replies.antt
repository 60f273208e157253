-- What a call over the lent controller replies, as records of numbers: the model speaks of numbers, the code of results.
-- Cited by the contracts of hub and lending. Assumes nothing.
use Rattle.std.specs.Prelude.{ℕ, Result}
use Rattle.refusal.specs.declared.Refusal.{Refusal}
use Rattle.refusal.specs.Refusal.{answer, handed}
use Rattle.cluster.specs.declared.Controller.{Controller}

-- What a call answers, and the members behind its step as a mask.
pub record Reply : Type 0 where
  pub answer : ℕ
  pub behind : ℕ

-- The reply of a call, and the record that it leaves.
pub record Returned : Type 0 where
  pub reply : Reply
  pub controller : Controller

-- A result hands back the set behind the step.
abbrev pub reply : Result ℕ Refusal → Reply
reply x = record { answer = answer x; behind = handed 0 x }

-- Of a step of the controller c by value, which no one is behind: refused, the caller has c still.
abbrev pub returned : Controller → Result Controller Refusal → Returned
returned c x = record { reply = record { answer = answer x; behind = 0 }; controller = handed c x }
