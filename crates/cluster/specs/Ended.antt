-- What a step answers and leaves, as records of numbers: the model speaks of numbers, the code of results. Cited by the
-- contracts of all steps, and by the theorems over lists of calls. Assumes nothing.
use Rattle.std.specs.Prelude.{ℕ, Result}
use Rattle.refusal.specs.declared.Refusal.{Refusal}
use Rattle.refusal.specs.Refusal.{answer, handed}
use Rattle.cluster.specs.declared.Registry.{Registry}
use Rattle.cluster.specs.declared.Controller.{Controller}
use Rattle.cluster.specs.declared.Cluster.{Cluster}

-- What a step answers, the members behind it as a mask (the empty set for a refused step and for one that asks no
-- majority), and the row it leaves.
pub record Outcome : Type 0 where
  pub answer : ℕ
  pub behind : ℕ
  pub row : Cluster

-- What a step of the registry answers, and the registry it leaves.
pub record Ruled : Type 0 where
  pub answer : ℕ
  pub registry : Registry

-- What a step of the controller answers, and the controller it leaves.
pub record Told : Type 0 where
  pub answer : ℕ
  pub controller : Controller

-- What a step of both answers, the members behind it, and what it leaves.
pub record Settled : Type 0 where
  pub answer : ℕ
  pub behind : ℕ
  pub registry : Registry
  pub controller : Controller

-- Of a result, and of what the call left where it was lent. A result hands back the set behind the step.
abbrev pub outcome : Result ℕ Refusal → Cluster → Outcome
outcome x row = record { answer = answer x; behind = handed 0 x; row = row }

abbrev pub ruled : Result Unit Refusal → Registry → Ruled
ruled x r = record { answer = answer x; registry = r }

abbrev pub settled : Result ℕ Refusal → Registry → Controller → Settled
settled x r c = record { answer = answer x; behind = handed 0 x; registry = r; controller = c }

-- Of a step of the controller c by value: refused, the caller has c still.
abbrev pub told : Controller → Result Controller Refusal → Told
told c x = record { answer = answer x; controller = handed c x }
