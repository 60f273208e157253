-- What the reader answers and leaves, as a record of numbers: the definitions speak of numbers, the code of results.
-- Cited by the contract of load, and by the theorems over lists of calls. Assumes nothing.
use Rattle.std.specs.Prelude.{ℕ, Result}
use Rattle.refusal.specs.declared.Refusal.{Refusal}
use Rattle.refusal.specs.Refusal.{answer}
use Rattle.cluster.specs.declared.Cluster.{Cluster}

-- What the reader answers, 0 for an image that it took, and the row: the image's, or the one that was given.
pub record Loaded : Type 0 where
  pub answer : ℕ
  pub row : Cluster

-- Of a result, and of the row that the call left.
abbrev pub loaded : Result Unit Refusal → Cluster → Loaded
loaded x row = record { answer = answer x; row = row }
