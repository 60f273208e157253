-- What a call that gives a list answers, as a record of numbers. Cited by the contracts of delivery, drafting, planning
-- and guiding. Assumes nothing.
use Rattle.std.specs.Prelude.{ℕ, Result}
use Rattle.refusal.specs.declared.Refusal.{Refusal}
use Rattle.refusal.specs.Refusal.{answer, handed}

-- 0, or the number of the refusal; and how many records the list has, 0 where it is refused.
pub record Planned : Type 0 where
  pub answer : ℕ
  pub count : ℕ

abbrev pub planned : Result ℕ Refusal → Planned
planned x = record { answer = answer x; count = handed 0 x }
