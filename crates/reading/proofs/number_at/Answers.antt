-- `reading::number_at` meets its contract. Assumes nothing.
use Rattle.std.proofs.Common.{◌≤◌, ℕ, arith, length-take, length-drop}
use Rattle.reading.proofs.Reading.{Sofar-small}
use Rattle.reading.proofs.number_at.Goals as goal

pub overflow_mul-n : goal.overflow_mul-n
overflow_mul-n c =
    let few : c.loop-b.b-index ≤ 15 = omega (arith, length-take {A = ℕ}, length-drop {A = ℕ}) in
    let small = Sofar-small c.loop-b.invariant.1 few in
    omega arith

pub overflow_add-n : goal.overflow_add-n
overflow_add-n c =
    let few : c.loop-b.b-index ≤ 15 = omega (arith, length-take {A = ℕ}, length-drop {A = ℕ}) in
    let small = Sofar-small c.loop-b.invariant.1 few in
    omega arith
