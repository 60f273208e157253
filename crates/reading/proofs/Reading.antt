-- Reading a number byte by byte. Assumes nothing.
use Rattle.std.proofs.Common.{◌≡◌, ℕ, ◌+◌, ◌^◌, ◌<◌, ◌≤◌, length, drop, arith}
use native.Mathlib.Nat.{pow-le-pow_right}
use Rattle.text.specs.Text.{Text}
use Rattle.reading.specs.Reading.{is_digit, leading, reads}

-- Of the first k bytes of xs, all digits, the number v was read; with the digits that are left it is all of them.
pub record Sofar (xs : Text) (v k : ℕ) : Type 0 where
  pub value : reads v (leading is_digit (drop k xs)) ≡ reads 0 (leading is_digit xs)
  pub end : k + length (leading is_digit (drop k xs)) ≡ length (leading is_digit xs)
  pub small : v < 10 ^ k

-- What was read is so small that ten times it and a digit fit.
pub Sofar-small : {xs : Text} {v k : ℕ} → Sofar xs v k → k ≤ 15 → v < 10 ^ 15
Sofar-small {xs} {v} {k} q h = let b : 10 ^ k ≤ 10 ^ 15 = pow-le-pow_right (omega arith) h in omega (arith, q.small)
