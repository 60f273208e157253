-- A number's bytes are the number. Assumes nothing.
use mathlib.Core.Path.{◌≡◌}
use Prim.Native.Nat.{ℕ, ◌+◌, ◌*◌, ◌/◌, ◌%◌, ◌^◌, ◌<◌}
use native.Mathlib.Omega.{arith}
use Rattle.std.specs.Int.{w16, w32, to_le_bytes}
use Rattle.fields.specs.Fields.{two, four}

pub two_back : (n : ℕ) → n % 256 + 256 * (n / 256) ≡ n
two_back n = omega arith

pub four-back : (n : ℕ)
    → n % 256 + 256 * (n / 256 % 256) + 65536 * (n / 65536 % 256) + 16777216 * (n / 16777216) ≡ n
four-back n = omega arith

-- std's bytes of a number are these.
pub two_bytes : (n : ℕ) → n < 2 ^ 16 → to_le_bytes w16 n ≡ two n
two_bytes n h = let e : n / 256 % 256 ≡ n / 256 = omega arith in rw e

pub four_bytes : (n : ℕ) → n < 2 ^ 32 → to_le_bytes w32 n ≡ four n
four_bytes n h = let e : n / 16777216 % 256 ≡ n / 16777216 = omega arith in rw e
