-- What a call over a sheet answers, 2, 3 or a length, and leaves in its slice. Assumes nothing.
use mathlib.Core.Bool.{Bool, true, false, cond}
use mathlib.Core.Path.{◌≡◌, refl}
use Prim.Native.Nat.{ℕ, ◌<◌, ◌≤◌}
use native.Mathlib.Omega.{arith}
use lib.Dec.{leb}
use lib.ListN.{length}
use borrow.Author.Tests.{leb-true}
use Rattle.text.specs.Text.{Text, over}
use Rattle.text.proofs.Laws.{over-length}

-- A result that is no refusal is a length within the slice,
pub within : (a t : Bool) (n m : ℕ) → leb n m ≡ t → 3 < cond a (cond t n 3) 2 → cond a (cond t n 3) 2 ≤ m
within true true n m e h = leb-true n m e
within true false n m e h = absurd (omega (arith, h))
within false t n m e h = absurd (omega (arith, h))

-- and the slice is as long as it was.
pub kept-length : (t : Bool) (out xs : Text) → length (cond t (over out 0 xs) out) ≡ length out
kept-length true out xs = over-length out 0 xs
kept-length false out xs = refl
