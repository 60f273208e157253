-- The records after the opening, as the code writes them. Assumes nothing.
use mathlib.Core.List.{[], ◌++◌}
use mathlib.Core.Path.{◌≡◌, refl, ◌∙◌}
use Prim.Native.Nat.{ℕ, zero, suc, ◌+◌, ◌-◌, ◌<◌, ◌≤◌}
use native.Mathlib.Nat.{not-suc-le-zero}
use native.Mathlib.Omega.{arith}
use lib.ListN.{length}
use Rattle.records.specs.Bytes.{record_bytes, sheet_bytes}
use Rattle.draws.specs.Draws.{Drawn, draw_record, later}

pub later-length : (k s : ℕ) → length (later k s) ≡ k
unfolding later
later-length zero s = refl
later-length (suc k) s = omega (arith, later-length k (draw_record s).state)

-- The bytes of k records are those of the first, then those of the others.
pub later-more : (k s : ℕ) → 1 ≤ k
    → sheet_bytes (later k s) ≡ record_bytes (draw_record s).made ++ sheet_bytes (later (k - 1) (draw_record s).state)
unfolding later sheet_bytes
later-more zero s h = absurd (not-suc-le-zero h)
later-more (suc k) s h = let e : suc k - 1 ≡ k = omega arith in rw e

-- What is left to write when i of k records are written, s the state of the draw before the next, x.
pub later-next : (k i s : ℕ) (x : Drawn) → i < k → x ≡ draw_record s
    → sheet_bytes (later (k - i) s) ≡ record_bytes x.made ++ sheet_bytes (later (k - (i + 1)) x.state)
later-next k i s x h e = let n : k - i - 1 ≡ k - (i + 1) = omega arith in later-more (k - i) s (omega arith) ∙ rw (e, n)

pub later-none : (k i s : ℕ) → k ≤ i → sheet_bytes (later (k - i) s) ≡ []
unfolding later sheet_bytes
later-none k i s h = let e : k - i ≡ 0 = omega arith in rw e
