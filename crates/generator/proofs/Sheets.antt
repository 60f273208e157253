-- The sheet of a seed: its length, and what the call returns and leaves. Assumes nothing.
use mathlib.Core.Bool.{true}
use mathlib.Core.List.{◌++◌}
use mathlib.Core.Path.{◌≡◌, refl, ◌∙◌}
use Prim.Native.Nat.{ℕ, zero, suc, ◌-◌, ◌*◌, ◌<◌, ◌≤◌}
use native.Mathlib.Nat.{not-suc-le-zero}
use native.Mathlib.Omega.{arith}
use lib.Dec.{leb, leb→le}
use lib.ListN.{length}
use borrow.Author.Tests.{le-leb, lt-leb}
use Rattle.model.proofs.Tests.{split-and, of-true}
use Rattle.model.specs.Records.{of}
use Rattle.std.specs.Prelude.{false, Result, Ok, Err}
use Rattle.refusal.specs.declared.Refusal.{Refusal}
use Rattle.refusal.specs.declared.Refusal.TheVariants.{Sheet, Room}
use Rattle.text.specs.Text.{Text, Wrote, over}
use Rattle.records.specs.Bytes.{record_bytes, sheet_bytes}
use Rattle.records.proofs.Encoding.{bytes-length, sheet-length}
use Rattle.draws.specs.Draws.{advance, board_from, Drawn, drawn, later, seed_records}
use Rattle.generator.specs.Seeded.{seed_sheet, is_count, outcome_of, left}
use Rattle.generator.proofs.Later.{later-length}

pub seed-length : (s n : ℕ) → length (seed_records s n) ≡ n
unfolding seed_records
seed-length s zero = refl
seed-length s (suc k) = omega (arith, later-length k (advance s))

pub later-bytes : (k s : ℕ) → length (sheet_bytes (later k s)) ≡ 8 * k
later-bytes k s = sheet-length (later k s) ∙ rw (later-length k s)

pub sheet-bytes : (s n : ℕ) → length (seed_sheet s n) ≡ 8 * n
unfolding seed_sheet
sheet-bytes s n = sheet-length (seed_records s n) ∙ rw (seed-length s n)

pub is-count : (n : ℕ) → 1 ≤ n → n ≤ 4095 → is_count n ≡ true
is-count n l h = rw (le-leb 1 n l, le-leb n 4095 h)

pub count-range : (n : ℕ) → is_count n ≡ true → (1 ≤ n) × (n ≤ 4095)
count-range n e =
    let t = split-and (leb 1 n) (leb n 4095) (of-true e) in (leb→le 1 n t.0, leb→le n 4095 t.1)

-- The opening's bytes, then those of the other records.
pub opening-first : (s n : ℕ) → 1 ≤ n
    → seed_sheet s n ≡ record_bytes (of 0 (board_from (advance s))) ++ sheet_bytes (later (n - 1) (advance s))
unfolding seed_sheet seed_records sheet_bytes
opening-first s zero h = absurd (not-suc-le-zero h)
opening-first s (suc k) h = let e : suc k - 1 ≡ k = omega arith in rw e

-- The opening as it is drawn, and the state after it.
abbrev pub opening : ℕ → Drawn
opening s = drawn (of 0 (board_from (advance s))) (advance s)

-- The call, its tests in order

module _ (s n : ℕ) (out : Text) where
  pub other_count : is_count n ≡ false → (Err Sheet ≡ outcome_of s n out) × (out ≡ left s n out)
  unfolding outcome_of left
  other_count h = (rw h, rw h)

  module _ (c : is_count n ≡ true) where
    pub short : length out < 8 * n → (Err Room ≡ outcome_of s n out) × (out ≡ left s n out)
    unfolding outcome_of left
    short h = let e = lt-leb (8 * n) (length out) h in (rw (c, sheet-bytes s n, e), rw (c, sheet-bytes s n, e))

    -- The tests are passed.
    pub passed : 8 * n ≤ length out
        → (outcome_of s n out ≡ Ok (8 * n)) × (left s n out ≡ over out 0 (seed_sheet s n))
    unfolding outcome_of left
    passed h = let f = le-leb (8 * n) (length out) h in (rw (c, sheet-bytes s n, f), rw (c, sheet-bytes s n, f))

    -- For a caller that lends enough.
    pub made : {r : Result ℕ Refusal} {e : Text} → 8 * n ≤ length out → (r ≡ outcome_of s n out) × (e ≡ left s n out)
        → (r ≡ Ok (8 * n)) × Wrote out 0 (seed_sheet s n) e (8 * n)
    made h w =
        let p = passed h in
        (w.0 ∙ p.0, record { next = omega (arith, sheet-bytes s n); text = w.1 ∙ p.1 })

-- For `seed_sheet`, as its tactic.
pub ruleset seeded = (sheet-bytes, opening-first, count-range, later-bytes, bytes-length)
