-- The bytes of records, read back as those records. Assumes nothing.
use mathlib.Core.List.{List, [], ◌∷◌, ◌++◌}
use mathlib.Core.Path.{◌≡◌, refl, ap}
use Prim.Native.Nat.{ℕ, ◌*◌, ◌/◌, ◌%◌, ◌^◌, ◌<◌}
use native.Mathlib.Omega.{arith}
use lib.ListN.{length, length-append}
use lib.Seq.{drop_at}
use Rattle.model.specs.Records.{Record}
use Rattle.text.specs.Text.{Text}
use Rattle.records.specs.Bytes.{number, record_at, record_bytes, sheet_bytes, records}

-- A number of 32 bits is read back from its four bytes.
number-back : (v : ℕ) → v < 2 ^ 32 → number (v % 256) (v / 256 % 256) (v / 65536 % 256) (v / 16777216 % 256) ≡ v
number-back v h = let e : v / 16777216 % 256 ≡ v / 16777216 = omega arith in rw e (omega arith)

-- A record whose value has 32 bits is read back, whatever follows.
pub record-back : (r : Record) (rest : Text) → r.value < 2 ^ 32 → record_at (record_bytes r ++ rest) ≡ r
unfolding record_bytes
record-back r rest h = λ i. record {
  step = r.step;
  board = r.board;
  other = r.other;
  spare = r.spare;
  value = number-back r.value h i;
}

pub bytes-length : (r : Record) → length (record_bytes r) ≡ 8
unfolding record_bytes
bytes-length r = refl

pub sheet-length : (rs : List Record) → length (sheet_bytes rs) ≡ 8 * length rs
unfolding sheet_bytes
sheet-length [] = refl
sheet-length (r ∷ rs) = omega (arith, length-append (record_bytes r) (sheet_bytes rs), bytes-length r, sheet-length rs)

-- The value has 32 bits in every record.
abbrev pub Words : List Record → Type 0
Words [] = Unit {0}
Words (r ∷ rs) = (r.value < 2 ^ 32) × Words rs

-- Such records are read back.
pub records-back : (rs : List Record) (n : ℕ) → Words rs → n ≡ length rs → records n (sheet_bytes rs) ≡ rs
unfolding records sheet_bytes
records-back [] n h e = rw e
records-back (r ∷ rs) n h e =
    rw (e, record-back r (sheet_bytes rs) h.0, drop_at (record_bytes r) (sheet_bytes rs) 8 (bytes-length r))
    (ap (λ (l : List Record). r ∷ l) (records-back rs (length rs) h.1 refl))
