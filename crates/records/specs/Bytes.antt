-- The records of a sheet of document 01, byte for byte, and refusal 2. Cited by the contracts of records, listing,
-- sheet and generator. Assumes nothing.
use Rattle.std.specs.Prelude.{Bool, ◌&&◌, List, [], ◌∷◌, ◌++◌, ℕ, zero, suc, ◌+◌, ◌*◌, ◌/◌, ◌%◌, eqb, leb, length, get_or, drop}
use Rattle.model.specs.Records.{Record}
use Rattle.text.specs.Text.{Text}
-- The model's test of a valid opening, under a name of this file too.
pub use Rattle.model.specs.Records.{is_opening}

-- Four bytes as a number, the low byte first.
abbrev pub number : ℕ → ℕ → ℕ → ℕ → ℕ
number a b c d = a + 256 * b + 65536 * c + 16777216 * d

-- "A record is 8 bytes": the step, the board, b in step 9, a zero byte, the value with its low byte first.
abbrev pub record_at : Text → Record
record_at s = record {
  step = get_or s 0 0;
  board = get_or s 1 0;
  other = get_or s 2 0;
  spare = get_or s 3 0;
  value = number (get_or s 4 0) (get_or s 5 0) (get_or s 6 0) (get_or s 7 0);
}

-- Those bytes of a record. (A value has 32 bits.)
unfoldable pub record_bytes : Record → Text
record_bytes r =
    r.step ∷ r.board ∷ r.other ∷ r.spare
    ∷ r.value % 256 ∷ r.value / 256 % 256 ∷ r.value / 65536 % 256 ∷ r.value / 16777216 % 256 ∷ []

-- The records rs as bytes, one after the other.
unfoldable pub sheet_bytes : List Record → Text
unfolding record_bytes
sheet_bytes [] = []
sheet_bytes (r ∷ rs) = record_bytes r ++ sheet_bytes rs

-- The first n records.
unfoldable pub records : ℕ → Text → List Record
records zero s = []
records (suc n) s = record_at s ∷ records n (drop 8 s)

-- "A sheet has 1 to 4,095 records": whether n bytes are so many.
abbrev pub whole_records : ℕ → Bool
whole_records n = eqb (n % 8) 0 && leb 1 (n / 8) && leb (n / 8) 4095

-- A sheet that document 01's refusal 2 lets through. (The empty one, which it does not, has a listing: crate `sheet`.)
abbrev pub is_sheet : Text → Bool
is_sheet s = whole_records (length s) && is_opening (record_at s)
