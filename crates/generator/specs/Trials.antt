-- Trials of the definitions: draws and records that were worked out apart from them, from the paper's words. Cited by
-- `trials`. Assumes nothing.
use Rattle.std.specs.Prelude.{[], ◌∷◌, ◌≡◌, ℕ, length}
use Rattle.model.specs.Records.{bare, of, of_both, of_value}
use Rattle.text.specs.Text.{Text}
use Rattle.draws.specs.Draws.{advance, draw, second_board, seed_records}
use Rattle.generator.specs.Seeded.{result_of, left}

-- In hexadecimal: the state 9e3779b9 shifted right 16 places is 00009e37, the exclusive-or 9e37e78e; that shifted left
-- 7 places is 4f1bf3c700, of which 1bf3c700 is kept, and the exclusive-or is 85c4208e. The state 0 gives 0; 1 gives 1
-- and 80, so 81; ffffffff gives ffff0000 and ff800000, so 007f0000.
abbrev pub DrawsHold : Type 0
DrawsHold = (draw 2654435769 ≡ 2244223118) × (draw 0 ≡ 0) × (draw 1 ≡ 129) × (draw 4294967295 ≡ 8323072)

-- The sum passes 4,294,967,296; and the draw is not fed back: the second state of seed 0 is twice the constant.
abbrev pub StatesHold : Type 0
StatesHold =
    (advance 0 ≡ 2654435769) × (advance 1640531527 ≡ 0) × (advance 4294967295 ≡ 2654435768)
    × (advance (advance 0) ≡ 1013904242) × (draw 1013904242 ≡ 185155868)

-- An equal second board; an 8 that is not equal stays.
abbrev pub BoardsHold : Type 0
BoardsHold =
    (second_board 3 3 ≡ 4) × (second_board 8 8 ≡ 1) × (second_board 3 8 ≡ 8) × (second_board 8 3 ≡ 3)

-- The first records of seed 0: 2,244,223,118 is 6 modulo 8; 185,155,868 is 8 modulo 15; then 2,315,088,141 and
-- 370,311,865 are 5 and 1 modulo 8; and so on. Those of two other seeds; a sheet with every step and a value of 32
-- bits; sheets whose second record has an equal second board.
abbrev pub RecordsHold : Type 0
RecordsHold =
    (seed_records 0 12 ≡ of 0 7 ∷ of_both 9 6 2 ∷ of 2 3 ∷ of 6 4 ∷ of 2 1 ∷ of 6 6 ∷ of 2 7 ∷ of_both 9 8 7 ∷ bare 10
    ∷ of 2 2 ∷ of_value 1 3 1259826020 ∷ bare 11 ∷ [])
    × (seed_records 1 5 ≡ of 0 6 ∷ of 3 3 ∷ of 2 4 ∷ of 14 5 ∷ of 6 2 ∷ [])
    × (seed_records 4294967295 5 ≡ of 0 8 ∷ of 4 5 ∷ of 7 2 ∷ bare 13 ∷ bare 13 ∷ [])
    × (seed_records 1364 20 ≡ of 0 3 ∷ of 6 2 ∷ of 2 5 ∷ of 6 8 ∷ of 14 7 ∷ of_both 9 6 2 ∷ of 15 3 ∷ bare 5 ∷ bare 10
    ∷ of 12 1 ∷ of 7 6 ∷ of 3 7 ∷ of 8 8 ∷ of 4 5 ∷ bare 11 ∷ of 12 2 ∷ bare 5 ∷ bare 10
    ∷ of_value 1 4 2890428600 ∷ bare 13 ∷ [])
    × (seed_records 26 2 ≡ of 0 5 ∷ of_both 9 4 5 ∷ []) × (seed_records 78 2 ≡ of 0 1 ∷ of_both 9 8 1 ∷ [])

-- The counts 0 and 4,096 are refused with 2 and leave the slice as it was, however long it is.
abbrev pub CountsHold : Type 0
CountsHold = (s : ℕ) (out : Text)
    → (result_of s 0 out ≡ 2) × (left s 0 out ≡ out) × (result_of s 4096 out ≡ 2) × (left s 4096 out ≡ out)

-- The longest sheet, in a slice that it just fills and in one that is a byte short.
abbrev pub LongestHolds : Type 0
LongestHolds = (s : ℕ) (out : Text)
    → (length out ≡ 32760 → result_of s 4095 out ≡ 32760)
    × (length out ≡ 32759 → (result_of s 4095 out ≡ 3) × (left s 4095 out ≡ out))

-- Seed 0 and one record: a slice of 7 bytes is left as it was, one of 8 holds the sheet, of one of 10 the last two
-- bytes stay.
abbrev pub SlicesHold : Type 0
SlicesHold =
    let seven : Text = 1 ∷ 2 ∷ 3 ∷ 4 ∷ 5 ∷ 6 ∷ 7 ∷ [] in
    let eight : Text = 1 ∷ 2 ∷ 3 ∷ 4 ∷ 5 ∷ 6 ∷ 7 ∷ 8 ∷ [] in
    let ten : Text = 1 ∷ 2 ∷ 3 ∷ 4 ∷ 5 ∷ 6 ∷ 7 ∷ 8 ∷ 9 ∷ 10 ∷ [] in
    (result_of 0 1 seven ≡ 3) × (left 0 1 seven ≡ seven)
    × (result_of 0 1 eight ≡ 8) × (left 0 1 eight ≡ 0 ∷ 7 ∷ 0 ∷ 0 ∷ 0 ∷ 0 ∷ 0 ∷ 0 ∷ [])
    × (result_of 0 1 ten ≡ 8) × (left 0 1 ten ≡ 0 ∷ 7 ∷ 0 ∷ 0 ∷ 0 ∷ 0 ∷ 0 ∷ 0 ∷ 9 ∷ 10 ∷ [])
