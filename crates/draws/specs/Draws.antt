-- The generator of document 02, Paper 2, from the single draw up to the records of a sheet. Cited by the
-- contracts of draws and generator, and by generator's Seeded and Trials. Assumes nothing.
use Rattle.std.specs.Prelude.{ℕ, zero, suc, ◌+◌, ◌*◌, ◌/◌, ◌%◌, ◌^◌, cond, List, [], ◌∷◌, ◌==◌, bit_xor}
use Rattle.model.specs.Records.{Record, bare, of, of_both, of_value, boardless}

-- "For each draw 2,654,435,769 is added and the sum is kept modulo 4,294,967,296": the state of the draw after s.
unfoldable pub advance : ℕ → ℕ
advance s = (s + 2654435769) % 4294967296

-- "The draw is the state, exclusive-or with itself shifted right 16 places, then that result exclusive-or with itself
-- shifted left 7 places, low 32 bits kept." To shift right k places is to divide by 2 ^ k, left to multiply.
unfoldable pub draw : ℕ → ℕ
draw s = let t = bit_xor s (s / 2 ^ 16) in bit_xor t (t * 2 ^ 7) % 2 ^ 32

-- What is drawn in the state s: "a step (1 plus the draw modulo 15)";
abbrev pub step_from : ℕ → ℕ
step_from s = 1 + draw s % 15

-- "a board is 1 plus the draw modulo 8;
abbrev pub board_from : ℕ → ℕ
board_from s = 1 + draw s % 8

-- an equal second board becomes the next number, 8 becoming 1": a is the first board, b was drawn.
abbrev pub second_board : ℕ → ℕ → ℕ
second_board a b = cond (b == a) (cond (b == 8) 1 (b + 1)) b

-- A record that was drawn, and the state of its last draw, from which the next record goes on.
pub record Drawn : Type 0 where
  pub made : Record
  pub state : ℕ

abbrev pub drawn : Record → ℕ → Drawn
drawn r s = record { made = r; state = s }

-- "Each later record draws a step .., then only the fields it uses: board, second board, value." s is the state of the
-- draw before the record; its own draws are made in s₁, s₂ and s₃, as far as there are so many.
unfoldable pub draw_record : ℕ → Drawn
unfolding advance draw
draw_record s =
    let s₁ = advance s in
    let s₂ = advance s₁ in
    let s₃ = advance s₂ in
    let n = step_from s₁ in
    let a = board_from s₂ in
    cond (boardless n) (drawn (bare n) s₁)
    (cond (n == 9) (drawn (of_both n a (second_board a (board_from s₃))) s₃)
    (cond (n == 1) (drawn (of_value n a (draw s₃)) s₃)
    (drawn (of n a) s₂)))

-- k such records, one after the other; s is the state of the draw before them.
unfoldable pub later : ℕ → ℕ → List Record
unfolding draw_record
later zero s = []
later (suc k) s = (draw_record s).made ∷ later k (draw_record s).state

-- The n records of a seed: "the state starts at the seed"; "the opening board is 1 plus a draw modulo 8".
unfoldable pub seed_records : ℕ → ℕ → List Record
unfolding advance draw later
seed_records s zero = []
seed_records s (suc k) = of 0 (board_from (advance s)) ∷ later k (advance s)
