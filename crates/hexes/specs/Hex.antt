-- Bytes in hexadecimal (document 02, Paper 5: "its eight bytes in hexadecimal"). Cited by the line of a record in
-- phrases, and by the contracts here. Assumes nothing.
use Rattle.std.specs.Prelude.{cond, [], ◌∷◌, ◌++◌, ℕ, ◌+◌, ◌/◌, ◌%◌, ltb}
use Rattle.text.specs.Text.{Text}
use Rattle.lines.specs.Lines.{space}

-- Numbers below 16 are 0 to 9 and A to F.
abbrev pub hex_digit : ℕ → ℕ
hex_digit x = cond (ltb x 10) (48 + x) (55 + x)

abbrev pub hex : ℕ → Text
hex b = hex_digit (b / 16) ∷ hex_digit (b % 16) ∷ []

-- Bytes in hexadecimal, a space before each.
unfoldable pub hexes : Text → Text
hexes [] = []
hexes (b ∷ bs) = space ++ (hex b ++ hexes bs)
