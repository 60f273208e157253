-- Numbers of two and of four bytes in a text, the low byte first (document 01: "multi-byte fields have their low byte
-- first"): written, and read at a place. Cited by the contracts of fields, and by all that speaks of an image.
-- Assumes nothing.
use Rattle.std.specs.Prelude.{[], ◌∷◌, ℕ, ◌+◌, ◌*◌, ◌/◌, ◌%◌, get_or}
use Rattle.text.specs.Text.{Text}

-- (A number of two bytes is below 65,536, one of four has 32 bits.)
abbrev pub two : ℕ → Text
two n = n % 256 ∷ n / 256 ∷ []

abbrev pub four : ℕ → Text
four n = n % 256 ∷ n / 256 % 256 ∷ n / 65536 % 256 ∷ n / 16777216 ∷ []

abbrev pub two_at : Text → ℕ → ℕ
two_at s i = get_or s i 0 + 256 * get_or s (i + 1) 0

abbrev pub four_at : Text → ℕ → ℕ
four_at s i = get_or s i 0 + 256 * get_or s (i + 1) 0 + 65536 * get_or s (i + 2) 0 + 16777216 * get_or s (i + 3) 0
