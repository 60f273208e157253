-- A number read within a text. Cited by the contracts of reading. Assumes nothing.
use Rattle.std.specs.Prelude.{Bool, cond, ◌&&◌, [], ◌∷◌, ℕ, ◌+◌, ◌-◌, ◌*◌, leb, drop}
use Rattle.text.specs.Text.{Text}

-- Bytes 48 to 57 are digits.
abbrev pub is_digit : ℕ → Bool
is_digit x = leb 48 x && leb x 57

-- What a text begins with, as far as its bytes pass the test p.
abbrev pub leading : (ℕ → Bool) → Text → Text
leading p [] = []
leading p (x ∷ xs) = cond (p x) (x ∷ leading p xs) []

-- The digits that stand in s from the place at on.
abbrev pub digits_at : Text → ℕ → Text
digits_at s at = leading is_digit (drop at s)

-- The number whose digits are those of v and then the given ones: `reads 0 ds` is ds in base ten.
abbrev pub reads : ℕ → Text → ℕ
reads v [] = v
reads v (d ∷ ds) = reads (10 * v + (d - 48)) ds
