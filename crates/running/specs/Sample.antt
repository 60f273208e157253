-- The papers' sample sheet, and slices, for the trials of its listing (sheet), its lines in words (explain) and its
-- image (archive). Assumes nothing.
use Rattle.std.specs.Prelude.{[], ◌∷◌, ℕ, replicate}
use Rattle.text.specs.Text.{Text}

-- The sample of document 01: opening 1; append 1, 41; receipt by 1; add 2.
abbrev pub sample_sheet : Text
sample_sheet =
    0 ∷ 1 ∷ 0 ∷ 0 ∷ 0 ∷ 0 ∷ 0 ∷ 0
    ∷ 1 ∷ 1 ∷ 0 ∷ 0 ∷ 41 ∷ 0 ∷ 0 ∷ 0
    ∷ 2 ∷ 1 ∷ 0 ∷ 0 ∷ 0 ∷ 0 ∷ 0 ∷ 0
    ∷ 3 ∷ 2 ∷ 0 ∷ 0 ∷ 0 ∷ 0 ∷ 0 ∷ 0 ∷ []

-- A slice of n bytes.
abbrev pub slice : ℕ → Text
slice n = replicate n 255
