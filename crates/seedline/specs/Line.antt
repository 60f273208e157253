-- The line that the program of document 02, Paper 2, reads, and what it prints. Cited by the contracts of seedline.
-- Assumes nothing.
use Rattle.std.specs.Prelude.{Option, Some, None, true, [], ◌++◌, ◌↔◌, ◌≡◌, ℕ, ◌^◌, ◌<◌, take}
use Rattle.text.specs.Text.{Text, Wrote, digits}
use Rattle.lines.specs.Lines.{word, space, newline}
use Rattle.generator.specs.Seeded.{seed_sheet, is_count}

-- The line of the seed s and the count n: "in base ten without leading zeros, one space between and byte 10 after".
unfoldable pub seed_line : ℕ → ℕ → Text
unfolding digits
seed_line s n = digits s ++ (space ++ (digits n ++ newline))

-- The input asks for the sheet of s and n: "a 32-bit seed and a record count of 1 to 4,095, the opening included".
pub record Asks (input : Text) (s n : ℕ) : Type 0 where
  pub line : input ≡ seed_line s n
  pub seed : s < 2 ^ 32
  pub count : is_count n ≡ true

-- "Any other input."
abbrev pub IsOther : Text → Type 0
IsOther input = (s n : ℕ) → Asks input s n → ⊥

-- What was read: the seed and the count that the input asks for, or that it asks for none, which is refusal 2
-- (`Prints`). It asks for one pair at most (`LinesDiffer`), so this settles what is read, and what is printed.
abbrev pub Read : Option (ℕ × ℕ) → Text → Type 0
Read (Some (s, n)) input = Asks input s n
Read None input = IsOther input

-- What the program prints for an input: r bytes of a slice d that became e. ".. and writes that sheet"; "any other
-- input prints `refused 2`", and byte 10 as document 01's program does.
pub record Prints (input d e : Text) (r : ℕ) : Type 0 where
  pub sheet : (s n : ℕ) → Asks input s n → Wrote d 0 (seed_sheet s n) e r
  pub refusal : IsOther input → Wrote d 0 (word "refused 2" ++ newline) e r

-- What is claimed of the lines

-- A line is that of one seed and one count.
abbrev pub LinesDiffer : Type 0
LinesDiffer = (s n s' n' : ℕ) → seed_line s n ≡ seed_line s' n' → (s ≡ s') × (n ≡ n')

-- So many bytes of its input the program reads: one more than the longest line has.
abbrev pub bytes_read : ℕ
bytes_read = 17

-- In them shows what an input asks for, however long it is.
abbrev pub LinesSeen : Type 0
LinesSeen = (input : Text) (s n : ℕ) → Asks (take bytes_read input) s n ↔ Asks input s n

-- The shortest line and the longest.
abbrev pub LinesLook : Type 0
LinesLook = (seed_line 0 1 ≡ word "0 1\n") × (seed_line 4294967295 4095 ≡ word "4294967295 4095\n")

-- Other inputs: a leading zero, a second space, a carriage return, a missing and a further byte, a missing number, a
-- sign, another byte between, and numbers just outside.
abbrev pub OthersRefused : Type 0
OthersRefused =
    IsOther (word "00 1\n") × IsOther (word "0 01\n") × IsOther (word "0  1\n") × IsOther (word " 0 1\n")
    × IsOther (word "0 1\r\n") × IsOther (word "0 1") × IsOther (word "0 1\n\n") × IsOther []
    × IsOther (word " 1\n") × IsOther (word "0 \n") × IsOther (word "+0 1\n") × IsOther (word "0,1\n")
    × IsOther (word "4294967296 1\n") × IsOther (word "0 0\n") × IsOther (word "0 4096\n")
