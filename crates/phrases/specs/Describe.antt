-- The call `describe_record` and what is claimed of its lines (document 02, Paper 5). Cited by the promises of
-- `describe_record` and `claim`. Assumes nothing.
use Rattle.std.specs.Prelude.{Bool, Result, Ok, Err, true, false, cond, ◌&&◌, [], ◌∷◌, ◌++◌, ◌≡◌, ℕ, ◌<◌, ◌≤◌, leb, eqb, length, get_or, replicate}
use Rattle.refusal.specs.declared.Refusal.{Refusal}
use Rattle.refusal.specs.declared.Refusal.TheVariants.{Invalid, Room}
use Rattle.refusal.specs.Refusal.{returned}
use Rattle.text.specs.Text.{Text, over}
use Rattle.lines.specs.Lines.{word}
use Rattle.model.specs.Records.{of, of_both, of_value}
use Rattle.records.specs.Bytes.{record_at, record_bytes}
use Rattle.phrases.specs.Phrases.{no_step, is_listed, is_listed_in}
use Rattle.phrases.specs.Line.{reason_text, line}

-- The call, with the record's bytes s, the answer a and a slice whose bytes are `out`

-- "An answer not on it, or a record not 8 bytes long, is refused 1": what is not.
abbrev pub is_told : Text → ℕ → Bool
is_told s a = eqb (length s) 8 && is_listed a

-- "... then a short slice 3": the line's length, or the refusal.
unfoldable pub outcome_of : Text → ℕ → Text → Result ℕ Refusal
unfolding line is_listed_in
outcome_of s a out =
    let l = line (record_at s) a in
    cond (is_told s a) (cond (leb (length l) (length out)) (Ok (length l)) (Err Room)) (Err Invalid)

-- As C has it.
abbrev pub result_of : Text → ℕ → Text → ℕ
result_of s a out = returned (outcome_of s a out)

-- "... the slice untouched": what the slice holds then.
unfoldable pub left : Text → ℕ → Text → Text
unfolding line is_listed_in over
left s a out =
    let l = line (record_at s) a in
    cond (is_told s a && leb (length l) (length out)) (over out 0 l) out

-- Claims

-- "A record is 8 bytes."
pub record EightBytes (s : Text) : Type 0 where
  pub eight : length s ≡ 8
  pub byte : (i : ℕ) → get_or s i 0 < 256

-- "Two different pairs of record and answer never give the same line."
unfoldable pub LinesDiffer : Type 0
unfolding line is_listed_in
LinesDiffer =
    (s s' : Text) (a a' : ℕ) → EightBytes s → EightBytes s' → is_listed a ≡ true → is_listed a' ≡ true
    → line (record_at s) a ≡ line (record_at s') a' → (s ≡ s') × (a ≡ a')

-- "The phrase list ... covers 0 to 16 and grows with each new number", by Paper 7 to 19: these are on it, and no other
-- answer is; each has words for every step, and for malformed records.
pub record Covers : Type 0 where
  pub listed : (a : ℕ) → is_listed a ≡ leb a 19
  pub worded : (k a : ℕ) → k ≤ no_step → a ≤ 19 → 1 ≤ length (reason_text k a)

-- "one English line": printable bytes, and byte 10 at the end and nowhere else.
abbrev pub is_one_line : Text → Bool
is_one_line [] = false
is_one_line (x ∷ []) = eqb x 10
is_one_line (x ∷ y ∷ xs) = leb 32 x && leb x 126 && is_one_line (y ∷ xs)

unfoldable pub OneLine : Type 0
unfolding line is_listed_in
OneLine =
    (s : Text) (a : ℕ) → EightBytes s → is_listed a ≡ true → is_one_line (line (record_at s) a) ≡ true

-- No line is so short that its length could be a refusal, and none has more than 96 bytes.
unfoldable pub LengthsTell : Type 0
unfolding line is_listed_in
LengthsTell =
    (s : Text) (a : ℕ) → EightBytes s → is_listed a ≡ true
    → let l = line (record_at s) a in (4 ≤ length l) × (length l ≤ 96)

-- Trials

-- Lines as docs/PHRASES.md shows them.
unfoldable pub LinesHold : Type 0
unfolding line
LinesHold =
    (line (of_value 1 1 41) 0 ≡ word "board 1 appends value 41: accepted\n")
    × (line (of 3 2) 5 ≡ word "add board 2: refused, the board is a member already\n")
    × (line (of_both 9 2 2) 1 ≡ word "record 09 02 02 00 00 00 00 00: refused, these eight bytes are no step\n")

-- A slice one byte short is refused and keeps its bytes; one of the line's length is enough; a longer one keeps those
-- past the line.
unfoldable pub RoomHolds : Type 0
unfolding outcome_of left record_bytes
RoomHolds =
    let s = record_bytes (of_value 1 1 41) in let l = word "board 1 appends value 41: accepted\n" in
    (result_of s 0 (replicate 34 255) ≡ 3) × (left s 0 (replicate 34 255) ≡ replicate 34 255)
    × (result_of s 0 (replicate 35 255) ≡ 35) × (left s 0 (replicate 35 255) ≡ l)
    × (result_of s 0 (replicate 37 255) ≡ 35) × (left s 0 (replicate 37 255) ≡ l ++ (255 ∷ 255 ∷ []))
