-- The text of a sheet: a line of document 02, Paper 5, for each record with the answer that its run gave. Cited by the
-- promises of `explain_sheet` and `sample`. Assumes nothing.
use Rattle.std.specs.Prelude.{Result, Ok, Err, true, cond, ◌&&◌, List, [], ◌∷◌, ◌++◌, ◌≡◌, ℕ, ◌*◌, ◌/◌, ◌≤◌, leb, length, get_or, drop}
use Rattle.refusal.specs.declared.Refusal.{Refusal}
use Rattle.refusal.specs.declared.Refusal.TheVariants.{Sheet, Room}
use Rattle.refusal.specs.Refusal.{returned}
use Rattle.text.specs.Text.{Text, over, each_of}
use Rattle.model.specs.Records.{bare, of, of_value}
use Rattle.records.specs.Bytes.{record_at, sheet_bytes, is_sheet}
use Rattle.lines.specs.Lines.{word}
use Rattle.phrases.specs.Line.{line}
use Rattle.running.specs.Running.{answers_of}
use Rattle.running.specs.Sample.{sample_sheet, slice}

-- The line of the record after i others of the sheet s, with its answer of ns.
abbrev pub line_at : Text → List ℕ → ℕ → Text
line_at s ns i = line (record_at (drop (8 * i) s)) (get_or ns i 0)

-- Those of all its records.
abbrev pub lines_of : Text → List ℕ → Text
lines_of s ns = each_of (line_at s ns) (length s / 8)

-- The text of a sheet that refusal 2 lets through: its records with the answers of the model's run.
unfoldable pub explained : Text → Text
unfolding answers_of line each_of
explained s = lines_of s (answers_of s)

-- The call, with the sheet s and a slice whose bytes are `out`: document 01's refusals 2 and 3.
unfoldable pub outcome_of : Text → Text → Result ℕ Refusal
unfolding explained
outcome_of s out =
    cond (is_sheet s) (cond (leb (length (explained s)) (length out)) (Ok (length (explained s))) (Err Room)) (Err Sheet)

-- As C has it.
abbrev pub result_of : Text → Text → ℕ
result_of s out = returned (outcome_of s out)

-- What the slice holds then.
unfoldable pub left : Text → Text → Text
unfolding explained over
left s out = cond (is_sheet s && leb (length (explained s)) (length out)) (over out 0 (explained s)) out

-- Trials

-- The papers' sample in words.
abbrev pub sample_text : Text
sample_text =
    word "opening with board 1: accepted\nboard 1 appends value 41: accepted\nboard 1 gives a receipt: accepted\n"
    ++ word "add board 2: accepted\n"

-- P3 to P9 in words, from one opening; of P3 the refused receipt, as the accepted ones are in the sample. Last, board
-- 1, replaced and without that news, still appends, and its receipt has no majority.
unfoldable pub trial_sheet : Text
unfolding sheet_bytes
trial_sheet = sheet_bytes
    (of 0 1 ∷ of 2 1 ∷ of_value 1 2 41 ∷ bare 5 ∷ of 4 1 ∷ of 4 2 ∷ of 3 2 ∷ of 3 2 ∷ bare 5 ∷ bare 11 ∷ bare 10
    ∷ bare 11 ∷ of 6 1 ∷ bare 11 ∷ bare 13 ∷ of 12 2 ∷ bare 13 ∷ bare 5 ∷ of_value 1 1 41 ∷ of 2 1 ∷ [])

abbrev pub trial_text : Text
trial_text =
    word "opening with board 1: accepted\nboard 1 gives a receipt: refused, its log is not longer than the receipts\n"
    ++ word "board 2 appends value 41: refused, it is not the leader in its own view\n"
    ++ word "change leader: refused, there are fewer than two members\n"
    ++ word "remove board 1: refused, the board is the leader\nremove board 2: refused, the board is not a member\n"
    ++ word "add board 2: accepted\nadd board 2: refused, the board is a member already\n"
    ++ word "change leader: refused, the registry's status is not normal\n"
    ++ word "controller reads leader: refused, the controller is not at stage leader\ncontroller takes news: accepted\n"
    ++ word "controller reads leader: refused, the leader board's epoch is not the controller's\n"
    ++ word "board 1 takes news: accepted\ncontroller reads leader: accepted\n"
    ++ word "set normal: refused, no majority of members is heard at the leader's heard length or above\n"
    ++ word "controller reads board 2: accepted\nset normal: accepted\nchange leader: accepted\n"
    ++ word "board 1 appends value 41: accepted\n"
    ++ word "board 1 gives a receipt: refused, its counts show no majority of members with the next entry\n"

unfoldable pub SampleHolds : Type 0
SampleHolds = (explained sample_sheet ≡ sample_text) × (explained trial_sheet ≡ trial_text)

-- A slice one byte short is refused and keeps its bytes; one of the text's length is enough; a longer one keeps those
-- past the text.
unfoldable pub RoomHolds : Type 0
RoomHolds =
    (length sample_text ≡ 122)
    × (result_of sample_sheet (slice 121) ≡ 3) × (left sample_sheet (slice 121) ≡ slice 121)
    × (result_of sample_sheet (slice 122) ≡ 122) × (left sample_sheet (slice 122) ≡ sample_text)
    × (result_of sample_sheet (slice 124) ≡ 122) × (left sample_sheet (slice 124) ≡ sample_text ++ slice 2)

-- The empty sheet, which has a listing (document 02, Paper 9), has no text: 2, whatever the slice holds.
unfoldable pub EmptyRefused : Type 0
EmptyRefused = (out : Text) → (result_of [] out ≡ 2) × (left [] out ≡ out)

-- No text is so short that its length could be taken for a refusal, and none of n records has more than 96 n bytes.
unfoldable pub LengthsTell : Type 0
LengthsTell = (s : Text) → ((i : ℕ) → get_or s i 0 ≤ 255) → is_sheet s ≡ true
    → (4 ≤ length (explained s)) × (length (explained s) ≤ 96 * (length s / 8))
