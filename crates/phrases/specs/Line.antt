-- The line of a record and its answer, byte for byte (document 02, Paper 5). Cited by Describe, by the contracts of the
-- writers (form, wording, telling), and by explain. Assumes nothing.
use Rattle.std.specs.Prelude.{cond, [], ◌++◌, ℕ, eqb}
use Rattle.text.specs.Text.{Text, digits}
use Rattle.lines.specs.Lines.{word, newline}
use Rattle.model.specs.Records.{Record, boardless, well_formed}
use Rattle.records.specs.Bytes.{record_bytes}
use Rattle.hexes.specs.Hex.{hexes}
use Rattle.phrases.specs.Phrases.{no_step, form_of, reasons, phrase_in}

-- "the step's name, the boards and value it uses"

abbrev pub lead_text : ℕ → Text
lead_text k = word (form_of k).lead

abbrev pub trail_text : ℕ → Text
trail_text k = word (form_of k).trail

-- The board, if the step names one: a in step 9.
abbrev pub board_part : Record → Text
board_part r = cond (boardless r.step) [] (digits r.board)

-- The second number: b in step 9, the value in step 1.
abbrev pub second_part : Record → Text
second_part r = cond (eqb r.step 9) (digits r.other) (cond (eqb r.step 1) (digits r.value) [])

unfoldable pub step_text : Record → Text
unfolding digits
step_text r = lead_text r.step ++ (board_part r ++ (trail_text r.step ++ second_part r))

unfoldable pub raw_text : Record → Text
unfolding hexes record_bytes
raw_text r = lead_text no_step ++ hexes (record_bytes r)

-- "A record malformed by itself shows its eight bytes in hexadecimal instead of names."
unfoldable pub head_text : Record → Text
unfolding step_text raw_text
head_text r = cond (well_formed r) (step_text r) (raw_text r)

-- "then `accepted` or the reason"

-- The step by whose phrases an answer is told.
abbrev pub place : Record → ℕ
place r = cond (well_formed r) r.step no_step

abbrev pub reason_text : ℕ → ℕ → Text
reason_text k a = word (phrase_in reasons k a)

-- The answer a to the step k: a reason follows the word `refused`.
unfoldable pub verdict_text : ℕ → ℕ → Text
unfolding phrase_in
verdict_text k a = cond (eqb a 0) (reason_text k a) (word "refused, " ++ reason_text k a)

-- The line of the record r and the answer a.
unfoldable pub line : Record → ℕ → Text
unfolding head_text verdict_text
line r a = head_text r ++ (word ": " ++ (verdict_text (place r) a ++ newline))
