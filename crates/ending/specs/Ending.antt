-- The ending of a listing, document 01, with the mark and the receipts of document 02, byte for byte: the lines after
-- those of its records. Cited by the promises of its writers and, through `listing` and `image_text`, of `run_sheet` and
-- `show_image`. Assumes nothing.
use Rattle.std.specs.Prelude.{List, [], ◌∷◌, ◌++◌, ℕ, length}
use Rattle.model.specs.State.{Entry, Outline}
use Rattle.text.specs.Text.{Text, digits}
use Rattle.lines.specs.Lines.{word, space, newline, eight, registry_line, control_line, board_text, receipt_text}
use Rattle.mark.specs.Mark.{late_in}

unfoldable pub board_line : Outline → ℕ → Text
unfolding board_text
board_line m b = board_text b (m.view b) (m.joined b) (m.len b) (late_in m b)

unfoldable pub board_lines : Outline → Text
unfolding board_line
board_lines m = eight (board_line m)

-- The receipts, a space before each.
unfoldable pub receipts_text : List Entry → Text
unfolding receipt_text
receipts_text [] = []
receipts_text (x ∷ xs) = space ++ (receipt_text x ++ receipts_text xs)

-- "how many receipts, then their values", each with its leader epoch (document 02, Paper 4)
unfoldable pub receipts_line : List Entry → Text
unfolding digits receipts_text
receipts_line xs = word "receipts " ++ (digits (length xs) ++ (receipts_text xs ++ newline))

-- The lines after the answers: the state, in outline m, and the receipts xs.
unfoldable pub ending : Outline → List Entry → Text
ending m xs = registry_line m.registry ++ (control_line m.controller ++ (board_lines m ++ receipts_line xs))
