-- That the tables of the code are the phrase list. Cited by the contracts of wording. Assumes nothing.
use Rattle.std.specs.Prelude.{List, map, take, ◌≡◌, ℕ}
use Rattle.text.specs.Text.{Text}
use Rattle.lines.specs.Lines.{word}
use Rattle.phrases.specs.Phrases as P
use Rattle.phrases.specs.Phrases.{forms, reasons}
use Rattle.wording.specs.declared.Words.{Words}
use Rattle.wording.specs.declared.Steps.{Steps}
use Rattle.wording.specs.declared.Form.{Form}
use Rattle.wording.specs.declared.Reason.{Reason}

-- What a text and the steps of a row are.
abbrev pub words_in : Words → Text
words_in w = take w.length w.bytes

abbrev pub steps_in : Steps → List ℕ
steps_in s = take s.count s.list

-- A row as the code has it, and as the list has it.
abbrev pub form_row : Form → Text × Text
form_row f = (words_in f.lead, words_in f.trail)

abbrev pub form_line : P.Form → Text × Text
form_line f = (word f.lead, word f.trail)

abbrev pub reason_row : Reason → ℕ × List ℕ × Text
reason_row r = (r.answer, steps_in r.steps, words_in r.words)

abbrev pub reason_line : P.Reason → ℕ × List ℕ × Text
reason_line r = (r.answer, r.steps, word r.phrase)

unfoldable pub HoldsForms : List Form → Type 0
HoldsForms fs = map form_row fs ≡ map form_line forms

unfoldable pub HoldsReasons : List Reason → Type 0
HoldsReasons rs = map reason_row rs ≡ map reason_line reasons
