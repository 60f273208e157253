-- The listing of the empty sheet (document 02, Paper 9). Cited by the promise of `deliver` and by the definitions of
-- sheet. Assumes nothing.
use Rattle.std.specs.Prelude.{◌++◌}
use Rattle.text.specs.Text.{Text}
use Rattle.lines.specs.Lines.{word, newline}

-- "a listing of one line, `unopened`"
abbrev pub unopened : Text
unopened = word "unopened" ++ newline
