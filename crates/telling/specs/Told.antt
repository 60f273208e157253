-- A line that was written aside. Cited by the contracts of telling. Assumes nothing.
use Rattle.std.specs.Prelude.{take}
use Rattle.text.specs.Text.{Text}
use Rattle.telling.specs.declared.Told.{Told}

abbrev pub told_text : Told → Text
told_text t = take t.length t.bytes
