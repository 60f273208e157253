-- The lines of the records before i are counted.
use Rattle.std.specs.Prelude.{◌≡◌, ◌≤◌, ◌*◌, length}
use Rattle.text.specs.Text.{each_of}
use Rattle.listing.proofs.AnswerLines.{line_at}
use Rattle.listing.proofs.Listed.length.Given as goal

abbrev pub invariant-loop-i : goal.invariant-loop-i
invariant-loop-i l = (l.total ≡ length (each_of (line_at l.self.sheet.now l.self.answers.now l.self.sets.now) l.i)) × (l.total ≤ 42 * l.i)
