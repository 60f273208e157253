-- The bytes of the lines before. Assumes nothing.
use Rattle.std.proofs.Common.{◌≡◌, ◌*◌, ◌≤◌, length}
use Rattle.text.specs.Text.{each_of}
use Rattle.explain.specs.Explain.{line_at}
use Rattle.explain.proofs.answered.Answered.length.Given as goal

abbrev pub invariant-loop-i : goal.invariant-loop-i
invariant-loop-i l =
    (l.total ≡ length (each_of (line_at l.self.sheet.now l.self.answers.now) l.i)) × (l.total ≤ 96 * l.i)
