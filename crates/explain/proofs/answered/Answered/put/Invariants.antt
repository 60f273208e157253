-- The lines before are written. Assumes nothing.
use Rattle.text.specs.Text.{each_of, Puts}
use Rattle.explain.specs.Explain.{line_at}
use Rattle.explain.proofs.answered.Answered.put.Given as goal

abbrev pub invariant-loop-i : goal.invariant-loop-i
invariant-loop-i l = Puts l.fn.page (each_of (line_at l.self.sheet.now l.self.answers.now) l.i) l.page
