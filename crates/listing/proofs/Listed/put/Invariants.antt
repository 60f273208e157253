-- The lines of the records before i are written.
use Rattle.text.specs.Text.{Puts, each_of}
use Rattle.listing.proofs.AnswerLines.{line_at}
use Rattle.listing.proofs.Listed.put.Given as goal

abbrev pub invariant-loop-i : goal.invariant-loop-i
invariant-loop-i l = Puts l.fn.page (each_of (line_at l.fn.self.sheet.now l.fn.self.answers.now l.fn.self.sets.now) l.i) l.page
