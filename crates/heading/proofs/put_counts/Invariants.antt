-- The counts for boards 1 to i are written. Assumes nothing.
use Rattle.fields.specs.Fields.{two}
use Rattle.cluster.specs.Layout.{at_pair}
use Rattle.text.specs.Text.{Puts}
use Rattle.heading.proofs.Eights.{up_to}
use Rattle.heading.proofs.put_counts.Given as goal

abbrev pub invariant-loop-i : goal.invariant-loop-i
invariant-loop-i l = Puts l.fn.page (up_to (λ b. two (at_pair l.acked l.a.number b)) l.i) l.page
