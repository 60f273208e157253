-- What was heard of boards 1 to i is written. Assumes nothing.
use Rattle.cluster.specs.Layout.{controller_of}
use Rattle.text.specs.Text.{Puts}
use Rattle.head.specs.Head.{heard_bytes}
use Rattle.heading.proofs.Eights.{up_to}
use Rattle.heading.proofs.put_heards.Given as goal

abbrev pub invariant-loop-i : goal.invariant-loop-i
invariant-loop-i l = Puts l.fn.page (up_to (heard_bytes (controller_of l.k)) l.i) l.page
