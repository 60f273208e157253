-- The first i records are written. Assumes nothing.
use Rattle.logstore.specs.Log.{pairs}
use Rattle.text.specs.Text.{Puts}
use Rattle.saving.proofs.Putting.{so_far}
use Rattle.saving.proofs.put_chain.Given as goal

abbrev pub invariant-loop-i : goal.invariant-loop-i
invariant-loop-i l = Puts l.fn.page (so_far l.k (pairs l.values l.terms) l.i) l.page
