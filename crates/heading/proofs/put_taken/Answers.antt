-- The parts, one after the other. Assumes nothing.
use Rattle.text.proofs.Laws.{puts-then}
use Rattle.heading.proofs.put_taken.Goals as goal

pub returns : goal.returns
returns c =
    rw (← c.mask.ensures) (puts-then c.put_epochs.ensures (puts-then c.put_two.ensures c.put_bytes.ensures))
