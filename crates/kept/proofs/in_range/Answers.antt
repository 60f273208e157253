-- The tests of the numbers inside the lengths are those of the entries' terms.
use Rattle.refinement.specs.Refinement.{lent}
use Rattle.kept.proofs.Terms.{kept-tests}
use Rattle.kept.proofs.in_range.Goals as goal

pub returns-then-epochs : goal.returns-then-epochs
returns-then-epochs c store list full =
    let a = c.args in
    rw (kept-tests a.row.now (lent store a.store2.now list a.list2.now) full, ← c.if-epochs.ensures) c.logs.ensures

pub returns-else-epochs : goal.returns-else-epochs
returns-else-epochs c store list full =
    let a = c.args in
    rw (kept-tests a.row.now (lent store a.store2.now list a.list2.now) full, ← c.if-epochs.ensures) c.if-epochs.false
