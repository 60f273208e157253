-- `members::gather` meets its contract: the loop gathers one replica after the other. Assumes nothing.
use Rattle.std.proofs.Common.{◌+◌, sym, arith}
use Rattle.members.proofs.Laws.{under_none, gathered}
use Rattle.members.proofs.gather.Goals as goal

pub loop-i-init : goal.loop-i-init
loop-i-init g c = λ p h. under_none p

pub loop-i-preserved : goal.loop-i-preserved
loop-i-preserved g c = λ p h.
    let l = c.loop-i in
    let e = c.at-b.ensures in
    gathered p (l.i + 1) l.q c.put-q.result c.test.result (omega arith) (omega arith) (l.invariant p h) (rw (sym e) c.put-q.ensures)
    (rw (sym e) (h c.at-b.result _ c.test.ensures))
