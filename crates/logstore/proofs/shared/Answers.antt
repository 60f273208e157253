-- Assumes nothing.
use Rattle.std.proofs.Common.{arith}
use Rattle.logstore.proofs.Laws.{shared_on, shared_ends}
use Rattle.logstore.proofs.shared.Goals as goal

pub returns-then-not-same : goal.returns-then-not-same
returns-then-not-same c =
    let a = c.args in
    let h = c.requires in
    let e = shared_on a.store.now a.terms.now a.a.number a.m a.b.number a.n c.loop-i.i h.0 h.1
    a.a.least a.a.most h.2 a.b.least a.b.most h.3 (omega arith) (omega arith) c.if-not-same.ensures in
    omega (arith, e, c.loop-i.invariant)

pub loop-i-preserved : goal.loop-i-preserved
loop-i-preserved c =
    let a = c.args in
    let h = c.requires in
    let e = shared_on a.store.now a.terms.now a.a.number a.m a.b.number a.n c.loop-i.i h.0 h.1
    a.a.least a.a.most h.2 a.b.least a.b.most h.3 (omega arith) (omega arith) c.if-not-same.ensures in
    omega (arith, e, c.loop-i.invariant)

pub returns : goal.returns
returns c =
    let a = c.args in
    let h = c.requires in
    let e = shared_ends a.store.now a.terms.now a.a.number a.m a.b.number a.n c.loop-i.i h.0 h.1
    a.a.least a.a.most h.2 a.b.least a.b.most h.3 (omega arith) in
    omega (arith, e, c.loop-i.invariant)
