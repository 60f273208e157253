-- Each check of the walk is one reason of error 19. Assumes nothing.
use Rattle.std.proofs.Common.{arith, sym, ◌∙◌}
use borrow.Author.Tests.{leb-true, leb-false, not-true, not-false}
use Rattle.refusal.proofs.Checks.{passed, failed}
use Rattle.marks.specs.Marks.{marked}
use Rattle.chains.proofs.Walking.{ends, past, again, on}
use Rattle.chains.proofs.Image.walk.Goals as goal

pub returns-then-at-eq0 : goal.returns-then-at-eq0
returns-then-at-eq0 c = ends _ _ _ _ _ _ _ c.loop-len.invariant (omega arith) (omega arith)

pub returns-in_err-ensure : goal.returns-in_err-ensure
returns-in_err-ensure c =
    let t = failed _ _ c.from_residual.result c.from_residual.ensures.1 c.in_err-ensure.ensures in
    rw t.1
    (past _ _ _ _ _ _ _ c.loop-len.invariant (omega arith) (omega arith) (leb-false _ _ t.0) (marked c.loop-len.scratch))

pub returns-in_err-ensure-2 : goal.returns-in_err-ensure-2
returns-in_err-ensure-2 c =
    let low = leb-true _ _ (passed _ _ c.in_ok-ensure.ensures) in
    let r = c.from_residual-in_err-ensure-2 in
    let t = failed _ _ r.result r.ensures.1 c.in_err-ensure-2.ensures in
    let met = sym c.is_marked.ensures ∙ not-false _ t.0 in
    rw t.1 (again _ _ _ _ _ _ _ c.loop-len.invariant (omega arith) (omega arith) low met (marked c.loop-len.scratch))

pub loop-len-preserved : goal.loop-len-preserved
loop-len-preserved c =
    let low = leb-true _ _ (passed _ _ c.in_ok-ensure.ensures) in
    let new = sym c.is_marked.ensures ∙ not-true _ (passed _ _ c.in_ok-ensure-2.ensures) in
    on _ _ _ _ _ _ _ c.loop-len.invariant (omega arith) (omega arith) low new _ c.mark.ensures _ c.next-at.ensures
