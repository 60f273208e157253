-- At the chain's end all of it is stored. Assumes nothing.
use Rattle.std.proofs.Common.{arith}
use Rattle.loading.proofs.Copying.{copied, more, stored, stored-all}
use Rattle.loading.proofs.copy.Goals as goal

pub returns-then-at-eq0 : goal.returns-then-at-eq0
returns-then-at-eq0 c =
    let w = c.loop-len.invariant in
    record {
      count = copied _ _ _ _ _ w.copying (omega arith);
      values = stored-all _ _ _ _ _ w.copying _ _ _ (omega arith) w.values;
      epochs = stored-all _ _ _ _ _ w.copying _ _ _ (omega arith) w.epochs;
    }

pub loop-len-preserved : goal.loop-len-preserved
loop-len-preserved c =
    let w = c.loop-len.invariant in
    let e = c.next-at.ensures in
    record {
      copying = more _ _ _ _ _ w.copying (omega arith) _ e;
      values = stored _ _ _ _ _ w.copying (omega arith) _ _ _ w.values _ c.value.ensures _ e;
      epochs = stored _ _ _ _ _ w.copying (omega arith) _ _ _ w.epochs _ c.term.ensures _ e;
    }
