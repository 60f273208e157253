-- Place by place. Assumes nothing.
use Rattle.std.proofs.Common.{suc, refl, arith}
use Rattle.saving.proofs.Starting.{starts-all, starts-on, starts-end}
use Rattle.saving.proofs.firsts.Goals as goal

pub loop-i-init : goal.loop-i-init
loop-i-init c = record { most = omega arith; starts = starts-all _ _ (omega arith) _ refl }

pub overflow_add-k : goal.overflow_add-k
overflow_add-k c = omega (arith, c.requires (suc c.loop-i.i))

pub loop-i-preserved : goal.loop-i-preserved
loop-i-preserved c = record {
  most = omega (arith, c.requires (suc c.loop-i.i));
  starts = starts-on _ _ (omega arith) _ _ _ c.loop-i.invariant.starts (omega arith) _ c.start.ensures;
}

pub returns : goal.returns
returns c = starts-end _ _ (omega arith) _ _ _ c.loop-i.invariant.starts (omega arith) _ c.start-2.ensures
