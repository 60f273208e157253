-- The walk of one chain, and what is left. Assumes nothing.
use Rattle.std.proofs.Common.{arith, ◌∙◌}
use Rattle.refusal.proofs.Checks.{left}
use Rattle.chains.proofs.Crossing.{was-good, stopped, passes, over}
use Rattle.chains.proofs.Image.walk_all.Goals as goal

pub returns-in_err-total : goal.returns-in_err-total
returns-in_err-total c =
    left c.from_residual.result c.from_residual.ensures.1
    ∙ stopped _ _ _ _ _ c.loop-b.invariant.left (omega arith) _ c.first.ensures _ _ c.in_err-total.ensures

pub loop-b-preserved : goal.loop-b-preserved
loop-b-preserved c = record {
  most = omega (arith, (was-good c.in_ok-total.ensures).2);
  left = passes _ _ _ _ _ c.loop-b.invariant.left (omega arith) _ c.first.ensures _ _ c.in_ok-total.ensures;
}

pub returns : goal.returns
returns c = rw (c.ensure.ensures, over _ _ _ _ _ c.loop-b.invariant.left (omega arith))
