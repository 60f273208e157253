-- `steps_central::opening` meets its contract. Assumes nothing.
use Rattle.std.proofs.Common.{subst}
use Rattle.model.specs.State as M
use Rattle.members.proofs.Laws.{bits_none}
use Rattle.steps_central.specs.Opening.{OpenedWith}
use Rattle.steps_central.proofs.opening.Goals as goal

pub returns-in-Ok : goal.returns-in-Ok
returns-in-Ok c = record {
  answer = c.in-Ok.ensures.answer;
  behind = bits_none;
  row = rw (c.in-Ok.ensures.test, ← c.in-Ok.ensures.number) c.opened.ensures;
}

pub returns-in-Err : goal.returns-in-Err
returns-in-Err c = record {
  answer = c.in-Err.ensures.answer;
  behind = bits_none;
  row = rw c.in-Err.ensures.test
      (subst (λ n. OpenedWith (M.opening_with n) c.opened-in-Err.result) c.at.ensures c.opened-in-Err.ensures);
}
