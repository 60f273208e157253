-- `members::without` meets its contract: what is no replica is in no mask. Assumes nothing.
use Rattle.std.proofs.Common.{sym}
use Rattle.model.proofs.Tests.{upd-idle}
use Rattle.members.specs.Mask.{bits}
use Rattle.members.proofs.Laws.{bits_out}
use Rattle.members.proofs.without.Goals as goal

pub returns-in-Err : goal.returns-in-Err
returns-in-Err c =
    let a = c.args in
    sym (upd-idle (bits a.m) a.b _ (bits_out a.m a.b c.in-Err.ensures.test))
