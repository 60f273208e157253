-- A mask of eight bits is that of its set. Assumes nothing.
use Rattle.std.proofs.Common.{sym, arith}
use Rattle.head.proofs.Back.{mask-back}
use Rattle.heading.proofs.mask.Goals as goal

pub returns : goal.returns
returns c = sym (mask-back c.args.m (omega arith))
