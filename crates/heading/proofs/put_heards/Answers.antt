-- Board by board. Assumes nothing.
use Rattle.std.proofs.Common.{arith}
use Rattle.cluster.specs.Layout.{controller_of}
use Rattle.head.specs.Head.{heard_bytes}
use Rattle.heading.proofs.Eights.{eight-room, eight-all}
use Rattle.heading.proofs.put_heards.Goals as goal

pub put_heard-requires : goal.put_heard-requires
put_heard-requires c =
    eight-room (heard_bytes (controller_of c.args.k.now)) c.loop-i.i (omega arith) c.loop-i.invariant c.requires

pub returns : goal.returns
returns c = eight-all (heard_bytes (controller_of c.args.k.now)) c.loop-i.i (omega arith) c.loop-i.invariant
