-- Board by board. Assumes nothing.
use Rattle.std.proofs.Common.{arith}
use Rattle.cluster.specs.Layout.{outline_of}
use Rattle.head.specs.Head.{board_bytes}
use Rattle.heading.proofs.Eights.{eight-room, eight-all}
use Rattle.heading.proofs.put_boards.Goals as goal

pub put_board-requires : goal.put_board-requires
put_board-requires c =
    let f = board_bytes (outline_of c.args.row.now) c.args.firsts.now in
    eight-room f c.loop-i.i (omega arith) c.loop-i.invariant c.requires

pub returns : goal.returns
returns c =
    let f = board_bytes (outline_of c.args.row.now) c.args.firsts.now in
    eight-all f c.loop-i.i (omega arith) c.loop-i.invariant
