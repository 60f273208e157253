-- The line is the one from the arrays' place. Assumes nothing.
use mathlib.Core.Path.{sym}
use native.Mathlib.Omega.{arith}
use Rattle.text.proofs.Laws.{room_as, puts_as}
use Rattle.ending.proofs.Endings.{board-line-is}
use Rattle.ending.proofs.put_replica.Goals as goal

pub put_board-requires : goal.put_board-requires
put_board-requires c =
    room_as c.args.page.now
    (board-line-is c.args.row.now c.args.b.number c.index-i.result c.is_late-late.result (omega arith)
    c.index-i.ensures.place c.is_late-late.ensures) c.requires

pub returns : goal.returns
returns c =
    puts_as
    (sym (board-line-is c.args.row.now c.args.b.number c.index-i.result c.is_late-late.result (omega arith)
    c.index-i.ensures.place c.is_late-late.ensures)) c.put_board.ensures
