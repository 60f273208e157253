-- Eight lines, one after the other. Assumes nothing.
use mathlib.Core.Path.{◌≡◌, ap, sym, ◌∙◌}
use native.Mathlib.Omega.{arith}
use Rattle.std.specs.Prelude.{◌+◌}
use Rattle.cluster.specs.Layout.{outline_of}
use Rattle.text.specs.Text.{each_of}
use Rattle.text.proofs.Laws.{puts_as, room-next, room_as}
use Rattle.ending.specs.Ending.{board_line}
use Rattle.ending.proofs.Endings.{board-lines-each}
use Rattle.ending.proofs.put_replicas.Goals as goal

pub put_replica-requires : goal.put_replica-requires
put_replica-requires c =
    rw c.at.ensures
    (room-next (λ k. board_line (outline_of c.args.row.now) (k + 1)) c.loop-i.i 8 (omega arith) c.loop-i.invariant
    (room_as c.args.page.now (board-lines-each (outline_of c.args.row.now)) c.requires))

pub returns : goal.returns
returns c =
    let m = outline_of c.args.row.now in
    let all : c.loop-i.i ≡ 8 = omega arith in
    puts_as (ap (each_of (λ k. board_line m (k + 1))) all ∙ sym (board-lines-each m)) c.loop-i.invariant
