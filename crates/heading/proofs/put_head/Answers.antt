-- The head's parts, one after the other. Assumes nothing.
use Rattle.std.proofs.Common.{arith, ap}
use Rattle.cluster.specs.Layout.{view_of}
use Rattle.text.proofs.Laws.{puts-then, puts_as}
use Rattle.head.specs.Head.{view_bytes, head_bytes}
use Rattle.heading.proofs.Eights.{went}
use Rattle.heading.proofs.put_head.Goals as goal

pub put_view-requires : goal.put_view-requires
unfolding head_bytes
put_view-requires c = omega (arith, c.requires)

pub put_view-requires-2 : goal.put_view-requires-2
unfolding head_bytes
put_view-requires-2 c = omega (arith, c.requires, went _ c.put_view.ensures)

pub put_heards-requires : goal.put_heards-requires
unfolding head_bytes
put_heards-requires c = omega (arith, c.requires, went _ c.put_view.ensures, went _ c.put_view-2.ensures)

pub put_boards-requires : goal.put_boards-requires
unfolding head_bytes
put_boards-requires c =
    omega (arith, c.requires, went _ c.put_view.ensures, went _ c.put_view-2.ensures, went _ c.put_heards.ensures)

pub put_two-requires : goal.put_two-requires
unfolding head_bytes
put_two-requires c =
    let a = went _ c.put_view.ensures in
    let b = went _ c.put_view-2.ensures in
    omega (arith, c.requires, a, b, went _ c.put_heards.ensures, went _ c.put_boards.ensures)

pub returns : goal.returns
unfolding head_bytes
returns c =
    let g = ap (view_bytes (view_of c.args.row.now.registry.view)) c.status_number.ensures in
    let k = ap (view_bytes (view_of c.args.row.now.controller.view)) c.number.ensures in
    puts-then (puts_as g c.put_view.ensures)
    (puts-then (puts_as k c.put_view-2.ensures)
    (puts-then c.put_heards.ensures (puts-then c.put_boards.ensures c.put_two.ensures)))
