-- The board's parts, one after the other. Assumes nothing.
use Rattle.std.proofs.Common.{◌≡◌, suc, arith}
use Rattle.text.proofs.Laws.{puts-then}
use Rattle.heading.proofs.put_board.Goals as goal

pub returns : goal.returns
returns c =
    let e : c.args.b.number ≡ suc c.index-i.result = omega (arith, c.args.b.least) in
    rw e (puts-then c.put_taken.ensures (puts-then (rw e at c.put_counts.ensures) c.put_two.ensures))
