-- What boards 1 to i have is written. Assumes nothing.
use Rattle.cluster.specs.Layout.{outline_of}
use Rattle.text.specs.Text.{Puts}
use Rattle.head.specs.Head.{board_bytes}
use Rattle.heading.proofs.Eights.{up_to}
use Rattle.heading.proofs.put_boards.Given as goal

abbrev pub invariant-loop-i : goal.invariant-loop-i
invariant-loop-i l = Puts l.fn.page (up_to (board_bytes (outline_of l.row) l.firsts) l.i) l.page
