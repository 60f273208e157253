-- The lines of 1 to i are written.
use Rattle.std.specs.Prelude.{◌+◌}
use Rattle.cluster.specs.Layout.{outline_of}
use Rattle.text.specs.Text.{Puts, each_of}
use Rattle.ending.specs.Ending.{board_line}
use Rattle.ending.proofs.put_replicas.Given as goal

abbrev pub invariant-loop-i : goal.invariant-loop-i
invariant-loop-i l = Puts l.fn.page (each_of (λ k. board_line (outline_of l.fn.row) (k + 1)) l.i) l.page
