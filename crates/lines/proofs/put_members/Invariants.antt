-- The texts of 1 to i are written.
use Rattle.std.specs.Prelude.{◌+◌}
use Rattle.members.specs.Mask.{bits}
use Rattle.text.specs.Text.{Puts, each_of}
use Rattle.lines.specs.Lines.{member_text}
use Rattle.lines.proofs.put_members.Given as goal

abbrev pub invariant-loop-i : goal.invariant-loop-i
invariant-loop-i l = Puts l.fn.page (each_of (λ k. member_text (bits l.fn.m) (k + 1)) l.i) l.page
