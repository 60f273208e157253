-- The first records that are left, stored from the place i on, are all of them stored from the start on. Assumes
-- nothing.
use Rattle.std.proofs.Common.{◌+◌, ◌*◌, ◌≤◌}
use Rattle.saving.proofs.Starting.{Starting}
use Rattle.saving.proofs.firsts.Given as goal

abbrev pub invariant-loop-i : goal.invariant-loop-i
invariant-loop-i l = record { most : l.k ≤ 512 * l.i + 1; starts : Starting l.len l.count l.all l.k l.i }
