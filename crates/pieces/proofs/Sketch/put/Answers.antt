-- `pieces::Sketch::put` meets its contract: the record is tried, and noted. Assumes nothing.
use Rattle.std.proofs.Common.{◌&&◌, refl, ap}
use Rattle.pieces.proofs.Standing.{same-lent, put-moves}
use Rattle.pieces.proofs.Sketch.put.Goals as goal

pub returns : goal.returns
returns c =
    put-moves c.attempt.ensures _ refl (same-lent _) c.push.ensures.more c.push.ensures.count c.push.ensures.same
    (ap (λ b. c.attempt.new.self.sound && b) c.is_ok-ok.ensures.value)
