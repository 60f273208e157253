-- `pieces::Sketch::informs` meets its contract: the news, and who leads in the view after it. Assumes nothing.
use Rattle.std.proofs.Common.{refl}
use Rattle.pieces.proofs.Standing.{same-lent, informs-moves}
use Rattle.pieces.proofs.Sketch.informs.Goals as goal

pub returns : goal.returns
returns c =
    informs-moves c.args.l c.args.b c.put_unless.ensures refl refl (same-lent _) _ c.leader_of.ensures refl
