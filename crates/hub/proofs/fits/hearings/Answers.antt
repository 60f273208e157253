-- The tests of b are those of what is heard of the board b.
use Rattle.std.proofs.Common.{rules, [], ◌∷◌, leb}
use Rattle.model.specs.Ranges.{every}
use Rattle.cluster.specs.Layout.{at}
use Rattle.cluster.proofs.Laws.{at-index}
use Rattle.hub.proofs.fits.hearings.Goals as goal

pub returns : goal.returns
returns c =
    let a = c.args in
    c.every_board.ensures (λ b. every (leb (at 0 a.heard b) 513 ∷ leb (at 0 a.joined b) 4000 ∷ [])) (λ b r h.
    rw (at-index 0 a.heard b.number b.least, at-index 0 a.joined b.number b.least) (search rules))
