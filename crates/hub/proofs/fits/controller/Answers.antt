-- The tests are those of the model's list that speak of a controller.
use Rattle.std.proofs.Common.{◌∙◌, sym}
use Rattle.hub.proofs.Fitting.{controller-fits}
use Rattle.hub.proofs.fits.controller.Goals.{then-in_range, else-in_range}
use Rattle.hub.proofs.fits.controller.Goals as goal

pub returns-then-names_leader : goal.returns-then-names_leader
returns-then-names_leader c =
    rw (← controller-fits c.args.c)
    (elim c.if-in_range.branch [
      | then-in_range w ↦ rw (← w.if-in_range.ensures, ← (sym c.if-names_leader.true ∙ w.value-is ∙ w.names_leader.ensures))
          c.hearings.ensures
      | else-in_range w ↦ absurd (cc)
    ])

pub returns-else-names_leader : goal.returns-else-names_leader
returns-else-names_leader c =
    rw (← controller-fits c.args.c)
    (elim c.if-in_range.branch [
      | then-in_range w ↦ rw (← w.if-in_range.ensures, ← (sym c.if-names_leader.false ∙ w.value-is ∙ w.names_leader.ensures))
          c.if-names_leader.false
      | else-in_range w ↦ rw (← w.if-in_range.ensures) c.if-names_leader.false
    ])
