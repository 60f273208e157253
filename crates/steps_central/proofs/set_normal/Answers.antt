-- `steps_central::set_normal` meets its contract. Assumes nothing.
use Rattle.std.proofs.Common.{refl}
use Rattle.model.specs.Steps.{set_normal}
use Rattle.steps_central.proofs.Governing.{settles_govern}
use Rattle.steps_central.proofs.set_normal.Goals as goal

pub returns-clause-step : goal.returns-clause-step
returns-clause-step c views joined len s =
    settles_govern (set_normal) c.args.row.now.registry c.args.row.now.controller views joined len s
    (record { state = λ _. refl; places = refl }) c.set_normal.result _ _ c.set_normal.ensures
