-- `steps_central::install` meets its contract. Assumes nothing.
use Rattle.std.proofs.Common.{refl}
use Rattle.model.specs.Steps.{install}
use Rattle.steps_central.proofs.Governing.{settles_govern}
use Rattle.steps_central.proofs.install.Goals as goal

pub returns-clause-step : goal.returns-clause-step
returns-clause-step c views joined len s =
    settles_govern (install c.args.b) c.args.row.now.registry c.args.row.now.controller views joined len s
    (record { state = λ _. refl; places = refl }) c.install.result _ _ c.install.ensures
