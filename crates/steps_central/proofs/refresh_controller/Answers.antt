-- `steps_central::refresh_controller` meets its contract. Assumes nothing.
use Rattle.std.proofs.Common.{refl}
use Rattle.model.specs.Steps.{refresh_controller}
use Rattle.steps_central.proofs.Governing.{tells_govern}
use Rattle.steps_central.proofs.refresh_controller.Goals as goal

pub returns-clause-step : goal.returns-clause-step
returns-clause-step c views joined len s =
    rw c.take.ensures.row
    (tells_govern refresh_controller c.args.row.now.registry c.args.row.now.controller views joined len s
    (record { state = λ _. refl; places = refl }) (λ _. refl) c.refresh_controller-c.result c.take.result
    c.take.ensures.answer c.take.ensures.set c.refresh_controller-c.ensures (λ _ _ _ _. refl))

pub returns-clause-rest : goal.returns-clause-rest
returns-clause-rest c = rw c.take.ensures.row refl
