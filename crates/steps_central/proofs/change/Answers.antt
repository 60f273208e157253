-- `steps_central::change` meets its contract. Assumes nothing.
use Rattle.std.proofs.Common.{refl}
use Rattle.model.specs.Steps.{change_leader}
use Rattle.steps_central.proofs.Governing.{rules_govern}
use Rattle.steps_central.proofs.change.Goals as goal

pub returns-clause-step : goal.returns-clause-step
returns-clause-step c views joined len s =
    rules_govern (change_leader) c.args.row.now.registry c.args.row.now.controller views joined len s
    (record { state = λ _. refl; places = refl }) (λ _. refl)
    c.change.result c.nobody.result c.nobody.ensures.answer c.nobody.ensures.set _ c.change.ensures
