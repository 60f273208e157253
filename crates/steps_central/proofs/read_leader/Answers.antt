-- `steps_central::read_leader` meets its contract. Assumes nothing.
use Rattle.std.proofs.Common.{refl, arith}
use Rattle.refusal.specs.declared.Refusal.TheVariants.{Stage}
use Rattle.model.specs.Steps.{read_leader}
use Rattle.refinement.specs.Refinement.{row_of}
use Rattle.steps_central.proofs.Governing.{refused_governs, tells_govern, found}
use Rattle.steps_central.proofs.read_leader.Goals as goal

pub read_leader-c-requires : goal.read_leader-c-requires
read_leader-c-requires c = (c.requires.0, rw c.len.ensures (c.requires.1.most _))

pub returns-in_default-clause-step : goal.returns-in_default-clause-step
returns-in_default-clause-step c joined =
    let row = c.args.row.now in
    let t = c.in_default.ensures.test in
    let h = c.requires.0 in
    refused_governs read_leader row.registry row.controller row.views joined row.len c.requires.1 Stage
    (λ acked issued. grind arith)

pub returns-clause-step : goal.returns-clause-step
returns-clause-step c joined =
    let row = c.args.row.now in
    rw c.take.ensures.row
    (tells_govern read_leader row.registry row.controller row.views joined row.len c.requires.1
    (record { state = λ _. refl; places = refl }) (λ _. refl)
    c.read_leader-c.result c.take.result c.take.ensures.answer c.take.ensures.set c.read_leader-c.ensures
    (λ acked issued p full t. rw (c.view.ensures, c.len.ensures, c.in-Ok.ensures.number)
    (let f = found (row_of row.registry row.controller row.views joined acked row.len issued) row.controller.view.leader p
    c.requires.1 full in (f.0, f.2))))

pub returns-clause-rest : goal.returns-clause-rest
returns-clause-rest c = rw c.take.ensures.row refl
