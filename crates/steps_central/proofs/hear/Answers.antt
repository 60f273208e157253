-- `steps_central::hear` meets its contract. Assumes nothing.
use Rattle.std.proofs.Common.{refl}
use Rattle.std.proofs.lemmas.Result.{err_from_is_err_and}
use Rattle.model.specs.Steps.{hear}
use Rattle.refinement.specs.Refinement.{row_of}
use Rattle.steps_central.proofs.Governing.{refused_governs, tells_govern, found}
use Rattle.steps_central.proofs.hear.Goals as goal

pub hear-c-requires : goal.hear-c-requires
hear-c-requires c = rw c.len.ensures (c.requires.most _)

pub returns-in_err-b-clause-step : goal.returns-in_err-b-clause-step
returns-in_err-b-clause-step c =
    let row = c.args.row.now in
    let p = err_from_is_err_and c.from_residual.result c.from_residual.ensures.1 in
    let e = c.in_err-b.ensures in
    rw (p.1, p.2)
    (refused_governs (hear c.args.b) row.registry row.controller row.views row.joined row.len c.requires _
    (λ _ _. rw e.test (rw e.test at e.answer)))

pub returns-clause-step : goal.returns-clause-step
returns-clause-step c =
    let row = c.args.row.now in
    rw (c.take.ensures.row, ← c.in_ok-b.ensures.number)
    (tells_govern (hear c.in_ok-b.b.number) row.registry row.controller row.views row.joined row.len c.requires
    (record { state = λ _. refl; places = refl }) (λ _. refl)
    c.hear-c.result c.take.result c.take.ensures.answer c.take.ensures.set c.hear-c.ensures
    (λ acked issued p full t. rw (c.view.ensures, c.joined.ensures, c.len.ensures)
    (found (row_of row.registry row.controller row.views row.joined acked row.len issued) c.in_ok-b.b.number p
    c.requires full)))

pub returns-clause-rest : goal.returns-clause-rest
returns-clause-rest c = rw c.take.ensures.row refl
