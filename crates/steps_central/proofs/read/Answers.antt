-- `steps_central::read` meets its contract. Assumes nothing.
use Rattle.std.proofs.Common.{refl}
use Rattle.std.proofs.lemmas.Result.{err_from_is_err_and}
use Rattle.model.specs.Steps.{read}
use Rattle.refinement.specs.Refinement.{row_of}
use Rattle.steps_central.proofs.Governing.{refused_governs, tells_govern, found}
use Rattle.steps_central.proofs.read.Goals as goal

pub read-c-requires : goal.read-c-requires
read-c-requires c = rw c.len.ensures (c.requires.most _)

pub returns-in_err-b-clause-step : goal.returns-in_err-b-clause-step
returns-in_err-b-clause-step c views =
    let row = c.args.row.now in
    let p = err_from_is_err_and c.from_residual.result c.from_residual.ensures.1 in
    let e = c.in_err-b.ensures in
    rw (p.1, p.2)
    (refused_governs (read c.args.b) row.registry row.controller views row.joined row.len c.requires _
    (λ _ _. rw e.test (rw e.test at e.answer)))

pub returns-clause-step : goal.returns-clause-step
returns-clause-step c views =
    let row = c.args.row.now in
    rw (c.take.ensures.row, ← c.in_ok-b.ensures.number)
    (tells_govern (read c.in_ok-b.b.number) row.registry row.controller views row.joined row.len c.requires
    (record { state = λ _. refl; places = refl }) (λ _. refl)
    c.read-c.result c.take.result c.take.ensures.answer c.take.ensures.set c.read-c.ensures
    (λ acked issued p full t. rw (c.joined.ensures, c.len.ensures)
    (let f = found (row_of row.registry row.controller views row.joined acked row.len issued) c.in_ok-b.b.number p
    c.requires full in (f.1, f.2))))

pub returns-clause-rest : goal.returns-clause-rest
returns-clause-rest c = rw c.take.ensures.row refl
