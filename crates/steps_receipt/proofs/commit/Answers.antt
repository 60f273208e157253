-- Assumes nothing.
use Rattle.std.proofs.Common.{rules, ap}
use Rattle.refinement.specs.Refinement.{Places}
use Rattle.refinement.proofs.Turning.{turned_away_set}
use Rattle.steps_receipt.proofs.Afters.{commit-turns}
use Rattle.steps_receipt.proofs.commit.Goals as goal

pub returns-in_err-b-clause-step : goal.returns-in_err-b-clause-step
returns-in_err-b-clause-step c =
    turned_away_set _ _ _ c.from_residual.result c.from_residual.ensures.0 (search rules) c.requires.1 c.requires.0 c.requires.2

pub returns-clause-step : goal.returns-clause-step
returns-clause-step c =
    let h = c.in_ok-b.ensures in
    let s = c.commit.ensures in
    let e = c.lent-places.ensures in
    commit-turns c.args.row.now c.requires.1 c.requires.0 _ c.requires.2 c.args.b c.in_ok-b.behind h.answer h.behind _ _
    (rw (s.0, c.entry-value.ensures 0, h.board, ap (λ (z : Places). z.store) e))
    (rw (s.1, c.entry-term.ensures 0, h.board, ap (λ (z : Places). z.store2) e))
