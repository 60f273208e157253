-- Assumes nothing.
use Rattle.std.proofs.Common.{rules}
use Rattle.refinement.proofs.Turning.{turned_away}
use Rattle.steps_follower.proofs.Afters.{receive-turns}
use Rattle.steps_follower.proofs.receive.Goals as goal

pub returns-in_err-b-clause-step : goal.returns-in_err-b-clause-step
returns-in_err-b-clause-step c issued list list2 few full =
    turned_away (record c.args.row.now { issued = issued }) _ _ c.from_residual.result c.from_residual.ensures.0 (search rules) c.requires.1 few full

pub returns-clause-step : goal.returns-clause-step
returns-clause-step c issued list list2 few full =
    let h = c.in_ok-b.ensures in
    let s = c.receive_entry.ensures in
    receive-turns (record c.args.row.now { issued = issued }) c.requires.1 few _ full (search rules) (search rules) c.args.b c.in_ok-b.b.number
    c.index.result c.in_ok-b.leader.number c.len-n.result h.boards.0 c.index.ensures.place h.boards.1 c.len-n.ensures
    h.answer _ _ s.0 s.1
