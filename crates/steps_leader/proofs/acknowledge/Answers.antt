-- Assumes nothing.
use Rattle.std.proofs.Common.{rules}
use Rattle.refinement.proofs.Turning.{turned_away}
use Rattle.steps_leader.proofs.Afters.{acknowledge-turns}
use Rattle.steps_leader.proofs.acknowledge.Goals as goal

pub returns-in_err-a-clause-step : goal.returns-in_err-a-clause-step
returns-in_err-a-clause-step c issued p few full =
    turned_away (record c.args.row.now { issued = issued }) _ _ c.from_residual.result c.from_residual.ensures.0 (search rules) c.requires few full

pub returns-clause-step : goal.returns-clause-step
returns-clause-step c issued p few full =
    acknowledge-turns (record c.args.row.now { issued = issued }) c.requires few _ full (search rules) c.args.a c.args.b c.index.result c.index-2.result c.len.result (search rules) (search rules) (search rules) c.in_ok-a.ensures.answer
