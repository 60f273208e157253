-- Assumes nothing.
use Rattle.std.proofs.Common.{rules, refl, ◌≡◌}
use Rattle.refusal.specs.Refusal.{answer}
use Rattle.model.specs.Steps.{append, answer_of}
use Rattle.cluster.specs.Layout.{outline_of}
use Rattle.refinement.proofs.Turning.{turned_away}
use Rattle.steps_leader.proofs.Afters.{append-turns}
use Rattle.steps_leader.proofs.append.Goals as goal

pub returns-in_err-b-clause-step : goal.returns-in_err-b-clause-step
returns-in_err-b-clause-step c issued list list2 few full =
    let h = c.in_err-b.ensures.answer c.args.value in
    turned_away (record c.args.row.now { issued = issued }) _ (append c.args.b c.args.value) c.from_residual.result
    c.from_residual.ensures.0 (search rules) c.requires.0 few full

pub returns-clause-step : goal.returns-clause-step
returns-clause-step c issued list list2 few full =
    let h = c.in_ok-b.ensures in
    let s = c.append_entry.ensures in
    append-turns (record c.args.row.now { issued = issued }) c.requires.0 few _ full (search rules) c.args.b c.args.value
    c.index-i.result c.len-n.result c.view.result (search rules) (search rules) (search rules) (h.answer c.args.value) _
    h.board _ _ s.0 s.1
