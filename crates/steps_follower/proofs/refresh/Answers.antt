-- Assumes nothing.
use Rattle.std.proofs.Common.{rules, arith, true, false, ap, refl, not}
use borrow.Author.Tests.{eq-eqb, ne_eqb}
use Rattle.refinement.proofs.Turning.{turned_away}
use Rattle.steps_follower.proofs.Afters.{refresh-turns}
use Rattle.steps_follower.proofs.refresh.Goals as goal
use Rattle.steps_follower.proofs.refresh.Goals.{else-changed-via-then-changed+else-news-b, else-changed-via-else-changed}

pub returns-in_err-b-clause-step : goal.returns-in_err-b-clause-step
returns-in_err-b-clause-step c issued p few full =
    turned_away (record c.args.row.now { issued = issued }) _ _ c.from_residual.result c.from_residual.ensures.0 (search rules) c.requires few full

pub returns-then-news-b-clause-step : goal.returns-then-news-b-clause-step
returns-then-news-b-clause-step c issued p few full =
    let e = ap not (ne_eqb _ _ c.if-changed.true) in
    refresh-turns (record c.args.row.now { issued = issued }) c.requires few p full (search rules) (search rules) c.args.b c.in_ok-b.b.number
    c.index-i.result c.len-n.result c.view.result c.in_ok-b.ensures.board c.index-i.ensures.place c.len-n.ensures
    c.view.ensures c.in_ok-b.ensures.answer true true e (eq-eqb _ _ c.if-news-b.true)
    c.counts_after.new.acked (grind (arith, e, c.counts_after.ensures))

pub returns-else-changed-clause-step : goal.returns-else-changed-clause-step
returns-else-changed-clause-step c issued p few full = elim c.else-changed.branch [
  | else-changed-via-then-changed+else-news-b w ↦
      let e = ap not (ne_eqb _ _ w.if-changed.true) in
      refresh-turns (record c.args.row.now { issued = issued }) c.requires few p full (search rules) (search rules) c.args.b c.in_ok-b.b.number
      c.index-i.result c.len-n.result c.view.result c.in_ok-b.ensures.board c.index-i.ensures.place c.len-n.ensures
      c.view.ensures c.in_ok-b.ensures.answer true false e (ne_eqb _ _ w.if-news-b.false)
      c.counts_after.new.acked (grind (arith, e, c.counts_after.ensures))
  | else-changed-via-else-changed w ↦
      let e = ap not (eq-eqb _ _ w.if-changed.false) in
      refresh-turns (record c.args.row.now { issued = issued }) c.requires few p full (search rules) (search rules) c.args.b c.in_ok-b.b.number
      c.index-i.result c.len-n.result c.view.result c.in_ok-b.ensures.board c.index-i.ensures.place c.len-n.ensures
      c.view.ensures c.in_ok-b.ensures.answer false _ e refl
      c.counts_after.new.acked (grind (arith, e, c.counts_after.ensures))
]
