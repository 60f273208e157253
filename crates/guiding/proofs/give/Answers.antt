-- `guiding::give` meets its contract: refusal 20, or the length of the list in bytes. Assumes nothing.
use Rattle.std.proofs.Common.{arith}
use Rattle.model.specs.State.{entries}
use Rattle.refusal.proofs.Checks.{left}
use Rattle.refinement.specs.Refinement.{abs}
use Rattle.refinement.specs.Lent.{places_in}
use Rattle.recovery.specs.Plan.{plan}
use Rattle.guiding.proofs.Guides.{gave-error, gave-list, few-given}
use Rattle.guiding.proofs.give.Goals as goal

pub returns-in_err-count : goal.returns-in_err-count
returns-in_err-count c =
    let q = plan entries (abs c.args.row.now (places_in c.args.p)) in
    let g = c.in_err-count.ensures in
    record {
      result = gave-error q g.answer (left _ c.from_residual.ensures.1);
      list = g.left;
    }

pub overflow_mul-result : goal.overflow_mul-result
overflow_mul-result c =
    let few = few-given (abs c.args.row.now (places_in c.args.p)) c.in_ok-count.ensures in
    record { fits = omega (arith, few) }

pub returns : goal.returns
returns c =
    let q = plan entries (abs c.args.row.now (places_in c.args.p)) in
    let g = c.in_ok-count.ensures in
    record { result = gave-list q g.answer g.count; list = g.left }
