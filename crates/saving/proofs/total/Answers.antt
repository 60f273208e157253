-- std's sum, and the last number. Assumes nothing.
use Rattle.std.proofs.Common.{rules, ◌≡◌, suc, sum, sym, ap, ◌∙◌, ◌+◌, arith}
use Rattle.std.proofs.iter.runs.Sources.{sums}
use Rattle.std.proofs.iter.runs.Made.{chains}
use Rattle.saving.proofs.Lengths.{sum-last, sum-bound}
use Rattle.saving.proofs.total.Goals as goal

pub sum-requires-clause-fits : goal.sum-requires-clause-fits
sum-requires-clause-fits c = search (rules, sums)

pub overflow_add-result : goal.overflow_add-result
overflow_add-result c =
    let e : c.sum.result ≡ sum c.args.len.now = search (rules, chains) in
    omega (arith, e, sum-bound c.args.len.now (λ i. c.requires (suc i)))

pub returns : goal.returns
returns c =
    let e : c.sum.result ≡ sum c.args.len.now = search (rules, chains) in
    ap (λ n. n + c.args.count) e ∙ sym (sum-last c.args.len.now c.args.count)
