-- Each test is p of its board, by what the closure ensures.
use Rattle.std.proofs.Common.{rules, true, false, ◌≡◌, ◌∙◌, sym, ap, ◌+◌, arith}
use borrow.Author.Count.{below_none, below_more}
use Rattle.cluster.proofs.Ranging.{passed-all, passed-not}
use Rattle.cluster.proofs.ranges.every_board.Goals as goal

pub loop-i-init : goal.loop-i-init
loop-i-init g c = (search rules, λ p h. below_none (λ k. p (k + 1) ≡ true))

pub loop-i-preserved : goal.loop-i-preserved
loop-i-preserved g c = (
  search rules,
  λ p h. below_more (λ k. p (k + 1) ≡ true) c.loop-i.i (c.loop-i.invariant.1 p h)
      (ap p (sym c.at.ensures) ∙ sym (h c.at.result true c.if-not-test.ensures)),
)

pub returns-then-not-test : goal.returns-then-not-test
returns-then-not-test g c p h =
    sym (passed-not p c.loop-i.i (omega arith)
    (ap p (sym c.at.ensures) ∙ sym (h c.at.result false c.if-not-test.ensures)))

pub returns : goal.returns
returns g c p h = sym (passed-all p (λ k a. c.loop-i.invariant.1 p h k (omega arith)))
