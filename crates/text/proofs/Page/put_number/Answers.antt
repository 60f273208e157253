-- The last digit of what is left may be stored before the others. Assumes nothing.
use mathlib.Core.Path.{◌∙◌}
use native.Mathlib.Omega.{arith}
use Rattle.std.proofs.Common.{◌+◌, ◌-◌, ◌/◌, ◌≡◌, length}
use lib.ListN.{length-set}
use Rattle.text.specs.Text.{digits}
use Rattle.text.proofs.Laws.{last_first, last_one, digits-one-length, digits-more-length}
use Rattle.text.proofs.Page.put_number.Goals as goal

pub overflow_sub-i : goal.overflow_sub-i
overflow_sub-i c = omega (arith, digits-more-length c.loop-left.left c.loop-left-test.true)

pub bounds-self-i : goal.bounds-self-i
bounds-self-i c = omega (arith, digits-more-length c.loop-left.left c.loop-left-test.true)

pub loop-left-preserved : goal.loop-left-preserved
loop-left-preserved c =
    let l = c.loop-left in
    let e : l.i - 1 ≡ l.self.at + length (digits (l.left / 10)) =
    omega (arith, digits-more-length l.left c.loop-left-test.true) in (
      e,
      l.invariant.1,
      l.invariant.2,
      simp length-set l.invariant.3,
      simp length-set (omega arith),
      omega arith,
      l.invariant.6,
      last_first l.self.out.now l.self.at (l.i - 1) l.left c.loop-left-test.true e ∙ l.invariant.7,
    )

pub bounds-self-self : goal.bounds-self-self
bounds-self-self c = omega (arith, digits-one-length c.loop-left.left c.loop-left-test.false)

pub returns : goal.returns
returns c =
    let l = c.loop-left in
    record {
      wrote = record {
        next = omega arith;
        text = last_one l.self.out.now l.self.at l.left c.loop-left-test.false ∙ l.invariant.7;
      };
      same = l.invariant.6;
    }
