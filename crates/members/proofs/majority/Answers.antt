-- `members::majority` meets its contract: the array is the table of the rule, so the number at a mask is the rule's
-- there. Assumes nothing.
use Rattle.std.proofs.Common.{ℕ, ◌<◌, arith, sym, rules}
use mathlib.Core.Path.{subst}
use Rattle.model.specs.Members.{quorum, size}
use Rattle.members.specs.Mask.{bits}
use Rattle.members.proofs.Finite.{table_at}
use Rattle.members.proofs.Laws.{size-le}
use Rattle.members.proofs.majority.Goals as goal

-- "Each is document 01's majority of that many boards": half the ones rounded down, plus 1.
abbrev rule : ℕ → ℕ
rule m = quorum (size (bits m))

-- The test over the whole table: the goal has the array where the law has `table rule 256`.
pub returns : goal.returns
unfolding bits
returns c = table_at rule 256 c.args.m (search rules)

-- The result is a byte: a majority is 5 at the most.
small : (m : ℕ) → rule m < 256
small m = omega (arith, size-le (bits m))

pub overflow_cast-result-2 : goal.overflow_cast-result-2
unfolding bits
overflow_cast-result-2 c =
    record { fits = subst (λ n. n < 256) (sym (table_at rule 256 c.args.m (search rules))) (small c.args.m) }
