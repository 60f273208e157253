-- `ranking::first` meets its contract. Assumes nothing.
use Rattle.std.proofs.Common.{rules}
use lib.Dec.{ltb}
use Rattle.model.specs.Members.{◌∩◌, size}
use Rattle.members.specs.Mask.{bits}
use Rattle.ranking.proofs.first.Goals as goal

pub returns : goal.returns
returns c =
    c.filter.ensures (λ b. ltb (size ((λ x. ltb x b) ∩ bits c.args.m)) c.args.n) (λ x t e. search rules)
