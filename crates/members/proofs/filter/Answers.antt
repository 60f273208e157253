-- `members::filter` meets its contract. Assumes nothing.
use Rattle.std.proofs.Common.{ap, ◌∙◌}
use Rattle.model.specs.Members.{◌∩◌}
use Rattle.members.specs.Mask.{bits}
use Rattle.members.proofs.Laws.{bits-both, under-meet}
use Rattle.members.proofs.filter.Goals as goal

pub returns : goal.returns
returns g c = λ p h.
    let m = c.args.m in
    bits-both m c.gather.result ∙ ap (λ q. bits m ∩ q) (c.gather.ensures p h) ∙ under-meet p m
