-- What is put back is what the call left.
use Rattle.std.proofs.Common.{subst, ap, ◌∙◌}
use Rattle.hub.specs.Replies.{reply}
use Rattle.hub.specs.Lent.{ReadsLeader}
use Rattle.hub.specs.Whole.{Link}
use Rattle.lending.proofs.Linking.{held, the-leader, tells-leader}
use Rattle.lending.proofs.read_leader.Goals as goal

pub returns-clause-link : goal.returns-clause-link
returns-clause-link c p v =
    let row = c.args.row.now in
    let f = c.read_leader in
    let b = c.unwrap_or-b.result in
    let l = subst (λ x. ReadsLeader row.controller x (reply f.result) f.new.c) c.report-x.ensures f.ensures in
    Link.read_leader {h = held row p} {r = reply f.result} {c' = f.new.c} c.typed.ensures
    (tells-leader row p c.typed.ensures v b.number b.least b.most (λ r.
    ap (λ b. b.number) c.unwrap_or-b.ensures ∙ the-leader c.new.result c.at.result c.new.ensures.number c.new.ensures.test r)) l
