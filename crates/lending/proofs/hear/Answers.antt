-- What is put back is what the call left.
use Rattle.std.proofs.Common.{subst}
use Rattle.hub.specs.Replies.{reply}
use Rattle.hub.specs.Lent.{Hears}
use Rattle.hub.specs.Whole.{Link}
use Rattle.lending.proofs.Linking.{held}
use Rattle.lending.proofs.hear.Goals as goal

pub returns-clause-link : goal.returns-clause-link
returns-clause-link c p v =
    let row = c.args.row.now in
    let f = c.hear in
    let l = subst (λ x. Hears row.controller x (reply f.result) f.new.c) c.report-x.ensures f.ensures in
    Link.hear {h = held row p} {r = reply f.result} {c' = f.new.c} c.typed.ensures l
