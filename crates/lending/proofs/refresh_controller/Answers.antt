-- What is put back is what the call left.
use Rattle.hub.specs.Replies.{reply}
use Rattle.hub.specs.Whole.{Link}
use Rattle.lending.proofs.Linking.{held}
use Rattle.lending.proofs.refresh_controller.Goals as goal

pub returns-clause-link : goal.returns-clause-link
returns-clause-link c p v =
    let f = c.refresh_controller in
    Link.news {h = held c.args.row.now p} {r = reply f.result} {c' = f.new.c} c.typed.ensures f.ensures
