-- Assumes nothing.
use Rattle.std.proofs.Common.{rules}
use Rattle.steps_follower.proofs.Counts.{restarted}
use Rattle.steps_follower.proofs.restart.Goals as goal

pub returns : goal.returns
returns c =
    restarted c.args.acked.now c.args.b.number c.args.b.least c.args.b.most (search rules) c.args.n c.index-i.result
    c.fill.new.self c.index-i.ensures.place (c.fill.ensures.after (λ y e. e))
