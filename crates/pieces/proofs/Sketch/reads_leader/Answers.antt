-- `pieces::Sketch::reads_leader` meets its contract: the record, or none in stage boards. Assumes nothing.
use Rattle.pieces.proofs.Standing.{reads-none, reads-put}
use Rattle.pieces.proofs.Sketch.reads_leader.Goals as goal

pub returns-then-eq : goal.returns-then-eq
returns-then-eq c = reads-none c.args.self.now c.eq.ensures c.if-eq.true

pub returns : goal.returns
returns c = reads-put c.args.self.now c.eq.ensures c.if-eq.false c.put.ensures
