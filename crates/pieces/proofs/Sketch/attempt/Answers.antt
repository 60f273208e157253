-- `pieces::Sketch::attempt` meets its contract: the inner step. Assumes nothing.
use Rattle.std.proofs.Common.{rules}
use Rattle.model.specs.Records.{of}
use Rattle.refinement.specs.Lent.{places_in}
use Rattle.pieces.proofs.Trying.{fit-ready, turned, fits-still, answered, unchanged}
use Rattle.pieces.proofs.Sketch.attempt.Goals as goal

-- The type of a row fixes the lengths of its arrays.
pub send-requires : goal.send-requires
send-requires c =
    let s = c.args.self.now in (fit-ready s.row (places_in s.places) (search rules) s.fit, s.fit.full)

pub invariant_of-self : goal.invariant_of-self
invariant_of-self c =
    let s = c.args.self.now in
    let t = turned c.of.ensures c.send.ensures.step in
    record { fit = fits-still (of c.args.step c.args.board) s.row (places_in s.places) s.fit c.requires t }

pub returns : goal.returns
returns c =
    let s = c.args.self.now in
    let t = turned c.of.ensures c.send.ensures.step in
    record {
      answer = answered (of c.args.step c.args.board) s.row (places_in s.places) s.fit t;
      state = t.state;
      orders = search rules;
      sound = search rules;
      refused = unchanged t;
      same = c.send.ensures.same;
    }
