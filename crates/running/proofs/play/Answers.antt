-- Each record's step is that of a row in range: the call's promise is the model's.
use Rattle.std.proofs.Common.{rules, ◌-◌}
use Rattle.cluster.specs.Ended.{outcome}
use Rattle.refinement.specs.Lent.{places_in}
use Rattle.running.proofs.Playing.{ran-ready, ran-next, ran-none, unwrapped}
use Rattle.running.proofs.play.Goals as goal

pub loop-k-init : goal.loop-k-init
loop-k-init c = record {
  same = search rules;
  run = ran-none c.args.sheet.now c.begin-row.result c.begin-row.ensures _ c.requires.1 _ _ c.requires.2 c.requires.3;
}

pub send-x-requires : goal.send-x-requires
send-x-requires c =
    let l = c.loop-k in
    let h = l.invariant.run in
    (ran-ready c.args.sheet.now c.requires.0 (l.k - 1) l.row (places_in l.p) l.answers l.sets h (search rules), h.full)

pub loop-k-preserved : goal.loop-k-preserved
loop-k-preserved c = record {
  same = search rules;
  run = let l = c.loop-k in
      rw (c.answer.ensures, c.unwrap_or.ensures, unwrapped c.send-x.result)
      (ran-next c.args.sheet.now c.requires.0 l.k l.row (places_in l.p) l.answers l.sets l.auto.k l.invariant.run
      _ c.at.ensures (outcome c.send-x.result c.send-x.new.row) _ c.send-x.ensures.step c.loop-k-test.true);
}
