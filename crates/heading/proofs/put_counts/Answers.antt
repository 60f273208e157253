-- Board by board. Assumes nothing.
use Rattle.std.proofs.Common.{ℕ, arith}
use Rattle.fields.specs.Fields.{two}
use Rattle.cluster.specs.Layout.{at_pair}
use Rattle.heading.proofs.Eights.{eight-room, eight-all}
use Rattle.heading.proofs.put_counts.Goals as goal

pub put_two-requires : goal.put_two-requires
put_two-requires c =
    let f = λ (b : ℕ). two (at_pair c.args.acked.now c.args.a.number b) in
    eight-room f c.loop-i.i (omega arith) c.loop-i.invariant c.requires

pub returns : goal.returns
returns c =
    let f = λ (b : ℕ). two (at_pair c.args.acked.now c.args.a.number b) in
    eight-all f c.loop-i.i (omega arith) c.loop-i.invariant
