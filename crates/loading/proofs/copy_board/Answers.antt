-- The parts come back with the chain at their start. Assumes nothing.
use Rattle.chains.specs.Image.{value_of, epoch_of}
use Rattle.loading.proofs.Parts.{part-copied}
use Rattle.loading.proofs.copy_board.Goals as goal

pub returns : goal.returns
returns c =
    let i = c.args.image.bytes.now in
    let r = c.requires in
    let w = rw c.first.ensures at c.copy.ensures in
    record {
      count = w.count;
      values = part-copied c.args.store.now c.args.b r.0 r.2 _ (value_of i) _ r.1.short w.values;
      epochs = part-copied c.args.store2.now c.args.b r.0 r.3 _ (epoch_of i) _ r.1.short w.epochs;
    }
