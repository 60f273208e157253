-- At a board's turn its chain can be copied. Assumes nothing.
use Rattle.std.proofs.Common.{arith, refl}
use Rattle.chains.specs.Image.{values_of, epochs_of}
use Rattle.loading.proofs.Boards.{sound-at, lays-on, laid-all, counts-on, counted-all}
use Rattle.loading.proofs.copy_boards.Goals as goal

pub copy_board-requires : goal.copy_board-requires
copy_board-requires c =
    (omega arith, sound-at _ c.args.image.bytes.now _ (omega arith) c.requires.0, omega arith, omega arith)

pub overflow_cast-len : goal.overflow_cast-len
overflow_cast-len c =
    let s = sound-at _ c.args.image.bytes.now c.loop-b.b (omega arith) c.requires.0 in
    omega (arith, c.copy_board.ensures.count, s.short)

pub loop-b-preserved : goal.loop-b-preserved
loop-b-preserved c =
    let i = c.args.image.bytes.now in
    let w = c.loop-b.invariant in
    record {
      values = lays-on (values_of i) i _ _ c.loop-b.b (omega arith) w.values _ c.copy_board.ensures.values;
      epochs = lays-on (epochs_of i) i _ _ c.loop-b.b (omega arith) w.epochs _ c.copy_board.ensures.epochs;
      counts = counts-on i _ _ c.loop-b.b (omega arith) w.counts _ c.copy_board.ensures.count;
    }

pub returns : goal.returns
returns c =
    let i = c.args.image.bytes.now in
    let w = c.loop-b.invariant in
    record {
      values = laid-all (values_of i) i _ _ c.loop-b.b (omega arith) w.values;
      epochs = laid-all (epochs_of i) i _ _ c.loop-b.b (omega arith) w.epochs;
      lens = counted-all i _ _ c.loop-b.b (omega arith) refl w.counts;
    }
