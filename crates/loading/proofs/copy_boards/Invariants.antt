-- The lists that are left, laid from the part b on, are all of them laid from the start on. Assumes nothing.
use Rattle.chains.specs.Image.{values_of, epochs_of}
use Rattle.loading.proofs.Boards.{Laying, Counting}
use Rattle.loading.proofs.copy_boards.Given as goal

abbrev pub invariant-loop-b : goal.invariant-loop-b
invariant-loop-b l =
    let i = l.image.bytes.now in
    record {
      values : Laying (values_of i) i l.initial.store l.store l.b;
      epochs : Laying (epochs_of i) i l.initial.store2 l.store2 l.b;
      counts : Counting i l.initial.len l.len l.b;
    }
