-- What is left, stored from len on, is the whole stored from the start on. Assumes nothing.
use Rattle.chains.specs.Chain.{chain_of}
use Rattle.chains.specs.Image.{next_of, value_of, epoch_of}
use Rattle.loading.proofs.Copying.{Copying, Storing}
use Rattle.loading.proofs.copy.Given as goal

abbrev pub invariant-loop-len : goal.invariant-loop-len
invariant-loop-len l =
    let i = l.image.bytes.now in
    let ks = chain_of (next_of i) l.first in
    record {
      copying : Copying (next_of i) l.image.records ks l.at l.len;
      values : Storing (next_of i) (value_of i) ks l.initial.part l.part l.at l.len;
      epochs : Storing (next_of i) (epoch_of i) ks l.initial.part2 l.part2 l.at l.len;
    }
