-- What is left of the chain does, from what is marked, what the whole does from what was. Assumes nothing.
use Rattle.marks.specs.Marks.{marked}
use Rattle.chains.specs.Image.{next_of}
use Rattle.chains.specs.Chain.{chain_of}
use Rattle.chains.proofs.Walking.{Walking}
use Rattle.chains.proofs.Image.walk.Given as goal

abbrev pub invariant-loop-len : goal.invariant-loop-len
invariant-loop-len l =
    let next = next_of l.self.bytes.now in
    Walking next l.self.records (chain_of next l.first) (marked l.initial.scratch) (marked l.scratch) l.at l.len
