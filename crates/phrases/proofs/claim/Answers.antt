-- `phrases::claim` meets its contract. Assumes nothing.
use Rattle.phrases.proofs.Differ.{lines-differ}
use Rattle.phrases.proofs.Printing.{lines-one}
use Rattle.phrases.proofs.Listed.{covers}
use Rattle.phrases.proofs.Lengths.{lengths-tell}
use Rattle.phrases.proofs.Trials.{lines-hold, room-holds}
use Rattle.phrases.proofs.claim.Goals as goal

pub returns : goal.returns
returns c = (lines-differ, lines-one, covers, lengths-tell, lines-hold, room-holds)
