-- The fold is that of the tests from the front. Assumes nothing.
use Rattle.std.proofs.Common.{rules, true, ◌&&◌, ◌∙◌, leb}
use Rattle.std.proofs.lemmas.Iterator.{YieldsList-from_slice}
use Rattle.std.proofs.lemmas.Iterator.Consumers.{fold_from_yields_List}
use Rattle.cluster.proofs.Ranging.{from_front}
use Rattle.cluster.proofs.ranges.few.Goals as goal

pub returns : goal.returns
returns c =
    fold_from_yields_List _ (λ ok n. ok && leb n 512) true _ c.fold.ensures.ran
    (YieldsList-from_slice c.args.part.now cc) (λ t x b q k. search rules)
    ∙ from_front c.args.part.now true
