-- The fold is that of the tests from the front.
use Rattle.std.proofs.Common.{rules, true, ◌&&◌, ◌∙◌}
use Rattle.std.proofs.lemmas.Iterator.{YieldsList-from_slice}
use Rattle.std.proofs.lemmas.Iterator.Consumers.{fold_from_yields_List}
use Rattle.model.specs.Ranges.{is_epoch}
use Rattle.kept.proofs.Terms.{from_front}
use Rattle.kept.proofs.epochs.Goals as goal

pub returns : goal.returns
returns c =
    fold_from_yields_List _ (λ ok t. ok && is_epoch t) true _ c.fold.ensures.ran
    (YieldsList-from_slice c.args.part.now cc) (λ a x b q k. search rules)
    ∙ from_front c.args.part.now true
