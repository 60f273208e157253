-- The records in turn, the last one first in the definition. Assumes nothing.
use Rattle.std.proofs.Common.{ℕ, rules, tests, arith, refl, ◌∙◌, ◌+◌}
use Rattle.std.proofs.lemmas.Iterator.{YieldsList-from_range}
use Rattle.std.proofs.lemmas.Iterator.Search.{all_from_yields_List}
use Rattle.model.specs.Ranges.{is_epoch}
use Rattle.chains.specs.Image.{epoch_of}
use Rattle.chains.proofs.Meeting.{up_to-list}
use Rattle.chains.proofs.Image.epochs_fit.Goals as goal

pub returns : goal.returns
returns c =
    let test = λ (k : ℕ). is_epoch (epoch_of c.args.self.bytes.now k) in
    all_from_yields_List test _ _ _ c.all.ensures.ran (YieldsList-from_range 1 (c.args.self.records + 1) c.args.self.records refl (omega arith))
    (λ x b q k. search (rules, tests))
    ∙ up_to-list c.args.self.records test
