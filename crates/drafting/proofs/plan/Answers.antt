-- `drafting::plan` meets its contract: the draft, delivered. Assumes nothing.
use Rattle.std.proofs.Common.{refl}
use Rattle.drafting.proofs.Parts.{gives-drafted}
use Rattle.drafting.proofs.plan.Goals as goal

pub returns : goal.returns
returns c = gives-drafted c.new.ensures.none refl c.draft.ensures _ c.kept.ensures.records c.deliver.ensures
