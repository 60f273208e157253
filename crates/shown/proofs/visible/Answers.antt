use Rattle.std.proofs.Common.{◌∙◌}
use Rattle.refinement.specs.Lent.{places_of}
use Rattle.shown.proofs.Valid.{valid-full}
use Rattle.shown.proofs.Showing.{shown-values}
use Rattle.shown.proofs.visible.Goals as goal

pub part-requires : goal.part-requires
part-requires c v = let f = valid-full c.args.row.now (places_of c.args.p) v in (f.store, f.list)

pub returns-clause-values : goal.returns-clause-values
returns-clause-values c = c.part.ensures.part ∙ shown-values c.args.row.now (places_of c.args.p)
