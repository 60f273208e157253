use Rattle.std.proofs.Common.{◌∙◌}
use Rattle.refinement.specs.Lent.{places_of}
use Rattle.shown.proofs.Valid.{valid-full}
use Rattle.shown.proofs.Showing.{shown-terms}
use Rattle.shown.proofs.visible_terms.Goals as goal

pub part-requires : goal.part-requires
part-requires c v = let f = valid-full c.args.row.now (places_of c.args.p) v in (f.store2, f.list2)

pub returns-clause-terms : goal.returns-clause-terms
returns-clause-terms c = c.part.ensures.part ∙ shown-terms c.args.row.now (places_of c.args.p)
