-- Zeros mark nothing. Assumes nothing.
use Rattle.std.proofs.Common.{arith, ap, ◌∙◌, length}
use Rattle.marks.specs.Marks.{marked}
use Rattle.marks.proofs.Laws.{marked-none}
use Rattle.chains.proofs.Image.well_linked.Goals as goal

pub walk_all-linked-requires : goal.walk_all-linked-requires
walk_all-linked-requires c =
    let clean = ap marked c.clear.ensures ∙ marked-none (length c.args.scratch.now) in
    (c.requires.0, omega arith, clean)
