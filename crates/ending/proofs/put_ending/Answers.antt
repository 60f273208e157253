-- No ending is longer than the room that there is. Assumes nothing.
use native.Mathlib.Omega.{arith}
use Rattle.text.proofs.Laws.{pages}
use Rattle.ending.specs.Ending.{ending}
use Rattle.ending.proofs.Endings.{receipts, ending-fits}
use Rattle.ending.proofs.put_ending.Goals as goal

pub put_registry-requires : goal.put_registry-requires
unfolding ending
put_registry-requires c =
    grind (
      arith,
      pages,
      receipts,
      ending-fits c.args.row.now c.args.list.now c.args.list2.now c.requires.row c.requires.terms c.type_inv.list,
    )

pub put_control-requires : goal.put_control-requires
unfolding ending
put_control-requires c =
    grind (
      arith,
      pages,
      receipts,
      ending-fits c.args.row.now c.args.list.now c.args.list2.now c.requires.row c.requires.terms c.type_inv.list,
    )

pub put_replicas-requires : goal.put_replicas-requires
unfolding ending
put_replicas-requires c =
    grind (
      arith,
      pages,
      receipts,
      ending-fits c.args.row.now c.args.list.now c.args.list2.now c.requires.row c.requires.terms c.type_inv.list,
    )

pub put_receipts-requires-clause-room : goal.put_receipts-requires-clause-room
unfolding ending
put_receipts-requires-clause-room c =
    grind (
      arith,
      pages,
      receipts,
      ending-fits c.args.row.now c.args.list.now c.args.list2.now c.requires.row c.requires.terms c.type_inv.list,
    )

pub returns-clause-text : goal.returns-clause-text
unfolding ending
returns-clause-text c = grind (arith, pages, receipts)

pub returns-clause-most : goal.returns-clause-most
unfolding ending
returns-clause-most c =
    grind (
      arith,
      pages,
      receipts,
      ending-fits c.args.row.now c.args.list.now c.args.list2.now c.requires.row c.requires.terms c.type_inv.list,
    )
