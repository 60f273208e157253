-- An empty part of the list, else the part that the store's and the list's own function shows.
use Rattle.std.proofs.Common.{sym, arith}
use Rattle.refinement.specs.Lent.{places_of}
use Rattle.shown.proofs.Valid.{ready, valid-range}
use Rattle.shown.proofs.Showing.{leader-small}
use Rattle.shown.proofs.part.Goals as goal

pub returns-then-not-fits-clause-part : goal.returns-then-not-fits-clause-part
returns-then-not-fits-clause-part g c = let e = c.if-not-fits.ensures in rw (← e.test)

pub returns-then-not-fits-clause-place : goal.returns-then-not-fits-clause-place
returns-then-not-fits-clause-place g c = let e = c.if-not-fits.ensures in rw (← e.test)

pub visible-requires : goal.visible-requires
visible-requires g c =
    let row = c.args.row.now in
    let p = places_of c.args.p in
    let v = sym c.if-not-fits.ensures.test in
    let n = c.requires v in
    let r = ready row c.fits.ensures.shape (valid-range row p v) in (
      n.0,
      n.1,
      omega (arith, leader-small row (valid-range row p v)),
      omega (arith, c.leader_len-n.ensures, r.short.most row.registry.view.leader),
      omega (arith, r.issued, c.leader_len-n.ensures, r.short.most row.registry.view.leader),
    )

pub returns-clause-part : goal.returns-clause-part
returns-clause-part g c = let e = c.if-not-fits.ensures in rw (← e.test, ← c.leader_len-n.ensures) c.visible.ensures.0

pub returns-clause-place : goal.returns-clause-place
returns-clause-place g c = let e = c.if-not-fits.ensures in rw (← e.test) c.visible.ensures.1
