-- Refusal 1 by its three tests.
use Rattle.std.proofs.Common.{◌∙◌, sym}
use Rattle.refinement.specs.Lent.{places_of}
use Rattle.shown.proofs.Valid.{ready, fits-full, bad-lengths, bad-range, all-tests}
use Rattle.shown.proofs.fits.Goals as goal

pub returns-then-not-lengths-clause-test : goal.returns-then-not-lengths-clause-test
returns-then-not-lengths-clause-test c =
    sym (bad-lengths c.args.row.now (places_of c.args.p) (sym c.if-not-lengths.ensures))

pub in_range-requires-then-in_range : goal.in_range-requires-then-in_range
in_range-requires-then-in_range c =
    let row = c.args.row.now in
    let f = fits-full row (places_of c.args.p) (sym c.if-not-lengths.ensures) in
    let r = ready row c.typed.ensures (sym c.if-in_range.ensures) in
    (f.store2, f.list2, r.short, r.issued)

pub returns-then-in_range-clause-test : goal.returns-then-in_range-clause-test
returns-then-in_range-clause-test c =
    let row = c.args.row.now in
    let p = places_of c.args.p in
    let f = fits-full row p (sym c.if-not-lengths.ensures) in
    c.in_range-then-in_range.ensures p.store p.list f ∙ sym (all-tests row p f (sym c.if-in_range.ensures))

pub returns-else-in_range-clause-test : goal.returns-else-in_range-clause-test
returns-else-in_range-clause-test c =
    c.if-in_range.false ∙ sym (bad-range c.args.row.now (places_of c.args.p) (sym c.if-not-lengths.ensures)
    (sym c.if-in_range.ensures))
