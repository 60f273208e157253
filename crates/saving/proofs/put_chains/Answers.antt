-- List by list. Assumes nothing.
use Rattle.std.proofs.Common.{suc, arith}
use Rattle.refinement.specs.Lent.{places_of}
use Rattle.saving.specs.Saved.{lists_in}
use Rattle.saving.proofs.Putting.{lists-none}
use Rattle.saving.proofs.Turns.{log-asked, log-few, log-on, list-asked, list-end}
use Rattle.saving.proofs.put_chains.Goals as goal

pub loop-i-init : goal.loop-i-init
loop-i-init c = lists-none (lists_in c.args.row.now (places_of c.args.p)) c.args.page.now

pub slice_bounds-put_chain-end : goal.slice_bounds-put_chain-end
slice_bounds-put_chain-end c = omega (arith, c.requires.1.most (suc c.loop-i.i), c.requires.0.store)

pub put_chain-requires : goal.put_chain-requires
put_chain-requires c =
    let r = c.requires in
    log-asked c.args.row.now (places_of c.args.p) r.0 r.1 r.2 c.loop-i.i (omega arith) c.loop-i.k c.loop-i.invariant r.3

pub overflow_add-k : goal.overflow_add-k
overflow_add-k c =
    let r = c.requires in
    let most = log-few c.args.row.now (places_of c.args.p) r.0 r.1 r.2 c.loop-i.i (omega arith) c.loop-i.k c.loop-i.invariant in
    omega (arith, most)

pub loop-i-preserved : goal.loop-i-preserved
loop-i-preserved c =
    let r = c.requires in
    log-on c.args.row.now (places_of c.args.p) r.0 r.1 r.2 c.loop-i.i (omega arith) c.loop-i.k c.loop-i.invariant c.put_chain.ensures

pub put_chain-requires-2 : goal.put_chain-requires-2
put_chain-requires-2 c =
    let r = c.requires in
    list-asked c.args.row.now (places_of c.args.p) r.0 r.1 r.2 c.loop-i.k c.loop-i.i c.loop-i.invariant (omega arith) r.3

pub returns : goal.returns
returns c =
    let r = c.requires in
    list-end c.args.row.now (places_of c.args.p) r.0 r.1 r.2 c.loop-i.k c.loop-i.i c.loop-i.invariant (omega arith)
    c.put_chain-2.ensures
