-- Record by record. Assumes nothing.
use Rattle.std.proofs.Common.{arith}
use Rattle.logstore.proofs.Laws.{pairs-length}
use Rattle.text.proofs.Laws.{puts-nothing}
use Rattle.saving.specs.Saved.{bytes_of}
use Rattle.saving.proofs.Putting.{record-room, record-on, records-end, record-is}
use Rattle.saving.proofs.put_chain.Goals as goal

pub loop-i-init : goal.loop-i-init
unfolding bytes_of
loop-i-init c = puts-nothing c.args.page.now

pub put_record-requires : goal.put_record-requires
put_record-requires c =
    let n = pairs-length c.args.values.now c.args.terms.now c.requires.1 in
    record-room c.args.k _ c.loop-i.i c.loop-i.invariant (omega (arith, n)) c.requires.3

pub loop-i-preserved : goal.loop-i-preserved
loop-i-preserved c =
    let n = pairs-length c.args.values.now c.args.terms.now c.requires.1 in
    let e = record-is c.args.values.now c.args.terms.now c.args.k c.loop-i.i _ c.requires.1 c.following.ensures in
    record-on c.args.k _ c.loop-i.i c.loop-i.invariant (omega (arith, n)) _ e c.put_record.ensures

pub returns : goal.returns
returns c =
    let n = pairs-length c.args.values.now c.args.terms.now c.requires.1 in
    records-end c.args.k _ c.loop-i.i c.loop-i.invariant (omega (arith, n))
