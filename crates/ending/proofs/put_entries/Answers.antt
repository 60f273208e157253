-- The next receipt is of the value and the term at its place. Assumes nothing.
use mathlib.Core.Path.{ap}
use native.Mathlib.Omega.{arith}
use Rattle.std.specs.Prelude.{length}
use Rattle.std.proofs.lemmas.List.{length_push, take_all}
use Rattle.std.proofs.lemmas.Slice.Zip.{zip_turn, zip_end}
use Rattle.logstore.proofs.Laws.{pairs-length}
use Rattle.text.proofs.Laws.{room-first, room-rest, puts-then, puts_as}
use Rattle.lines.specs.Lines.{space}
use Rattle.ending.specs.Ending.{receipts_text}
use Rattle.ending.proofs.Endings.{entries-next, entries-room}
use Rattle.ending.proofs.put_entries.Goals as goal

pub put_byte-requires : goal.put_byte-requires
put_byte-requires c =
    let z = zip_turn c.args.values.now c.args.terms.now c.loop-value.yielded _ c.loop-value.value-iterator c.next.new.self _ (cc) (cc)
    c.loop-value.yielded_by _ c.in-Some.is c.next.ensures.steps in
    room-first c.loop-value.page space _
    (entries-room c.args.values.now c.args.terms.now (length c.loop-value.yielded) _ _ c.requires.same z.0 (z.2 0) (z.3 0)
    c.loop-value.invariant.2 c.requires.room)

pub put_receipt-requires : goal.put_receipt-requires
put_receipt-requires c =
    let z = zip_turn c.args.values.now c.args.terms.now c.loop-value.yielded _ c.loop-value.value-iterator c.next.new.self _ (cc) (cc)
    c.loop-value.yielded_by _ c.in-Some.is c.next.ensures.steps in
    room-rest space _ c.put_byte.ensures
    (entries-room c.args.values.now c.args.terms.now (length c.loop-value.yielded) _ _ c.requires.same z.0 (z.2 0) (z.3 0)
    c.loop-value.invariant.2 c.requires.room)

pub loop-value-preserved : goal.loop-value-preserved
loop-value-preserved c =
    let z = zip_turn c.args.values.now c.args.terms.now c.loop-value.yielded _ c.loop-value.value-iterator c.next.new.self _ (cc) (cc)
    c.loop-value.yielded_by _ c.in-Some.is c.next.ensures.steps in
    let e = entries-next c.args.values.now c.args.terms.now (length c.loop-value.yielded) _ _ c.requires.same z.0 (z.2 0)
    (z.3 0) in (
      (tt, tt),
      tt,
      rw (length_push, e)
          (puts-then c.loop-value.invariant.2 (puts-then c.put_byte.ensures c.put_receipt.ensures)),
    )

pub returns : goal.returns
returns c =
    let z = zip_end c.args.values.now c.args.terms.now c.loop-value.yielded _ c.loop-value.value-iterator c.next.new.self _ (cc) (cc)
    c.loop-value.yielded_by c.in-None.is c.next.ensures.steps in
    puts_as
    (ap receipts_text (take_all (length c.loop-value.yielded) _
    (omega (arith, z, pairs-length c.args.values.now c.args.terms.now c.requires.same))))
    c.loop-value.invariant.2
