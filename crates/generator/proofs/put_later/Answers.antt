-- `generator::put_later` meets its contract. Assumes nothing.
use Rattle.std.proofs.Common.{sym}
use Rattle.text.proofs.Laws.{room_as, room-first, room-rest, puts_as, puts-then, puts-nothing}
use Rattle.records.specs.Record.{record_of}
use Rattle.records.specs.Bytes.{record_bytes}
use Rattle.draws.specs.Draws.{drawn}
use Rattle.generator.proofs.Later.{later-next, later-none}
use Rattle.generator.proofs.put_later.Goals as goal

pub put-requires : goal.put-requires
put-requires c =
    let x = drawn (record_of c.next_record.result) c.next_record.new.self.state in
    let e = later-next c.args.k c.loop.counter c.loop.draws.state x c.loop-test.true c.next_record.ensures in
    room-first c.loop.page (record_bytes x.made) _ (room_as c.loop.page e c.loop.invariant.0)

pub loop-preserved : goal.loop-preserved
loop-preserved c =
    let x = drawn (record_of c.next_record.result) c.next_record.new.self.state in
    let e = later-next c.args.k c.loop.counter c.loop.draws.state x c.loop-test.true c.next_record.ensures in (
      room-rest (record_bytes x.made) _ c.put.ensures (room_as c.loop.page e c.loop.invariant.0),
      λ q w. c.loop.invariant.1 q (puts_as (sym e) (puts-then c.put.ensures w)),
    )

pub returns : goal.returns
returns c = c.loop.invariant.1 _ (puts_as (sym (later-none _ _ _ c.loop-test.false)) (puts-nothing _))
