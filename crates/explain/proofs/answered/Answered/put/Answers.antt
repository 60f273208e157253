-- There is room for the next line. Assumes nothing.
use Rattle.std.proofs.Common.{sym}
use Rattle.text.proofs.Laws.{room_as}
use Rattle.explain.proofs.Explaining.{line-next, room-line}
use Rattle.explain.proofs.answered.Answered.put.Goals as goal

pub put_line-requires-clause-room : goal.put_line-requires-clause-room
put_line-requires-clause-room c =
    let self = c.args.self.now in
    room_as c.loop-i.page (sym (line-next self.sheet.now self.answers.now _ self.each c.loop-i.i c.at.ensures))
    (room-line self.sheet.now self.answers.now _ self.each c.loop-i.i c.loop-i-test.true c.loop-i.invariant c.requires)
