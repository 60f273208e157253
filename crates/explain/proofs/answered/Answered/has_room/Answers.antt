-- The lines are few enough. Assumes nothing.
use Rattle.std.proofs.Common.{sym, ◌∙◌, le-leb}
use Rattle.explain.proofs.Explaining.{room-enough}
use Rattle.explain.proofs.answered.Answered.has_room.Goals as goal

pub returns-then-self-room : goal.returns-then-self-room
returns-then-self-room c =
    let self = c.args.self.now in
    le-leb _ _ c.if-self-room.true
    ∙ sym (room-enough self.sheet.now self.answers.now _ self.each c.args.room self.bytes self.listed c.if-self-room.true)
