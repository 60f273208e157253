-- Room for the lines is room for the next. Assumes nothing.
use native.Mathlib.Omega.{arith}
use Rattle.std.specs.Prelude.{◌/◌, length}
use Rattle.text.proofs.Laws.{room_as, room-next}
use Rattle.listing.proofs.AnswerLines.{line_at, lines-each}
use Rattle.listing.proofs.Listed.put.Goals as goal

pub put-requires : goal.put-requires
put-requires c =
    let s = c.args.self.now.sheet.now in
    let ns = c.args.self.now.answers.now in
    let ms = c.args.self.now.sets.now in
    rw (c.line.ensures.record, c.line.ensures.step, c.line.ensures.answer, c.line.ensures.set)
    (room-next (line_at s ns ms) c.loop-i.i (length s / 8) (omega arith) c.loop-i.invariant
    (room_as c.args.page.now (lines-each s ns ms (length s / 8) c.args.self.now.answered c.args.self.now.behind) c.requires))
