-- There is place for 19 bytes a line. Assumes nothing.
use mathlib.Core.Path.{sym, ◌∙◌}
use native.Mathlib.Omega.{arith}
use Rattle.std.specs.Prelude.{◌+◌, ◌/◌, length}
use borrow.Author.Tests.{le-leb}
use Rattle.listing.specs.Listing.{lines}
use Rattle.listing.proofs.AnswerLines.{lines-most}
use Rattle.listing.proofs.Listed.fits.Goals as goal

pub returns-then-self-end : goal.returns-then-self-end
returns-then-self-end c =
    let s = c.args.self.now.sheet.now in
    let ns = c.args.self.now.answers.now in
    let ms = c.args.self.now.sets.now in
    let most = lines-most s ns ms c.args.self.now.bytes (length s / 8) c.args.self.now.small c.args.self.now.few in
    le-leb _ c.args.room (omega (arith, c.if-self-end.true))
    ∙ sym (le-leb (length (lines s ns ms (length s / 8)) + c.args.end) c.args.room (omega (arith, most, c.if-self-end.true)))
