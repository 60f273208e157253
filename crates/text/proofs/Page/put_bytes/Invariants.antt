-- The loop's invariant: the first i bytes of the text are stored.
use Rattle.std.proofs.Common.{◌≡◌, take}
use Rattle.text.specs.Text.{over}
use Rattle.text.proofs.Page.put_bytes.Given as goal

abbrev pub invariant-loop-i : goal.invariant-loop-i
invariant-loop-i l =
    (l.self.at ≡ l.fn.self.at) × (l.self.out.ghost_name ≡ l.fn.self.out.ghost_name)
    × (l.self.out.now ≡ over l.fn.self.out.now l.fn.self.at (take l.i l.fn.text))
