-- The digits of what is left end before i, and with them stored the page's slice is what the contract says. The
-- measure is what is left.
use Rattle.std.specs.Prelude.{◌+◌, ◌≤◌, ◌≡◌, length}
use Rattle.text.specs.Text.{over, digits}
use Rattle.text.proofs.Page.put_number.Given as goal

abbrev pub invariant-loop-left : goal.invariant-loop-left
invariant-loop-left l =
    (l.i ≡ l.self.at + length (digits l.left)) × (l.end ≡ l.self.at + length (digits l.n)) × (l.self.at ≡ l.fn.self.at)
    × (length l.self.out.now ≡ length l.fn.self.out.now) × (l.end ≤ length l.self.out.now) × (l.i ≤ l.end)
    × (l.self.out.ghost_name ≡ l.fn.self.out.ghost_name)
    × (over l.self.out.now l.self.at (digits l.left) ≡ over l.fn.self.out.now l.fn.self.at (digits l.n))

abbrev pub decreases-loop-left : goal.decreases-loop-left
decreases-loop-left l = l.left
