-- The bytes before b are written.
use Rattle.std.specs.Prelude.{take}
use Rattle.text.specs.Text.{Puts}
use Rattle.hexes.specs.Hex.{hexes}
use Rattle.hexes.proofs.put_hexes.Given as goal

abbrev pub invariant-loop-b : goal.invariant-loop-b
invariant-loop-b l = Puts l.fn.page (hexes (take l.b-index l.s)) l.page
