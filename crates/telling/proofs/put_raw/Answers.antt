-- `telling::put_raw` meets its contract. Assumes nothing.
use Rattle.std.proofs.Common.{◌++◌, ap}
use Rattle.text.proofs.Laws.{puts-then, puts_as}
use Rattle.hexes.specs.Hex.{hexes}
use Rattle.phrases.specs.Phrases.{no_step}
use Rattle.phrases.specs.Line.{lead_text, raw_text}
use Rattle.telling.proofs.put_raw.Goals as goal

pub returns : goal.returns
unfolding raw_text
returns c =
    puts_as (ap (λ b. lead_text no_step ++ hexes b) c.into-bytes.ensures)
    (puts-then c.put_lead.ensures c.put_hexes.ensures)
