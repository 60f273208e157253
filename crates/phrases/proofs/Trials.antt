-- The lines, and the slices, that the definitions are tried on. Assumes nothing.
use mathlib.Core.Path.{refl}
use Rattle.text.specs.Text.{over, digits, digits_within}
use Rattle.records.specs.Bytes.{record_bytes}
use Rattle.hexes.specs.Hex.{hexes}
use Rattle.phrases.specs.Phrases.{phrase_in, is_listed_in}
use Rattle.phrases.specs.Line.{step_text, raw_text, head_text, verdict_text, line}
use Rattle.phrases.specs.Describe.{outcome_of, left, LinesHold, RoomHolds}

pub lines-hold : LinesHold
unfolding LinesHold line head_text step_text raw_text hexes record_bytes verdict_text phrase_in digits digits_within
lines-hold = (refl, refl, refl)

pub room-holds : RoomHolds
unfolding RoomHolds outcome_of left over is_listed_in line head_text step_text raw_text hexes record_bytes verdict_text phrase_in
    digits digits_within
room-holds = (refl, refl, refl, refl, refl, refl)
