-- `explain::sample` meets its contract. Assumes nothing.
use mathlib.Core.Path.{refl}
use Rattle.model.specs.Runs.{run, answers}
use Rattle.text.specs.Text.{digits, digits_within, over, each_of}
use Rattle.records.specs.Bytes.{records, record_bytes, sheet_bytes}
use Rattle.hexes.specs.Hex.{hexes}
use Rattle.phrases.specs.Phrases.{phrase_in}
use Rattle.phrases.specs.Line.{step_text, raw_text, head_text, verdict_text, line}
use Rattle.running.specs.Running.{answers_of}
use Rattle.explain.specs.Explain.{trial_sheet, SampleHolds, RoomHolds, EmptyRefused, explained, outcome_of, left}
use Rattle.explain.proofs.Explaining.{lengths-tell}
use Rattle.explain.proofs.sample.Goals as goal

pub returns : goal.returns
unfolding SampleHolds RoomHolds EmptyRefused outcome_of left over explained trial_sheet sheet_bytes answers_of each_of line
    head_text step_text raw_text hexes verdict_text phrase_in records record_bytes digits digits_within run answers
returns c = ((refl, refl), (refl, refl, refl, refl, refl, refl, refl), λ out. (refl, refl), lengths-tell)
