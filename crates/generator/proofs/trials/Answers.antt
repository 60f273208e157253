-- `generator::trials` meets its contract: each trial is computed, but those for every slice. Assumes nothing.
use mathlib.Core.Path.{◌≡◌, refl, sym, ap}
use native.Mathlib.Omega.{arith}
use lib.ListN.{length}
use Rattle.refusal.specs.Refusal.{returned}
use Rattle.text.specs.Text.{over}
use Rattle.records.specs.Bytes.{record_bytes, sheet_bytes}
use Rattle.draws.specs.Draws.{advance, draw, draw_record, later, seed_records}
use Rattle.generator.specs.Seeded.{seed_sheet, outcome_of, result_of, left}
use Rattle.generator.specs.Trials.{DrawsHold, StatesHold, BoardsHold, RecordsHold, CountsHold, LongestHolds, SlicesHold}
use Rattle.generator.proofs.Sheets.{other_count, short, passed}
use Rattle.generator.proofs.trials.Goals as goal

draws : DrawsHold
unfolding draw
draws = (refl, refl, refl, refl)

states : StatesHold
unfolding draw advance
states = (refl, refl, refl, refl, refl)

boards : BoardsHold
boards = (refl, refl, refl, refl)

records : RecordsHold
unfolding draw advance draw_record later seed_records
records = (refl, refl, refl, refl, refl, refl)

counts : CountsHold
counts s out =
    let few = other_count s 0 out refl in
    let many = other_count s 4096 out refl in
    (ap returned (sym few.0), sym few.1, ap returned (sym many.0), sym many.1)

longest : LongestHolds
longest s out = (whole, one-short)
  where
    whole : length out ≡ 32760 → result_of s 4095 out ≡ 32760
    whole e = ap returned (passed s 4095 out refl (omega (arith, e))).0

    one-short : length out ≡ 32759 → (result_of s 4095 out ≡ 3) × (left s 4095 out ≡ out)
    one-short e = let r = short s 4095 out refl (omega (arith, e)) in (ap returned (sym r.0), sym r.1)

slices : SlicesHold
unfolding draw advance seed_records record_bytes sheet_bytes seed_sheet outcome_of left over later
slices = (refl, refl, refl, refl, refl, refl)

pub returns : goal.returns
returns c = (draws, states, boards, records, counts, longest, slices)
