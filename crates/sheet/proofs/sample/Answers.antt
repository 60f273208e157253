-- By computation, and by laws of every sheet. Assumes nothing.
use mathlib.Core.Path.{refl}
use Rattle.model.proofs.Table.{trials-hold}
use Rattle.model.specs.Runs.{run, answers, sets_behind, given}
use Rattle.text.specs.Text.{digits, digits_within, over}
use Rattle.text.proofs.Laws.{delivers-returned}
use Rattle.sheet.proofs.Listings.{refused-holds, still-refused, lengths-tell}
use Rattle.records.specs.Bytes.{records, sheet_bytes}
use Rattle.lines.specs.Lines.{answer_line, fourth_field, registry_line, control_line, view_text, members_text, receipt_text}
use Rattle.listing.specs.Listing.{answer_lines}
use Rattle.ending.specs.Ending.{board_line, board_lines, receipts_line, receipts_text, ending}
use Rattle.sheet.specs.Sheet.{SampleHolds, sets_sheet, SetsHold, RoomHolds, UnopenedHolds, outcome_of, left, listing, listing_of}
use Rattle.sheet.proofs.sample.Goals as goal

pub returns : goal.returns
unfolding SampleHolds SetsHold sets_sheet sheet_bytes RoomHolds UnopenedHolds outcome_of left over listing
    listing_of records answer_line answer_lines
    registry_line control_line board_line board_lines receipts_line receipts_text receipt_text ending view_text members_text
    fourth_field digits digits_within run answers sets_behind given
returns c = (
  (refl, refl, refl),
  (refl, refl),
  (refl, refl, refl, refl, refl, refl),
  refused-holds,
  (refl, λ out. delivers-returned (record { answer = refl; left = refl }), still-refused),
  lengths-tell,
  trials-hold,
)
