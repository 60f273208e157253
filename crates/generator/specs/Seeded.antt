-- Sheets from a seed: their bytes, the call `seed_sheet`, and what is claimed of every such sheet. Cited by Trials and
-- the promises of generator, row and seedline. Assumes nothing.
use Rattle.std.specs.Prelude.{Bool, Result, Ok, Err, true, cond, not, ◌&&◌, map, ◌≡◌, ℕ, ◌*◌, ◌≤◌, eqb, leb, length, take, drop}
use Rattle.model.specs.State.{entries, RowState}
use Rattle.model.specs.Records.{Record, well_formed}
use Rattle.model.specs.Runs.{steps_of, answers}
use Rattle.model.specs.Ranges.{every}
use Rattle.refusal.specs.declared.Refusal.{Refusal}
use Rattle.refusal.specs.declared.Refusal.TheVariants.{Sheet, Room}
use Rattle.refusal.specs.Refusal.{returned}
use Rattle.text.specs.Text.{Text, over}
use Rattle.records.specs.Bytes.{records, sheet_bytes, is_sheet}
use Rattle.draws.specs.Draws.{seed_records}

-- The sheet of the seed s and n records.
unfoldable pub seed_sheet : ℕ → ℕ → Text
unfolding sheet_bytes seed_records
seed_sheet s n = sheet_bytes (seed_records s n)

-- The call, with the seed s, the count n and a slice whose bytes are `out`. The paper asks for a program alone; this
-- call behind it, also for C, is ours, with document 01's refusals and their order: "for a sheet 2, then 3".

-- "a record count of 1 to 4,095, the opening included"
abbrev pub is_count : ℕ → Bool
is_count n = leb 1 n && leb n 4095

-- The sheet's length; refusal 2 for another count, then 3 for a slice that is shorter than the sheet.
unfoldable pub outcome_of : ℕ → ℕ → Text → Result ℕ Refusal
unfolding seed_sheet
outcome_of s n out =
    let len = length (seed_sheet s n) in
    cond (is_count n) (cond (leb len (length out)) (Ok len) (Err Room)) (Err Sheet)

-- As C has it.
abbrev pub result_of : ℕ → ℕ → Text → ℕ
result_of s n out = returned (outcome_of s n out)

-- What the slice holds then: both refusals leave it untouched, and bytes past the end of a sheet keep their values.
unfoldable pub left : ℕ → ℕ → Text → Text
unfolding seed_sheet over
left s n out = cond (is_count n && leb (length (seed_sheet s n)) (length out)) (over out 0 (seed_sheet s n)) out

-- What is claimed of every sheet

abbrev pub not_opening : Record → Bool
not_opening r = not (eqb r.step 0)

-- An answer other than "a field outside its values".
abbrev pub not_one : ℕ → Bool
not_one a = not (eqb a 1)

-- "Every sheet so made has only well-formed records."
pub record WellMade (s n : ℕ) : Type 0 where
  -- The sheet has n records, and refusal 2 lets it through.
  pub bytes : length (seed_sheet s n) ≡ 8 * n
  pub through : is_sheet (seed_sheet s n) ≡ true
  -- What a run reads from the bytes is what was drawn.
  pub read : records n (seed_sheet s n) ≡ seed_records s n
  -- Each record is well formed by itself, and none after the first is an opening.
  pub formed : every (map well_formed (seed_records s n)) ≡ true
  pub steps : every (map not_opening (drop 1 (seed_records s n))) ≡ true
  -- So in a run, whatever it begins with, none of these is answered 1: no line of the sheet's listing has that answer.
  pub answered : (x : RowState) → every (map not_one (answers entries x (steps_of (drop 1 (seed_records s n))))) ≡ true
  -- A smaller count gives the first records of the same sheet.
  pub fewer : (m : ℕ) → m ≤ n → take m (seed_records s n) ≡ seed_records s m

abbrev pub SheetsWellMade : Type 0
SheetsWellMade = (s n : ℕ) → is_count n ≡ true → WellMade s n
