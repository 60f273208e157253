-- The list of a sheet's row and of an image's row (document 02, Paper 10, for the hub and for people). Cited by the
-- promises of `plan_sheet`, `plan_image`, `claim` and `sample`. Assumes nothing.
use Rattle.std.specs.Prelude.{Bool, true, cond, ◌&&◌, List, [], ◌∷◌, ◌≡◌, ℕ, ◌-◌, ◌*◌, ◌/◌, ◌%◌, ◌≤◌, T, leb, eqb, length, drop, replicate, Result, Ok, Err}
use Rattle.refusal.specs.declared.Refusal.{Refusal}
use Rattle.refusal.specs.declared.Refusal.TheVariants.{Sheet, Room, NoPlan}
use Rattle.refusal.specs.Refusal.{returned}
use Rattle.model.specs.State.{RowState, entries}
use Rattle.model.specs.Records.{Record, bare, of, opening_of}
use Rattle.model.specs.Runs.{steps_of}
use Rattle.model.specs.Claim.{after}
use Rattle.cluster.specs.declared.Cluster.{Cluster}
use Rattle.refinement.specs.Refinement.{Places, lent, abs}
use Rattle.refinement.specs.Rows.{Typed}
use Rattle.text.specs.Text.{Text, over}
use Rattle.records.specs.Bytes.{record_at, records, sheet_bytes, is_sheet}
use Rattle.running.specs.Sample.{sample_sheet}
use Rattle.shown.specs.Shown.{valid}
use Rattle.marks.specs.Marks.{room}
use Rattle.image.specs.Image.{image_of, verdict, row_in, places_in}
use Rattle.archive.specs.Archive.{judged, sample_image}
use Rattle.recovery.specs.Plan.{Plan, found, error, plan}
use Rattle.recovery.specs.Claim.{Leads}
use Rattle.delivery.specs.Delivery.{enough, plan_answer, plan_left}

-- What a call returns for a list: its length in bytes, or refusal 20.
abbrev pub plan_outcome : Plan → Result ℕ Refusal
plan_outcome (found list) = Ok (8 * length list)
plan_outcome error = Err NoPlan

-- The state that a sheet's run ends with, and its list.
unfoldable pub sheet_state : Text → RowState
unfolding records
sheet_state s = after entries (opening_of (record_at s)) (steps_of (records (length s / 8 - 1) (drop 8 s)))

unfoldable pub sheet_plan : Text → Plan
sheet_plan s = plan entries (sheet_state s)

-- The call, with the sheet s and a slice whose bytes are `out`: document 01's refusal 2, then 3, then 20; "a refusal
-- leaves it untouched".
unfoldable pub sheet_outcome : Text → Text → Result ℕ Refusal
sheet_outcome s out = cond (is_sheet s) (cond (enough out) (plan_outcome (sheet_plan s)) (Err Room)) (Err Sheet)

-- The number.
unfoldable pub sheet_result : Text → Text → ℕ
unfolding sheet_outcome
sheet_result s out = returned (sheet_outcome s out)

unfoldable pub sheet_left : Text → Text → Text
sheet_left s out = cond (is_sheet s && enough out) (plan_left (sheet_plan s) out) out

-- Places of their lengths, all zeros: what an image's lists are read into.
abbrev pub blank : Places
blank = lent (replicate 4096 0) (replicate 4096 0) (replicate 512 0) (replicate 512 0)

-- The state that an image says, and its list.
unfoldable pub image_state : Text → RowState
image_state image = abs (row_in image) (places_in image blank)

unfoldable pub image_plan : Text → Plan
image_plan image = plan entries (image_state image)

-- The call, with an image, a slice whose bytes are `out`, and a scratch s: 3 for a slice or a scratch that is too short;
-- then 17, 18 and 19; then 20.
abbrev pub lent_room : Text → Text → Bool
lent_room out s = enough out && leb room (length s)

unfoldable pub image_outcome : Text → Text → Text → Result ℕ Refusal
image_outcome image out s = cond (lent_room out s) (judged image (plan_outcome (image_plan image))) (Err Room)

-- The number.
unfoldable pub image_result : Text → Text → Text → ℕ
unfolding image_outcome
image_result image out s = returned (image_outcome image out s)

unfoldable pub image_left : Text → Text → Text → Text
image_left image out s = cond (lent_room out s && eqb (verdict image) 0) (plan_left (image_plan image) out) out

-- Past refusal 3 "the whole scratch ends as zeros" (document 02, Paper 7).
abbrev pub scratch_left : Text → Text → Text
scratch_left out s = cond (lent_room out s) (replicate (length s) 0) s

-- What is claimed

-- "With registry epoch at most 3,998": of every sheet that refusal 2 lets through, and every slice that is long enough,
-- the list exists and leads the row to normal.
pub record SheetRecovers (s out : Text) : Type 0 where
  pub list : List Record
  pub result : sheet_result s out ≡ 8 * length list
  pub left : sheet_left s out ≡ over out 0 (sheet_bytes list)
  pub leads : Leads entries (sheet_state s) list

unfoldable pub SheetsRecover : Type 0
SheetsRecover = (s out : Text) → is_sheet s ≡ true → T (enough out) → (sheet_state s).registry.view.epoch ≤ 3998
    → SheetRecovers s out

-- A list's length in bytes is a multiple of 8, at most 16,512, and no refusal is: where a call returns a multiple of 8,
-- it gave a list.
unfoldable pub LengthsTell : Type 0
LengthsTell =
    ((t : RowState) (list : List Record) → plan entries t ≡ found list → 8 * length list ≤ 16512)
    × ((s out : Text) → sheet_result s out % 8 ≡ 0 → T (is_sheet s && enough out) × (plan_answer (sheet_plan s) ≡ 0))
    × ((image out s : Text) → image_result image out s % 8 ≡ 0
    → T (lent_room out s && eqb (verdict image) 0) × (plan_answer (image_plan image) ≡ 0))

-- The image of a row, as the writer makes it, has the row's own list: so of a run that was kept in an image.
unfoldable pub ImagesAgree : Type 0
ImagesAgree = (row : Cluster) (p : Places) → Typed row → valid row p ≡ true
    → (verdict (image_of (abs row p)) ≡ 0) × (image_plan (image_of (abs row p)) ≡ plan entries (abs row p))

-- The list of document 01's sample, worked out by hand: the registry waits since board 2 was added; board 2 joined at
-- the opening and lacks one entry.
abbrev pub sample_list : List Record
sample_list = bare 10 ∷ of 6 1 ∷ bare 11 ∷ of 6 2 ∷ of 8 2 ∷ of 12 2 ∷ bare 13 ∷ []

-- Of the sheet and of its image; and the empty sheet, which has a listing (document 02, Paper 9), has no row: 2,
-- whatever the slice holds.
unfoldable pub SampleHolds : Type 0
SampleHolds = (sheet_plan sample_sheet ≡ found sample_list) × (image_plan sample_image ≡ found sample_list)
    × ((out : Text) → (sheet_result [] out ≡ 2) × (sheet_left [] out ≡ out))
