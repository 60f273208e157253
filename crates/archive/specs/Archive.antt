-- The image of a sheet's row, and the lines of an image's row (document 02, Paper 7, for the hub and for people). Cited
-- by the promises of `save_sheet`, `show_image` and `sample`. Assumes nothing.
use Rattle.std.specs.Prelude.{Bool, true, cond, ◌&&◌, List, [], ◌∷◌, ◌++◌, ◌≡◌, ℕ, zero, suc, ◌-◌, ◌/◌, ◌≤◌, leb, eqb, length, drop, get_or, replicate, Result, Ok, Err}
use Rattle.refusal.specs.declared.Refusal.{Refusal}
use Rattle.refusal.specs.declared.Refusal.TheVariants.{Sheet, Room, ImageLength, ImageNumber, ImageLinks}
use Rattle.refusal.specs.Refusal.{returned}
use Rattle.model.specs.State.{Entry, entries}
use Rattle.model.specs.Records.{opening_of}
use Rattle.model.specs.Runs.{steps_of}
use Rattle.model.specs.Claim.{after}
use Rattle.logstore.specs.Log.{pairs}
use Rattle.cluster.specs.Layout.{outline_of}
use Rattle.text.specs.Text.{Text, over}
use Rattle.records.specs.Bytes.{record_at, records, is_sheet}
use Rattle.lines.specs.Lines.{word}
use Rattle.ending.specs.Ending.{ending}
use Rattle.running.specs.Sample.{sample_sheet}
use Rattle.marks.specs.Marks.{room}
use Rattle.chains.specs.Image.{values_of, epochs_of}
use Rattle.loading.specs.Read.{receipts_of}
use Rattle.image.specs.Image.{image_of, length_fits, numbers_fit, links_fit, verdict, row_in}

-- A sheet's image

-- The image of the row that a sheet's run ends with.
unfoldable pub sheet_image : Text → Text
unfolding records
sheet_image s =
    image_of (after entries (opening_of (record_at s)) (steps_of (records (length s / 8 - 1) (drop 8 s))))

-- The call, with the sheet s and a slice whose bytes are `out`: document 01's refusal 2, then 3; "both change nothing".
unfoldable pub save_outcome : Text → Text → Result ℕ Refusal
save_outcome s out =
    cond (is_sheet s) (cond (leb (length (sheet_image s)) (length out)) (Ok (length (sheet_image s))) (Err Room)) (Err Sheet)

-- As C has it.
abbrev pub save_result : Text → Text → ℕ
save_result s out = returned (save_outcome s out)

unfoldable pub save_left : Text → Text → Text
save_left s out = cond (is_sheet s && leb (length (sheet_image s)) (length out)) (over out 0 (sheet_image s)) out

-- An image's lines

-- The receipts of an image, in order.
abbrev pub receipts_in : Text → List Entry
receipts_in image = pairs (values_of image (receipts_of image)) (epochs_of image (receipts_of image))

-- The lines of a listing after the answers, of the row that an image says.
unfoldable pub image_text : Text → Text
image_text image = ending (outline_of (row_in image)) (receipts_in image)

-- The image is taken, and the slice has room for its lines.
abbrev pub fits_text : Text → Text → Bool
fits_text image out = eqb (verdict image) 0 && leb (length (image_text image)) (length out)

-- The errors of an image, 17, 18 and 19; x of one that has none.
abbrev pub judged : Text → Result ℕ Refusal → Result ℕ Refusal
judged image x =
    cond (length_fits image) (cond (numbers_fit image) (cond (links_fit image) x (Err ImageLinks)) (Err ImageNumber))
    (Err ImageLength)

-- The call, with an image, a slice whose bytes are `out`, and a scratch s: 3 for a scratch that is too short; then 17,
-- 18 and 19; then 3 for a slice that is shorter than the lines.
unfoldable pub show_outcome : Text → Text → Text → Result ℕ Refusal
show_outcome image out s = cond (leb room (length s))
    (judged image (cond (leb (length (image_text image)) (length out)) (Ok (length (image_text image))) (Err Room)))
    (Err Room)

-- As C has it.
abbrev pub show_result : Text → Text → Text → ℕ
show_result image out s = returned (show_outcome image out s)

unfoldable pub show_left : Text → Text → Text → Text
show_left image out s = cond (leb room (length s) && fits_text image out) (over out 0 (image_text image)) out

-- "Past refusal 3" of the scratch "the whole scratch ends as zeros", also where 3 is answered for the lines' slice.
abbrev pub scratch_left : Text → Text
scratch_left s = cond (leb room (length s)) (replicate (length s) 0) s

-- Trials

-- No length of an image or of its lines could be taken for a refusal; and how long they can be, of sheets and images of
-- bytes that are let through.
unfoldable pub LengthsTell : Type 0
LengthsTell =
    ((s : Text) → is_sheet s ≡ true → (258 ≤ length (sheet_image s)) × (length (sheet_image s) ≤ 37122))
    × ((image : Text) → (20 ≤ length (image_text image))
    × (((i : ℕ) → get_or image i 0 ≤ 255) → verdict image ≡ 0 → length (image_text image) ≤ 8650))

-- The empty sheet, which has a listing (document 02, Paper 9), has no row: 2, whatever the slice holds.
unfoldable pub EmptyRefused : Type 0
EmptyRefused = (out : Text) → (save_result [] out ≡ 2) × (save_left [] out ≡ out)

-- The lines of document 01's sample after the answers.
abbrev pub sample_ending : Text
sample_ending =
    word "registry 2 1 1 12 waiting\ncontrol 1 1 1 1 idle\nboard 1 1 1 1 1 1 1 late\nboard 2 1 1 1 1 1 0 late\n"
    ++ word "board 3 1 1 1 1 1 0 late\nboard 4 1 1 1 1 1 0 late\nboard 5 1 1 1 1 1 0 late\nboard 6 1 1 1 1 1 0 late\n"
    ++ word "board 7 1 1 1 1 1 0 late\nboard 8 1 1 1 1 1 0 late\nreceipts 1 41@1\n"

-- The bytes of n boards that took no news after an opening with board 1, and have no log.
abbrev pub boards_at_rest : ℕ → Text
boards_at_rest zero = []
boards_at_rest (suc n) =
    1 ∷ 0 ∷ 1 ∷ 0 ∷ 1 ∷ 0 ∷ 1 ∷ 1 ∷ (replicate 16 0 ++ (0 ∷ 0 ∷ boards_at_rest n))

-- Nothing heard of n boards.
abbrev pub nothing_heard : ℕ → Text
nothing_heard zero = []
nothing_heard (suc n) = 255 ∷ 255 ∷ 0 ∷ 0 ∷ nothing_heard n

-- The image of document 01's sample, worked out by hand: registry 2 1 1 {1, 2} waiting; controller as opened; board 1
-- with its own count 1 and its log at record 1; the receipts at record 2; 41 under leader epoch 1, twice.
abbrev pub sample_image : Text
sample_image =
    2 ∷ 0 ∷ 1 ∷ 0 ∷ 1 ∷ 3 ∷ 1 ∷ 0 ∷ 1 ∷ 0 ∷ 1 ∷ 0 ∷ 1 ∷ 1 ∷ 0 ∷ 0 ∷ (nothing_heard 8
    ++ (1 ∷ 0 ∷ 1 ∷ 0 ∷ 1 ∷ 0 ∷ 1 ∷ 1 ∷ 1 ∷ 0 ∷ (replicate 14 0 ++ (1 ∷ 0 ∷ (boards_at_rest 7
    ++ (2 ∷ 0 ∷ 41 ∷ 0 ∷ 0 ∷ 0 ∷ 1 ∷ 0 ∷ 0 ∷ 0 ∷ 41 ∷ 0 ∷ 0 ∷ 0 ∷ 1 ∷ 0 ∷ 0 ∷ 0 ∷ []))))))

-- The same row with its two records in each other's place: the board's log is at record 2, the receipts at record 1.
abbrev pub renumbered : Text
renumbered = over (over sample_image 72 (2 ∷ [])) 256 (1 ∷ [])

-- An image with the byte n at place i.
abbrev pub bent : ℕ → ℕ → Text
bent i n = over sample_image i (n ∷ [])

-- The sample's image, its lines (those of the listing after the answers), also where it is renumbered, and the errors
-- of bent ones: a byte more (17); status 3, a zero byte that is 1, an epoch of 0 in a record (18); and for 19 a first
-- record past the last, one that two chains meet, one that none meets, and one that points to itself.
unfoldable pub SampleHolds : Type 0
unfolding sheet_image image_text over
SampleHolds =
    (sheet_image sample_sheet ≡ sample_image) × (length sample_image ≡ 274)
    × (verdict sample_image ≡ 0) × (image_text sample_image ≡ sample_ending)
    × (verdict renumbered ≡ 0) × (image_text renumbered ≡ sample_ending)
    × (verdict (sample_image ++ (0 ∷ [])) ≡ 17)
    × (verdict (bent 6 3) ≡ 18) × (verdict (bent 7 1) ≡ 18) × (verdict (bent 262 0) ≡ 18)
    × (verdict (bent 72 3) ≡ 19) × (verdict (bent 256 1) ≡ 19) × (verdict (bent 256 0) ≡ 19)
    × (verdict (bent 264 1) ≡ 19)
