-- Sheets and listings of the papers, byte for byte, through the model's run; the records stand in the crate records,
-- single lines in lines, the parts of a listing in listing, ending and unopened. Cited by the promises of `run_sheet`
-- and `sample`. Assumes nothing.
use Rattle.std.specs.Prelude.{Bool, true, false, cond, ◌&&◌, ◌||◌, List, [], ◌∷◌, ◌++◌, ◌≡◌, ℕ, ◌+◌, ◌-◌, ◌*◌, ◌/◌, ◌≤◌, eqb, leb, length, get_or, drop, Result, Ok, Err}
use Rattle.refusal.specs.declared.Refusal.{Refusal}
use Rattle.refusal.specs.declared.Refusal.TheVariants.{Sheet, Room}
use Rattle.refusal.specs.Refusal.{returned}
use Rattle.model.specs.Members.{none}
use Rattle.model.specs.State.{entries, outline, Opening, opened}
use Rattle.model.specs.Records.{opening_of, Record, bare, of, of_both, of_value}
use Rattle.model.specs.Runs.{steps_of, answers, sets_behind}
use Rattle.model.specs.Claim.{after, receipts}
use Rattle.text.specs.Text.{Text, over, Delivered}
use Rattle.records.specs.Bytes.{record_at, records, sheet_bytes, whole_records, is_sheet}
use Rattle.lines.specs.Lines.{word, answer_line}
use Rattle.listing.specs.Listing.{answer_lines}
use Rattle.ending.specs.Ending.{ending}
use Rattle.unopened.specs.Unopened.{unopened}
use Rattle.running.specs.Sample.{sample_sheet, slice}

-- The listing

-- The listing of the opening o and the records rs: the answers and the sets behind them, then the state, then the
-- receipts given.
unfoldable pub listing_of : Opening → List Record → Text
unfolding answer_line answer_lines ending
listing_of o rs = answer_line 1 0 0 none
    ++ (answer_lines 2 rs (answers entries (opened o) (steps_of rs)) (sets_behind entries (opened o) (steps_of rs))
    ++ ending (outline (after entries o (steps_of rs))) (receipts entries o (steps_of rs)))

-- The empty sheet of document 02, Paper 9: no byte.
abbrev pub is_empty : Text → Bool
is_empty s = eqb (length s) 0

-- The listing of a sheet that has one. "The empty sheet now gives a listing of one line, `unopened`."
unfoldable pub listing : Text → Text
unfolding records listing_of
listing s = cond (is_empty s) unopened (listing_of (opening_of (record_at s)) (records (length s / 8 - 1) (drop 8 s)))

-- The call, with the sheet s and a slice whose bytes are `out`

-- A sheet that has a listing: the empty one, and those that document 01's refusal 2 lets through, so that "All other
-- wrong lengths are still 2." The other calls over a sheet ask `is_sheet` alone.
abbrev pub has_listing : Text → Bool
has_listing s = is_empty s || is_sheet s

-- "... one number, the listing's length, or 2 or 3 if refused"; "for a sheet 2, then 3."
unfoldable pub outcome_of : Text → Text → Result ℕ Refusal
unfolding listing
outcome_of s out =
    cond (has_listing s) (cond (leb (length (listing s)) (length out)) (Ok (length (listing s))) (Err Room)) (Err Sheet)

-- As C has it.
abbrev pub result_of : Text → Text → ℕ
result_of s out = returned (outcome_of s out)

-- What the slice holds then: "Refusals 2 and 3 leave the listing slice untouched; bytes past the end of a listing ...
-- keep their values."
unfoldable pub left : Text → Text → Text
unfolding listing over
left s out = cond (has_listing s && leb (length (listing s)) (length out)) (over out 0 (listing s)) out

-- Trials

-- The sample's listing as document 02 has it: boards `late` (Paper 1), the receipt `41@1` (Paper 4), board 1 behind it
-- (Paper 6).
abbrev pub sample_listing : Text
sample_listing =
    word "1 0 0\n2 1 0\n3 2 0 1\n4 3 0\nregistry 2 1 1 12 waiting\ncontrol 1 1 1 1 idle\nboard 1 1 1 1 1 1 1 late\nboard 2 1 1 1 1 1 0 late\n"
    ++ word "board 3 1 1 1 1 1 0 late\nboard 4 1 1 1 1 1 0 late\nboard 5 1 1 1 1 1 0 late\nboard 6 1 1 1 1 1 0 late\nboard 7 1 1 1 1 1 0 late\n"
    ++ word "board 8 1 1 1 1 1 0 late\nreceipts 1 41@1\n"

unfoldable pub SampleHolds : Type 0
SampleHolds = (is_sheet sample_sheet ≡ true) × (listing sample_sheet ≡ sample_listing) × (length sample_listing ≡ 289)

-- Document 02, Paper 6: a receipt, set normal and installing, each with more members behind it than a majority needs.
-- Board 1 has counted board 6 too, which is a member in the registry but not in board 1's view, and so is not in the
-- set; board 5 is heard below the leader, board 3 above it and, for installing, ranked above board 2. One of each of
-- the three is refused, with no field.
unfoldable pub sets_sheet : Text
unfolding sheet_bytes
sets_sheet = sheet_bytes
    (of 0 1 ∷ of 3 2 ∷ of 3 3 ∷ of 3 4 ∷ of 3 5 ∷ of 3 6 ∷ of 6 1 ∷ of 6 2 ∷ of 6 3 ∷ of 6 4 ∷ of 6 6
    ∷ of_value 1 1 41 ∷ of 8 2 ∷ of 8 3 ∷ of 8 4 ∷ of 8 6 ∷ of_both 9 1 2 ∷ of_both 9 1 3 ∷ of_both 9 1 4 ∷ of_both 9 1 6
    ∷ of 4 6 ∷ of 6 1 ∷ of 3 6 ∷ of 2 1 ∷ of 2 1
    ∷ bare 10 ∷ of 6 1 ∷ bare 11 ∷ bare 13 ∷ of_value 1 1 42 ∷ of 8 3
    ∷ of 12 2 ∷ of 12 3 ∷ of 12 4 ∷ of 12 5 ∷ of 12 6 ∷ bare 13
    ∷ bare 5 ∷ of 6 2 ∷ of 6 3 ∷ of 6 4 ∷ of 6 5 ∷ of 6 6 ∷ bare 10
    ∷ of 14 2 ∷ of 14 3 ∷ of 14 4 ∷ of 14 5 ∷ of 14 6 ∷ of 15 5 ∷ of 15 2 ∷ [])

abbrev pub sets_listing : Text
sets_listing =
    word "1 0 0\n2 3 0\n3 3 0\n4 3 0\n5 3 0\n6 3 0\n7 6 0\n8 6 0\n9 6 0\n10 6 0\n11 6 0\n12 1 0\n13 8 0\n14 8 0\n"
    ++ word "15 8 0\n16 8 0\n17 9 0\n18 9 0\n19 9 0\n20 9 0\n21 4 0\n22 6 0\n23 3 0\n24 2 0 1234\n25 2 12\n26 10 0\n27 6 0\n"
    ++ word "28 11 0\n29 13 14\n30 1 0\n31 8 0\n32 12 0\n33 12 0\n34 12 0\n35 12 0\n36 12 0\n37 13 0 12346\n38 5 0\n"
    ++ word "39 6 0\n40 6 0\n41 6 0\n42 6 0\n43 6 0\n44 10 0\n45 14 0\n46 14 0\n47 14 0\n48 14 0\n49 14 0\n50 15 14\n"
    ++ word "51 15 0 2456\nregistry 11 11 2 23456 waiting\ncontrol 11 11 2 23456 leader\n"
    ++ word "board 1 8 1 1 123456 1 2 late\nboard 2 10 1 0 23456 1 1 late\nboard 3 10 1 0 23456 1 2 late\n"
    ++ word "board 4 10 1 0 23456 1 1 late\nboard 5 10 1 0 23456 1 0 late\nboard 6 10 1 0 23456 1 1 late\n"
    ++ word "board 7 1 1 1 1 1 0 late\nboard 8 1 1 1 1 1 0 late\nreceipts 1 41@1\n"

unfoldable pub SetsHold : Type 0
SetsHold = (is_sheet sets_sheet ≡ true) × (listing sets_sheet ≡ sets_listing)

-- A slice one byte short is refused and keeps its bytes; one of the listing's length is enough; a longer one keeps
-- those past the listing.
unfoldable pub RoomHolds : Type 0
RoomHolds =
    (result_of sample_sheet (slice 288) ≡ 3) × (left sample_sheet (slice 288) ≡ slice 288)
    × (result_of sample_sheet (slice 289) ≡ 289) × (left sample_sheet (slice 289) ≡ sample_listing)
    × (result_of sample_sheet (slice 291) ≡ 289) × (left sample_sheet (slice 291) ≡ sample_listing ++ slice 2)

-- The record of an opening.
abbrev pub opening_bytes : ℕ → Text
opening_bytes b = 0 ∷ b ∷ 0 ∷ 0 ∷ 0 ∷ 0 ∷ 0 ∷ 0 ∷ []

-- A sheet that is refused 2, and its slice left as it was.
abbrev pub Refused : Text → Text → Type 0
Refused s out = (result_of s out ≡ 2) × (left s out ≡ out)

-- P2: the opening with board 0 or 9, "a sheet that begins so: 2", whatever follows and whatever the slice holds.
unfoldable pub RefusedHolds : Type 0
RefusedHolds = (rest out : Text) → Refused (opening_bytes 0 ++ rest) out × Refused (opening_bytes 9 ++ rest) out

-- Document 02, Paper 9: the empty sheet's listing, byte for byte, and what is delivered of it in every slice; and "All
-- other wrong lengths are still 2", whatever the bytes are and whatever the slice holds.
unfoldable pub UnopenedHolds : Type 0
unfolding listing
UnopenedHolds =
    (listing [] ≡ 117 ∷ 110 ∷ 111 ∷ 112 ∷ 101 ∷ 110 ∷ 101 ∷ 100 ∷ 10 ∷ [])
    × ((out : Text) → Delivered (listing []) out (left [] out) (result_of [] out))
    × ((s out : Text) → is_empty s ≡ false → whole_records (length s) ≡ false → Refused s out)

-- No listing is so short that its length could be taken for a refusal: the empty sheet's has 9 bytes, every other one
-- more. That of n records, none included, of a sheet of bytes that has a listing, has at most 19 n + 8,650 bytes.
unfoldable pub LengthsTell : Type 0
unfolding listing
LengthsTell = (s : Text) → (9 ≤ length (listing s)) × (is_empty s ≡ false → 10 ≤ length (listing s))
    × (((i : ℕ) → get_or s i 0 ≤ 255) → has_listing s ≡ true → length (listing s) ≤ 19 * (length s / 8) + 8650)
