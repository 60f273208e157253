-- The sample, how long an image and its lines are, and what a caller reads back of them. Assumes nothing.
use mathlib.Core.Bool.{Bool, true, false, cond, ◌&&◌}
use mathlib.Core.List.{List, [], ◌∷◌}
use mathlib.Core.Path.{◌≡◌, refl, sym, ap, ◌∙◌}
use Prim.Native.Nat.{ℕ, zero, suc, ◌+◌, ◌-◌, ◌*◌, ◌/◌, ◌^◌, ◌<◌, ◌≤◌}
use native.Mathlib.Omega.{arith}
use lib.Dec.{T, leb, eqb}
use lib.ListN.{length, get_or, drop, replicate, length-map}
use Rattle.model.specs.State.{entries, outline, Opening, can_open}
use Rattle.model.specs.Steps.{Step}
use Rattle.model.specs.Claim.{after}
use Rattle.model.specs.Records.{opening_of}
use Rattle.model.specs.Runs.{steps_of, run}
use Rattle.model.specs.Ranges.{every, eight, in_range, terms_in_range, kept_in_range}
use Rattle.model.proofs.Tests.{of-true, is_true, split-and}
use Rattle.model.proofs.Made.{All, Word}
use Rattle.model.proofs.Range.{InRange, to-ranges}
use Rattle.model.proofs.Entries.{same-entry}
use Rattle.model.proofs.Bounds.{in-range}
use Rattle.text.specs.Text.{Text, over, digits, digits_within}
use Rattle.text.proofs.Laws.{ok-within}
use Rattle.std.specs.Prelude.{Ok, Err}
use Rattle.refusal.specs.declared.Refusal.TheVariants.{Sheet, Room, ImageLength, ImageNumber, ImageLinks}
use Rattle.members.specs.Mask.{bits}
use Rattle.cluster.specs.Layout.{outline_of}
use Rattle.records.specs.Bytes.{record_at, records, is_sheet}
use Rattle.lines.specs.Lines.{registry_line, control_line, board_text, receipt_text, view_text, members_text}
use Rattle.ending.specs.Ending.{ending, board_lines, board_line, receipts_line, receipts_text}
use Rattle.ending.proofs.Endings.{ending-least, ending-most}
use Rattle.logstore.specs.Log.{pairs}
use Rattle.logstore.proofs.Laws.{pairs-length}
use Rattle.refinement.specs.Refinement.{Places, lent, abs}
use Rattle.shown.specs.Shown.{lengths_fit}
use Rattle.head.specs.Head.{head_bytes, row_at}
use Rattle.saving.specs.Saved.{firsts_for, records_for, records_all, bytes_of}
use Rattle.running.proofs.Playing.{sheet-real}
use Rattle.running.proofs.Results.{kept-length}
use Rattle.marks.specs.Marks.{room}
use borrow.Author.Tests.{leb-true}
use Rattle.chains.specs.Chain.{chain, chains_of, well_linked, joined, has, distinct, up_to}
use Rattle.chains.specs.Image.{value_of, epoch_of, firsts_from, values_of, epochs_of}
use Rattle.loading.specs.Read.{receipts_of}
use Rattle.image.specs.Image.{image_of, length_fits, numbers_fit, links_fit, verdict, row_in, places_in}
use Rattle.image.specs.Keeping.{TakenFits}
use Rattle.image.proofs.Writing.{image-least, image-most}
use Rattle.image.proofs.Fitting.{range-fit, taken-fits, receipts-there}
use Rattle.archive.specs.Archive.{sheet_image, save_outcome, save_left, receipts_in, image_text, show_outcome, show_left, SampleHolds, LengthsTell}

pub sample-holds : SampleHolds
unfolding SampleHolds sheet_image image_text image_of head_bytes firsts_for records_for records_all bytes_of row_in row_at
    numbers_fit links_fit over chain chains_of firsts_from well_linked joined has distinct up_to
    ending registry_line control_line board_lines board_line board_text receipts_line receipts_text receipt_text
    view_text members_text digits digits_within records run bits
sample-holds = (refl, refl, refl, refl, refl, refl, refl, refl, refl, refl, refl, refl, refl, refl)

module _ (o : Opening) (real : T (can_open o)) (sts : List Step) where
  ranged : InRange (outline (after entries o sts))
  ranged = to-ranges (outline (after entries o sts)) (in-range entries same-entry o real sts)

  run-most : length (image_of (after entries o sts)) ≤ 37122
  run-most = image-most (after entries o sts) ranged.logs ranged.committed

text-least : (image : Text) → 20 ≤ length (image_text image)
unfolding image_text
text-least image = ending-least (outline_of (row_in image)) (receipts_in image)

-- A value of four bytes has 32 bits.
word_at : (image : Text) → ((i : ℕ) → get_or image i 0 ≤ 255) → (ks : List ℕ) (i : ℕ)
    → get_or (values_of image ks) i 0 < 2 ^ 32
word_at image h [] i = omega arith
word_at image h (k ∷ ks) zero =
    let n = 8 * k + 250 in omega (arith, h n, h (n + 1), h (n + 2), h (n + 3))
word_at image h (k ∷ ks) (suc i) = word_at image h ks i

words-all : (vs ts : List ℕ) → ((i : ℕ) → get_or vs i 0 < 2 ^ 32) → All Word (pairs vs ts)
words-all [] ts h = tt
words-all (v ∷ vs) [] h = tt
words-all (v ∷ vs) (t ∷ ts) h = (h 0, words-all vs ts (λ i. h (suc i)))

module _ (image : Text) (h : (i : ℕ) → get_or image i 0 ≤ 255) (v : verdict image ≡ 0) where
  -- Some places to read the image into.
  abbrev places : Places
  places = lent (replicate 4096 0) (replicate 4096 0) (replicate 512 0) (replicate 512 0)

  few : length (receipts_in image) ≤ 512
  unfolding row_in row_at
  few =
      let vs = values_of image (receipts_of image) in
      let ts = epochs_of image (receipts_of image) in
      let n = length-map (receipts_of image) (value_of image) in
      omega (
        arith,
        pairs-length vs ts (n ∙ sym (length-map (receipts_of image) (epoch_of image))),
        n,
        (to-ranges (outline_of (row_in image)) (of-true (range-fit image v))).committed,
      )

  kept : terms_in_range (receipts_in image) ≡ true
  unfolding TakenFits
  kept =
      let row = row_in image in
      let p = places_in image places in
      let s = abs row p in
      let all = (split-and (lengths_fit p && in_range (outline_of row)) (kept_in_range s)
      (of-true (taken-fits image places v refl))).1 in
      ap terms_in_range (sym (receipts-there image v places (record {
        store = refl;
        store2 = refl;
        list = refl;
        list2 = refl;
      })))
      ∙ is_true (terms_in_range s.committed)
      (split-and (terms_in_range s.committed) (every (eight (λ b. terms_in_range (s.log b)))) all).0

  text-most : length (image_text image) ≤ 8650
  unfolding image_text
  text-most =
      ending-most (outline_of (row_in image)) (receipts_in image) (range-fit image v) few
      (words-all (values_of image (receipts_of image)) (epochs_of image (receipts_of image))
      (word_at image h (receipts_of image))) kept

pub lengths-tell : LengthsTell
unfolding LengthsTell sheet_image
lengths-tell = (
  λ s e. (
    image-least _,
    run-most (opening_of (record_at s)) (sheet-real s e) (steps_of (records (length s / 8 - 1) (drop 8 s))),
  ),
  λ image. (text-least image, text-most image),
)

-- A caller can read back what is no refusal.
pub saved-readable : (s out : Text) {n : ℕ} {out' : Text} → Ok n ≡ save_outcome s out → out' ≡ save_left s out
    → n ≤ length out'
unfolding save_outcome save_left
saved-readable s out {n} e l =
    let im = sheet_image s in
    let t = leb (length im) (length out) in
    omega (
      arith,
      ok-within (is_sheet s) t (length im) (length out) n Room Sheet refl e,
      ap length l,
      kept-length (is_sheet s && t) out im,
    )

shown-within : (a b c d t : Bool) (n m k : ℕ) → leb n m ≡ t
    → Ok k
    ≡ cond a (cond b (cond c (cond d (cond t (Ok n) (Err Room)) (Err ImageLinks)) (Err ImageNumber)) (Err ImageLength))
    (Err Room)
    → k ≤ m
shown-within true true true true true n m k e q = let same : k ≡ n = cc in omega (arith, leb-true n m e)
shown-within true true true true false n m k e q = absurd cc
shown-within true true true false t n m k e q = absurd cc
shown-within true true false d t n m k e q = absurd cc
shown-within true false c d t n m k e q = absurd cc
shown-within false b c d t n m k e q = absurd cc

pub shown-readable : (image out s : Text) {n : ℕ} {out' : Text} → Ok n ≡ show_outcome image out s
    → out' ≡ show_left image out s → n ≤ length out'
unfolding show_outcome show_left
shown-readable image out s {n} e l =
    let text = image_text image in
    let a = leb room (length s) in
    let t = leb (length text) (length out) in
    omega (
      arith,
      shown-within a (length_fits image) (numbers_fit image) (links_fit image) t (length text) (length out) n refl e,
      ap length l,
      kept-length (a && (eqb (verdict image) 0 && t)) out text,
    )
