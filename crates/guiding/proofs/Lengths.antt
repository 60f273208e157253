-- A result that is a multiple of 8 is the length of a list that the slice holds. Assumes nothing.
use mathlib.Core.Bool.{Bool, true, false, cond, ◌&&◌}
use mathlib.Core.Path.{◌≡◌, refl, ap}
use Prim.Native.Nat.{ℕ, ◌*◌, ◌%◌, ◌≤◌}
use native.Mathlib.Omega.{arith}
use lib.Dec.{T, leb, eqb}
use lib.ListN.{length}
use borrow.Author.Tests.{leb-true}
use Rattle.std.specs.Prelude.{Ok, Err}
use Rattle.refusal.specs.declared.Refusal.TheVariants.{Sheet, Room, ImageLength, ImageNumber, ImageLinks}
use Rattle.refusal.specs.Refusal.{returned}
use Rattle.model.specs.State.{entries}
use Rattle.text.specs.Text.{Text}
use Rattle.text.proofs.Laws.{over-length}
use Rattle.records.specs.Bytes.{is_sheet, sheet_bytes}
use Rattle.marks.specs.Marks.{room}
use Rattle.image.specs.Image.{length_fits, numbers_fit, links_fit, verdict}
use Rattle.recovery.specs.Plan.{Plan, found, error, plan}
use Rattle.delivery.specs.Delivery.{enough, plan_answer, plan_count, plan_left}
use Rattle.guiding.specs.Guiding.{plan_outcome, sheet_state, sheet_plan, sheet_outcome, sheet_result, sheet_left, image_state, image_plan, lent_room, image_outcome, image_result, image_left, LengthsTell}
use Rattle.guiding.proofs.Guides.{plan-few}

left-length : (t : Bool) (q : Plan) (out : Text) → length (cond t (plan_left q out) out) ≡ length out
left-length true (found list) out = over-length out 0 (sheet_bytes list)
left-length true error out = refl
left-length false q out = refl

-- What is handed back as a length is in the slice: a list has at most 16,512 bytes.
within : (q : Plan) (n m : ℕ) → plan_count q ≤ 2064 → leb 16512 m ≡ true → Ok n ≡ plan_outcome q → n ≤ m
within (found list) n m few e h = let same : n ≡ 8 * length list = cc in omega (arith, leb-true 16512 m e, few, same)
within error n m few e h = absurd cc

sheet-within : (a b : Bool) (q : Plan) (n m : ℕ) → leb 16512 m ≡ b → plan_count q ≤ 2064
    → Ok n ≡ cond a (cond b (plan_outcome q) (Err Room)) (Err Sheet) → n ≤ m
sheet-within true true q n m e few h = within q n m few e h
sheet-within true false q n m e few h = absurd cc
sheet-within false b q n m e few h = absurd cc

pub sheet-readable : (s out : Text) {n : ℕ} {out' : Text} → Ok n ≡ sheet_outcome s out → out' ≡ sheet_left s out
    → n ≤ length out'
unfolding sheet_outcome sheet_left sheet_plan
sheet-readable s out {n} e f =
    let q = plan entries (sheet_state s) in
    omega (
      arith,
      sheet-within (is_sheet s) (enough out) q n (length out) refl (plan-few (sheet_state s)) e,
      ap length f,
      left-length (is_sheet s && enough out) q out,
    )

image-within : (a l b c d : Bool) (q : Plan) (n m : ℕ) → leb 16512 m ≡ a → plan_count q ≤ 2064
    → Ok n
    ≡ cond (a && l)
    (cond b (cond c (cond d (plan_outcome q) (Err ImageLinks)) (Err ImageNumber)) (Err ImageLength)) (Err Room)
    → n ≤ m
image-within true true true true true q n m e few h = within q n m few e h
image-within true true true true false q n m e few h = absurd cc
image-within true true true false d q n m e few h = absurd cc
image-within true true false c d q n m e few h = absurd cc
image-within true false b c d q n m e few h = absurd cc
image-within false l b c d q n m e few h = absurd cc

pub image-readable : (image out s : Text) {n : ℕ} {out' : Text} → Ok n ≡ image_outcome image out s
    → out' ≡ image_left image out s → n ≤ length out'
unfolding image_outcome image_left image_plan
image-readable image out s {n} e f =
    let q = plan entries (image_state image) in
    omega (
      arith,
      image-within (enough out) (leb room (length s)) (length_fits image) (numbers_fit image) (links_fit image) q n
          (length out) refl (plan-few (image_state image)) e,
      ap length f,
      left-length (lent_room out s && eqb (verdict image) 0) q out,
    )

-- What a multiple of 8 tells.
sheet-told : (a b : Bool) (q : Plan) → returned (cond a (cond b (plan_outcome q) (Err Room)) (Err Sheet)) % 8 ≡ 0
    → T (a && b) × (plan_answer q ≡ 0)
sheet-told true true (found list) r = (tt, refl)
sheet-told true true error r = absurd (omega (arith, r))
sheet-told true false q r = absurd (omega (arith, r))
sheet-told false b q r = absurd (omega (arith, r))

-- The verdict by its three tests.
abbrev told : Bool → Bool → Bool → ℕ
told b c d = cond b (cond c (cond d 0 19) 18) 17

image-told : (l b c d : Bool) (q : Plan)
    → returned
    (cond l (cond b (cond c (cond d (plan_outcome q) (Err ImageLinks)) (Err ImageNumber)) (Err ImageLength)) (Err Room)) % 8 ≡ 0
    → T (l && eqb (told b c d) 0) × (plan_answer q ≡ 0)
image-told true true true true (found list) r = (tt, refl)
image-told true true true true error r = absurd (omega (arith, r))
image-told true true true false q r = absurd (omega (arith, r))
image-told true true false d q r = absurd (omega (arith, r))
image-told true false c d q r = absurd (omega (arith, r))
image-told false b c d q r = absurd (omega (arith, r))

pub lengths-tell : LengthsTell
unfolding LengthsTell sheet_outcome sheet_result image_outcome image_result
lengths-tell = (
  λ t list e. omega (arith, ap plan_count e, plan-few t),
  λ s out r. sheet-told (is_sheet s) (enough out) (sheet_plan s) r,
  λ image out s r.
      image-told (lent_room out s) (length_fits image) (numbers_fit image) (links_fit image) (image_plan image) r,
)
