-- What the calls over a sheet and over an image answer and leave. Assumes nothing.
use mathlib.Core.Bool.{Bool, true, false, cond, ◌&&◌}
use mathlib.Core.List.{List}
use mathlib.Core.Path.{◌≡◌, refl, sym, ap, ap₂, ◌∙◌}
use Prim.Native.Nat.{ℕ, ◌-◌, ◌*◌, ◌/◌, ◌≤◌}
use native.Mathlib.Omega.{arith}
use lib.Dec.{leb, leb→le}
use lib.ListN.{length, replicate}
use borrow.Author.Tests.{eq-eqb, ne_eqb}
use Rattle.std.specs.Prelude.{Result, Ok, Err}
use Rattle.refusal.specs.declared.Refusal.{Refusal}
use Rattle.refusal.specs.declared.Refusal.TheVariants.{Sheet, Room, ImageLength, ImageNumber, ImageLinks}
use Rattle.refusal.specs.Refusal.{number, returned}
use Rattle.refusal.proofs.Checks.{least}
use Rattle.model.specs.State.{RowState, entries}
use Rattle.model.specs.Records.{Record, opening_of}
use Rattle.model.proofs.Entries.{same-entry}
use Rattle.model.proofs.Tests.{split-and, is_true, by_cond}
use Rattle.cluster.specs.declared.Cluster.{Cluster}
use Rattle.refinement.specs.Refinement.{Places, abs, Shape}
use Rattle.text.specs.Text.{Text}
use Rattle.records.specs.Bytes.{record_at, is_sheet}
use Rattle.shown.specs.Shown.{valid}
use Rattle.shown.proofs.Valid.{valid-full, valid-range}
use Rattle.running.specs.Running.{Ran}
use Rattle.running.proofs.Playing.{ran-fits, sheet-real}
use Rattle.marks.specs.Marks.{room}
use Rattle.image.specs.Loaded.{Loaded}
use Rattle.image.specs.Image.{image_of, length_fits, numbers_fit, links_fit, verdict, row_in, places_in}
use Rattle.image.specs.Keeping.{taken, Loads, TakenFits, ReadsBack}
use Rattle.image.proofs.Fitting.{taken-fits}
use Rattle.image.proofs.Returning.{reads-back}
use Rattle.recovery.specs.Plan.{Plan, found, error, plan, draft, start}
use Rattle.recovery.proofs.Recovering.{recovers}
use Rattle.pieces.specs.Fitting.{Fit}
use Rattle.pieces.proofs.Standing.{number-injective}
use Rattle.delivery.specs.Planned.{Planned}
use Rattle.delivery.specs.Delivery.{enough, plan_answer, plan_count, plan_left, delivered, Gives}
use Rattle.drafting.proofs.Fitting.{ranged-fit}
use Rattle.guiding.specs.Guiding.{plan_outcome, sheet_state, sheet_plan, sheet_outcome, sheet_result, sheet_left, blank, image_state, image_plan, image_outcome, image_left, scratch_left, SheetsRecover, ImagesAgree}

-- No list has more than 2,064 records.
few : (sound : Bool) (list : List Record) → plan_count (delivered sound list) ≤ 2064
few sound list = by_cond (λ q. plan_count q ≤ 2064) (sound && leb (length list) 2064)
    (λ t. leb→le (length list) 2064 (split-and sound (leb (length list) 2064) t).1) (λ _. omega arith)

pub plan-few : (s : RowState) → plan_count (plan entries s) ≤ 2064
unfolding plan
plan-few s = let d = draft entries s.registry.status (start s) in few d.sound d.records

-- What is returned for a list, by its answer and its number.
pub gave-error : (q : Plan) {e : Refusal} → number e ≡ plan_answer q → {y : Result ℕ Refusal} → y ≡ Err e → y ≡ plan_outcome q
gave-error (found list) {e} n i = absurd (omega (arith, n, least e))
gave-error error n i = i ∙ ap Err (number-injective n)

pub gave-list : (q : Plan) {n : ℕ} → 0 ≡ plan_answer q → n ≡ plan_count q → Ok (8 * n) ≡ plan_outcome q
gave-list (found list) a c = ap (λ k. Ok (8 * k)) c
gave-list error a c = absurd (omega (arith, a))

-- A sheet

-- Refusal 2,
pub no-sheet : (s out : Text) → is_sheet s ≡ false → {y : Result ℕ Refusal} → y ≡ Err Sheet
    → (y ≡ sheet_outcome s out) × (out ≡ sheet_left s out)
unfolding sheet_outcome sheet_left
no-sheet s out e i = (i ∙ rw e, rw e)

module _ (s out : Text) (e : is_sheet s ≡ true) where
  -- refusal 3.
  pub sheet-short : enough out ≡ false → {y : Result ℕ Refusal} → y ≡ Err Room
      → (y ≡ sheet_outcome s out) × (out ≡ sheet_left s out)
  unfolding sheet_outcome sheet_left
  sheet-short h i = (i ∙ rw (e, h), rw (e, h))

  module _ (row : Cluster) (p : Places) (ns qs : List ℕ) (ran : Ran s (length s / 8 - 1) row p ns qs) where
    -- The row of a run is one on which a list can be made.
    pub ran-fit : Shape row → Fit row p
    ran-fit shape = ranged-fit row p shape (ran-fits s e (length s / 8 - 1) row p ns qs ran) ran.full

    sheet-is : abs row p ≡ sheet_state s
    unfolding sheet_state
    sheet-is = ran.state

    pub sheet-given : enough out ≡ true → {y : Result ℕ Refusal} {out' : Text}
        → y ≡ plan_outcome (plan entries (abs row p)) → out' ≡ plan_left (plan entries (abs row p)) out
        → (y ≡ sheet_outcome s out) × (out' ≡ sheet_left s out)
    unfolding sheet_outcome sheet_left sheet_plan
    sheet-given h a l = (
      a ∙ ap (λ t. plan_outcome (plan entries t)) sheet-is ∙ rw (e, h),
      l ∙ ap (λ t. plan_left (plan entries t) out) sheet-is ∙ rw (e, h),
    )

-- An image

-- Refusal 3 of the list's slice.
pub image-short : (image out s : Text) → enough out ≡ false → {y : Result ℕ Refusal} → y ≡ Err Room
    → (y ≡ image_outcome image out s) × (out ≡ image_left image out s) × (s ≡ scratch_left out s)
unfolding image_outcome image_left
image-short image out s h i = (i ∙ rw h, rw h, rw h)

-- The reader's refusal is known by its number.
by-errors : (a b c d : Bool) (e : Refusal) (t : Result ℕ Refusal)
    → number e ≡ cond a (cond b (cond c (cond d 0 19) 18) 17) 3
    → Err e ≡ cond a (cond b (cond c (cond d t (Err ImageLinks)) (Err ImageNumber)) (Err ImageLength)) (Err Room)
by-errors true true true true e t n = absurd (omega (arith, n, least e))
by-errors true true true false e t n = ap Err (number-injective n)
by-errors true true false d e t n = ap Err (number-injective n)
by-errors true false c d e t n = ap Err (number-injective n)
by-errors false b c d e t n = ap Err (number-injective n)

-- An image without errors passes all tests.
no-error : (b c d : Bool) (t : Result ℕ Refusal) → ◌≡◌ {A = ℕ} (cond b (cond c (cond d 0 19) 18) 17) 0
    → cond b (cond c (cond d t (Err ImageLinks)) (Err ImageNumber)) (Err ImageLength) ≡ t
no-error true true true t e = refl
no-error true true false t e = absurd (omega (arith, e))
no-error true false d t e = absurd (omega (arith, e))
no-error false c d t e = absurd (omega (arith, e))

module _ (image : Text) (given : Cluster) (s : Text) (x : Loaded) (p' : Places) (s' : Text)
    (l : Loads image given blank s x p' s') (out : Text) (long : enough out ≡ true) where
  scratch-is : s' ≡ scratch_left out s
  scratch-is = l.scratch ∙ ap (λ t. cond (t && leb room (length s)) (replicate (length s) 0) s) (sym long)

  -- The reader's refusals: 3 of the scratch, 17, 18 and 19.
  pub image-refused : (e : Refusal) → number e ≡ x.answer → {y : Result ℕ Refusal} → y ≡ Err e
      → (y ≡ image_outcome image out s) × (out ≡ image_left image out s) × (s' ≡ scratch_left out s)
  unfolding image_outcome image_left
  image-refused e n i = (
    i ∙ by-errors (leb room (length s)) (length_fits image) (numbers_fit image) (links_fit image) e
        (plan_outcome (image_plan image)) (n ∙ l.answer) ∙ rw long,
    go (leb room (length s)) refl,
    scratch-is,
  )
    where
      go : (t : Bool) → leb room (length s) ≡ t → out ≡ image_left image out s
      go true r =
          let a : number e ≡ verdict image = n ∙ l.answer ∙ ap (λ t. cond t (verdict image) 3) r in
          let v = ne_eqb (verdict image) 0 (λ z. omega (arith, a, z, least e)) in
          sym (rw (long, r, v))
      go false r = sym (rw (long, r))

  -- The image is taken.
  module _ (e : x.answer ≡ 0) where
    parts : (leb room (length s) ≡ true) × (verdict image ≡ 0)
    parts = go (leb room (length s)) refl
      where
        go : (t : Bool) → leb room (length s) ≡ t → (leb room (length s) ≡ true) × (verdict image ≡ 0)
        go true q = (q, sym (l.answer ∙ ap (λ t. cond t (verdict image) 3) q) ∙ e)
        go false q = absurd (omega (arith, sym (l.answer ∙ ap (λ t. cond t (verdict image) 3) q) ∙ e))

    took : taken image blank s ≡ true
    took = rw (parts.0, eq-eqb (verdict image) 0 parts.1)

    row_is : x.row ≡ row_in image
    row_is = l.row ∙ ap (λ t. cond t (row_in image) given) took

    places-are : p' ≡ places_in image blank
    places-are = l.places ∙ ap (λ t. cond t (places_in image blank) blank) took

    fits : valid x.row p' ≡ true
    unfolding TakenFits
    fits = ap₂ valid row_is places-are ∙ taken-fits image blank parts.1 refl

    pub taken-fit : Shape x.row → Fit x.row p'
    taken-fit shape = ranged-fit x.row p' shape (valid-range x.row p' fits) (valid-full x.row p' fits)

    image-is : abs x.row p' ≡ image_state image
    unfolding image_state
    image-is = ap₂ abs row_is places-are

    pub image-given : {y : Result ℕ Refusal} {out' : Text} → y ≡ plan_outcome (plan entries (abs x.row p'))
        → out' ≡ plan_left (plan entries (abs x.row p')) out
        → (y ≡ image_outcome image out s) × (out' ≡ image_left image out s) × (s' ≡ scratch_left out s)
    unfolding image_outcome image_left image_plan
    image-given a w =
        let v = eq-eqb (verdict image) 0 parts.1 in
        let t = plan_outcome (plan entries (image_state image)) in (
          a ∙ ap (λ u. plan_outcome (plan entries u)) image-is
              ∙ sym (no-error (length_fits image) (numbers_fit image) (links_fit image) t parts.1)
              ∙ rw (long, parts.0),
          w ∙ ap (λ u. plan_left (plan entries u) out) image-is ∙ sym (rw (long, parts.0, v)),
          scratch-is,
        )

-- Claims

pub sheets-recover : SheetsRecover
unfolding SheetsRecover sheet_state sheet_outcome sheet_result sheet_left sheet_plan
sheets-recover s out e t low =
    let n = recovers entries same-entry (opening_of (record_at s)) (sheet-real s e) _ low in
    let r = is_true (enough out) t in
    let q = plan_outcome (plan entries (sheet_state s)) in
    record {
      list = n.list;
      result = ap₂ (λ t u. returned (cond t (cond u q (Err Room)) (Err Sheet))) e r
          ∙ ap (λ t. returned (plan_outcome t)) n.exists;
      left = ap₂ (λ t u. cond (t && u) (plan_left (plan entries (sheet_state s)) out) out) e r
          ∙ ap (λ q. plan_left q out) n.exists;
      leads = n.leads;
    }

-- A written row reads back as the same row, whatever the places held.
pub images-agree : ImagesAgree
unfolding ImagesAgree image_plan image_state ReadsBack
images-agree row p typed v =
    let b = reads-back row p typed v in
    (b.0, ap (λ r. plan entries (abs r (places_in (image_of (abs row p)) blank))) b.1 ∙ ap (plan entries) (b.2 blank refl))

-- The length in bytes of a list that was given fits.
pub few-given : (s : RowState) {out out' : Text} {x : Planned} → Gives (plan entries s) out x out' → x.count ≤ 2064
few-given s g = omega (arith, g.count, plan-few s)
