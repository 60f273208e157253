-- A sheet's image and an image's lines: what was handed back and left is what the definitions say. Assumes nothing.
use mathlib.Core.Bool.{Bool, true, false, cond, ◌&&◌}
use mathlib.Core.List.{List}
use mathlib.Core.Path.{◌≡◌, refl, sym, ap, subst, ◌∙◌}
use Prim.Native.Nat.{ℕ, ◌-◌, ◌/◌, ◌≤◌}
use native.Mathlib.Omega.{arith}
use lib.Dec.{leb, eqb}
use lib.ListN.{length, take}
use Rattle.std.specs.Prelude.{Result, Err}
use Rattle.refusal.specs.declared.Refusal.{Refusal}
use Rattle.refusal.specs.declared.Refusal.TheVariants.{Invalid, Sheet, Room, Status, Membership, Leader, EpochsUsedUp, NotLeader, FollowsNone, TermsDiffer, Joining, NothingDue, LogFull, NoMajority, Stage, EpochsDiffer, ImageLength, ImageNumber, ImageLinks, NoPlan}
use Rattle.refusal.specs.Refusal.{number, returned}
use borrow.Author.Tests.{ne_eqb, eq-eqb}
use Rattle.model.specs.Ranges.{every, eight, in_range, terms_in_range, kept_in_range}
use Rattle.model.proofs.Tests.{of-true, is_true, split-and}
use Rattle.model.proofs.Range.{to-ranges}
use Rattle.text.specs.Text.{Text, Delivers}
use Rattle.cluster.specs.declared.Cluster.{Cluster}
use Rattle.cluster.specs.Layout.{outline_of}
use Rattle.refinement.specs.Refinement.{Places, Full, listed, abs}
use Rattle.shown.specs.Shown.{lengths_fit, valid}
use Rattle.shown.proofs.Valid.{all-tests, fits-full, valid-range}
use Rattle.records.specs.Bytes.{is_sheet}
use Rattle.ending.specs.Ending.{ending}
use Rattle.marks.specs.Marks.{room}
use Rattle.running.specs.Running.{state_at, Ran}
use Rattle.running.proofs.Playing.{ran-fits, kept-fits}
use Rattle.image.specs.Image.{image_of, length_fits, numbers_fit, links_fit, verdict, row_in, places_in}
use Rattle.image.specs.Keeping.{saved, Saves, Loaded, Loads, taken, TakenFits}
use Rattle.image.proofs.Fitting.{taken-fits, receipts-there, places-full}
use Rattle.archive.specs.Archive.{sheet_image, save_outcome, save_left, image_text, show_outcome, show_left, scratch_left}

-- A sheet's image

pub no-sheet : (s out : Text) → is_sheet s ≡ false → (Err Sheet ≡ save_outcome s out) × (out ≡ save_left s out)
unfolding save_outcome save_left
no-sheet s out e = (rw e, rw e)

module _ (s : Text) (e : is_sheet s ≡ true) (row : Cluster) (p : Places) (ns qs : List ℕ)
    (h : Ran s (length s / 8 - 1) row p ns qs) where
  -- No row of a run earns refusal 1.
  ran-valid : valid row p ≡ true
  ran-valid =
      all-tests row p h.full (ran-fits s e (length s / 8 - 1) row p ns qs h) ∙ ap kept_in_range h.state
      ∙ is_true (kept_in_range (state_at s (length s / 8 - 1))) (kept-fits s e (length s / 8 - 1) row p ns qs h)

  same : image_of (abs row p) ≡ sheet_image s
  unfolding sheet_image
  same = ap image_of h.state

  -- The writer was lent the places of the run, read as q.
  pub sheet-saved : (q : Places) (out : Text) (r : Result ℕ Refusal) (out' : Text) → q ≡ p → r ≡ saved row q out
      → Saves row q out (returned r) out' → (r ≡ save_outcome s out) × (out' ≡ save_left s out)
  unfolding save_outcome save_left
  sheet-saved q out r out' l a w = (
    a ∙ rw (l, ran-valid, same, e),
    w.left ∙ rw (l, ran-valid, same, e),
  )

-- An image's lines

-- The refusal of a number.
abbrev named : ℕ → Refusal
named n =
    cond (eqb n 1) Invalid (cond (eqb n 2) Sheet (cond (eqb n 3) Room (cond (eqb n 4) Status (cond (eqb n 5)
    Membership (cond (eqb n 6) Leader (cond (eqb n 7) EpochsUsedUp (cond (eqb n 8) NotLeader (cond (eqb n 9)
    FollowsNone (cond (eqb n 10) TermsDiffer (cond (eqb n 11) Joining (cond (eqb n 12) NothingDue (cond (eqb n 13)
    LogFull (cond (eqb n 14) NoMajority (cond (eqb n 15) Stage (cond (eqb n 16) EpochsDiffer (cond (eqb n 17)
    ImageLength (cond (eqb n 18) ImageNumber (cond (eqb n 19) ImageLinks (NoPlan)))))))))))))))))))

named-is : (e : Refusal) → named (number e) ≡ e
named-is Invalid = refl
named-is Sheet = refl
named-is Room = refl
named-is Status = refl
named-is Membership = refl
named-is Leader = refl
named-is EpochsUsedUp = refl
named-is NotLeader = refl
named-is FollowsNone = refl
named-is TermsDiffer = refl
named-is Joining = refl
named-is NothingDue = refl
named-is LogFull = refl
named-is NoMajority = refl
named-is Stage = refl
named-is EpochsDiffer = refl
named-is ImageLength = refl
named-is ImageNumber = refl
named-is ImageLinks = refl
named-is NoPlan = refl

by-number : (e : Refusal) (n : ℕ) → number e ≡ n → e ≡ named n
by-number e n q = sym (named-is e) ∙ ap named q

number-least : (e : Refusal) → 1 ≤ number e
number-least Invalid = omega arith
number-least Sheet = omega arith
number-least Room = omega arith
number-least Status = omega arith
number-least Membership = omega arith
number-least Leader = omega arith
number-least EpochsUsedUp = omega arith
number-least NotLeader = omega arith
number-least FollowsNone = omega arith
number-least TermsDiffer = omega arith
number-least Joining = omega arith
number-least NothingDue = omega arith
number-least LogFull = omega arith
number-least NoMajority = omega arith
number-least Stage = omega arith
number-least EpochsDiffer = omega arith
number-least ImageLength = omega arith
number-least ImageNumber = omega arith
number-least ImageLinks = omega arith
number-least NoPlan = omega arith

-- The refusal of an image is known from its number.
by-errors : (a b c d : Bool) (n : ℕ) (t : Result ℕ Refusal) (e : Refusal)
    → n ≡ cond a (cond b (cond c (cond d 0 19) 18) 17) 3 → n ≡ number e
    → Err e ≡ cond a (cond b (cond c (cond d t (Err ImageLinks)) (Err ImageNumber)) (Err ImageLength)) (Err Room)
by-errors true true true true n t e p q = absurd (omega (arith, p, q, number-least e))
by-errors true true true false n t e p q = ap (λ x. Err x) (by-number e 19 (sym q ∙ p))
by-errors true true false d n t e p q = ap (λ x. Err x) (by-number e 18 (sym q ∙ p))
by-errors true false c d n t e p q = ap (λ x. Err x) (by-number e 17 (sym q ∙ p))
by-errors false b c d n t e p q = ap (λ x. Err x) (by-number e 3 (sym q ∙ p))

-- An image with no error passed each test.
no-error : (b c d : Bool) → ◌≡◌ {A = ℕ} (cond b (cond c (cond d 0 19) 18) 17) 0 → (b ≡ true) × (c ≡ true) × (d ≡ true)
no-error true true true e = (refl, refl, refl)
no-error true true false e = absurd (omega (arith, e))
no-error true false d e = absurd (omega (arith, e))
no-error false c d e = absurd (omega (arith, e))

module _ (image : Text) (given : Cluster) (p : Places) (s : Text) (x : Loaded) (p' : Places) (s' : Text)
    (fit : lengths_fit p ≡ true) (l : Loads image given p s x p' s') where
  answered : x.answer ≡ cond (leb room (length s)) (verdict image) 3
  answered = l.answer ∙ rw fit

  cleared : s' ≡ scratch_left s
  cleared = l.scratch ∙ rw fit

  pub not-shown : (out : Text) (e : Refusal) → x.answer ≡ number e
      → (Err e ≡ show_outcome image out s) × (out ≡ show_left image out s) × (s' ≡ scratch_left s)
  unfolding show_outcome show_left
  not-shown out e q = (
    by-errors (leb room (length s)) (length_fits image) (numbers_fit image) (links_fit image) x.answer _ e answered q,
    alone (leb room (length s)) refl,
    cleared,
  )
    where
      alone : (t : Bool) → leb room (length s) ≡ t → out ≡ show_left image out s
      alone true r =
          let a : x.answer ≡ verdict image = answered ∙ rw r in
          let z : eqb (verdict image) 0 ≡ false =
          ne_eqb (verdict image) 0 (λ h. omega (arith, h, a, q, number-least e)) in
          sym (rw (r, z))
      alone false r = sym (rw r)

  module _ (e : x.answer ≡ 0) where
    tests : (t : Bool) → leb room (length s) ≡ t → (leb room (length s) ≡ true) × (verdict image ≡ 0)
    tests true q = (q, sym (answered ∙ rw q) ∙ e)
    tests false q = let z : ◌≡◌ {A = ℕ} 3 0 = sym (answered ∙ rw q) ∙ e in absurd (omega (arith, z))

    enough : leb room (length s) ≡ true
    enough = (tests (leb room (length s)) refl).0

    good : verdict image ≡ 0
    good = (tests (leb room (length s)) refl).1

    is-taken : taken image p s ≡ true
    is-taken = rw (fit, enough, eq-eqb (verdict image) 0 good)

    full : Full p
    full = fits-full given p fit

    the_row : x.row ≡ row_in image
    the_row = l.row ∙ rw is-taken

    the_places : p' ≡ places_in image p
    the_places = l.places ∙ rw is-taken

    taken-valid : valid x.row p' ≡ true
    unfolding TakenFits
    taken-valid = rw (the_row, the_places) (taken-fits image p good fit)

    pub taken-range : in_range (outline_of x.row) ≡ true
    taken-range = valid-range x.row p' taken-valid

    pub taken-terms : terms_in_range (take x.row.issued (listed p')) ≡ true
    taken-terms =
        let st = abs x.row p' in
        is_true (terms_in_range st.committed)
        (split-and (terms_in_range st.committed) (every (eight (λ b. terms_in_range (st.log b))))
        (split-and (lengths_fit p' && in_range (outline_of x.row)) (kept_in_range st) (of-true taken-valid)).1).0

    pub taken-full : Full p'
    taken-full = subst Full (sym the_places) (places-full image p full)

    pub taken-issued : x.row.issued ≤ length p'.list
    taken-issued = omega (arith, taken-full.list, (to-ranges (outline_of x.row) (of-true taken-range)).committed)

    the-text : ending (outline_of x.row) (take x.row.issued (listed p')) ≡ image_text image
    unfolding image_text
    the-text =
        (λ i. ending (outline_of (the_row i)) (take (the_row i).issued (listed (the_places i))))
        ∙ ap (ending (outline_of (row_in image))) (receipts-there image good p full)

    pub is-shown : (text out out' : Text) (r : Result ℕ Refusal)
        → text ≡ ending (outline_of x.row) (take x.row.issued (listed p')) → Delivers text out out' r
        → (r ≡ show_outcome image out s) × (out' ≡ show_left image out s) × (s' ≡ scratch_left s)
    unfolding show_outcome show_left
    is-shown text out out' r t d =
        let z : eqb (verdict image) 0 ≡ true = eq-eqb (verdict image) 0 good in
        let f = subst (λ y. Delivers y out out' r) (t ∙ the-text) d in
        let n = no-error (length_fits image) (numbers_fit image) (links_fit image) good in
        (f.answer ∙ sym (rw (enough, n.0, n.1, n.2)), f.left ∙ sym (rw (enough, z)), cleared)
