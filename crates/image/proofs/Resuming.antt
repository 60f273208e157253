-- What the writer wrote the reader takes: the calls, one after the other. Assumes nothing.
use mathlib.Core.Bool.{Bool, true, false, cond}
use mathlib.Core.Logic.{◌≢◌}
use mathlib.Core.Path.{◌≡◌, refl, sym, ap, subst, ◌∙◌}
use Prim.Native.Nat.{ℕ}
use native.Mathlib.Omega.{arith}
use lib.Dec.{leb, eqb}
use lib.ListN.{length, take}
use borrow.Author.Tests.{leb-true, eq-eqb}
use Rattle.text.specs.Text.{Text, over}
use Rattle.text.proofs.Laws.{over-holds}
use Rattle.marks.specs.Marks.{room}
use Rattle.cluster.specs.declared.Cluster.{Cluster}
use Rattle.model.proofs.Tests.{by_cond}
use Rattle.refinement.specs.Refinement.{Places, Full, abs}
use Rattle.shown.specs.Shown.{lengths_fit, valid}
use Rattle.shown.proofs.Valid.{fits-full}
use Rattle.image.specs.Loaded.{Loaded}
use Rattle.image.specs.Image.{image_of, verdict, row_in, places_in}
use Rattle.image.specs.Keeping.{Saves, taken, Loads, ReadsBack, Resumes}
use Rattle.image.proofs.Fitting.{places-full}
use Rattle.image.proofs.Returning.{reads-back}

-- An answer that is neither refusal: both tests hold.
both_hold : (a b : Bool) (x n : ℕ) → n ≡ cond a (cond b x 3) 1 → n ≢ 1 → n ≢ 3 → (a ≡ true) × (b ≡ true) × (n ≡ x)
both_hold true true x n e f g = (refl, refl, e)
both_hold true false x n e f g = absurd (g e)
both_hold false b x n e f g = absurd (f e)

-- The writer took the row: its slice begins with the image.
module _ (row : Cluster) (p : Places) (out : Text) (n : ℕ) (out' : Text) (w : Saves row p out n out') (f : n ≢ 1)
    (g : n ≢ 3) where
  abbrev image : Text
  image = image_of (abs row p)

  tests : (valid row p ≡ true) × (leb (length image) (length out) ≡ true) × (n ≡ length image)
  tests = both_hold (valid row p) (leb (length image) (length out)) (length image) n w.answer f g

  pub written : take n out' ≡ image
  written =
      let l = leb-true (length image) (length out) tests.1 in
      let e : out' ≡ over out 0 image = w.left ∙ rw (tests.0, tests.1) in
      ap (λ m. take m out') tests.2 ∙ ap (take (length image)) e ∙ over-holds out 0 image (omega (arith, l))

  pub was-valid : valid row p ≡ true
  was-valid = tests.0

-- The reader was lent enough, and the image is a row's: it takes it.
module _ (image : Text) (given : Cluster) (q : Places) (s : Text) (x : Loaded) (q' : Places) (s' : Text)
    (l : Loads image given q s x q' s') (f : x.answer ≢ 1) (g : x.answer ≢ 3) (v : verdict image ≡ 0) where
  lent : (lengths_fit q ≡ true) × (leb room (length s) ≡ true) × (x.answer ≡ verdict image)
  lent = both_hold (lengths_fit q) (leb room (length s)) (verdict image) x.answer l.answer f g

  takes : (x.answer ≡ 0) × (x.row ≡ row_in image) × (q' ≡ places_in image q)
  takes =
      let t : eqb (verdict image) 0 ≡ true = eq-eqb (verdict image) 0 v in (
        lent.2 ∙ v,
        l.row ∙ rw (lent.0, lent.1, t),
        l.places ∙ rw (lent.0, lent.1, t),
      )

pub resumes : Resumes
unfolding Resumes ReadsBack
resumes row p t out n out' w f g given q s x q' s' l h k =
    let image = image_of (abs row p) in
    let b = reads-back row p t (was-valid row p out n out' w f g) in
    let m = subst (λ y. Loads y given q s x q' s') (written row p out n out' w f g) l in
    let z = takes image given q s x q' s' m h k b.0 in (
      z.0,
      z.1 ∙ b.1,
      ap (abs row) z.2 ∙ b.2 q (lent image given q s x q' s' m h k b.0).0,
    )

-- The places that a reader took an image into have their lengths.
pub read-full : {image : Text} {given : Cluster} {q : Places} {s : Text} {x : Loaded} {q' : Places} {s' : Text}
    → Loads image given q s x q' s' → x.answer ≢ 1 → x.answer ≢ 3 → Full q'
read-full {image} {given} {q} {s} {x} {q'} {s'} l f g =
    let e = both_hold (lengths_fit q) (leb room (length s)) (verdict image) x.answer l.answer f g in
    let full = fits-full given q e.0 in
    subst Full (sym l.places)
    (by_cond Full (taken image q s) (λ t. places-full image q full) (λ t. full))
