-- What the reader hands back and leaves, case by case. Assumes nothing.
use mathlib.Core.Bool.{Bool, true, false, cond, ◌&&◌}
use mathlib.Core.Logic.{◌≢◌}
use mathlib.Core.Path.{◌≡◌, refl, sym, ap, subst, ◌∙◌}
use Prim.Native.Nat.{ℕ, ◌≤◌}
use native.Mathlib.Omega.{arith}
use lib.Dec.{leb, eqb}
use lib.ListN.{length, replicate}
use borrow.Author.Tests.{ne_eqb, eq-eqb, leb-true}
use Rattle.text.specs.Text.{Text, over}
use Rattle.marks.specs.Marks.{room}
use Rattle.model.proofs.Tests.{of-true, is_true, split-and}
use Rattle.model.specs.Ranges.{in_range}
use Rattle.cluster.specs.declared.Cluster.{Cluster}
use Rattle.cluster.specs.Layout.{outline_of}
use Rattle.refinement.specs.Refinement.{Places, lent}
use Rattle.shown.specs.Shown.{lengths_fit}
use Rattle.head.specs.Head.{codes_fit, row_at}
use Rattle.chains.specs.Image.{epochs_fit, holds}
use Rattle.std.specs.Prelude.{Result, Ok, Err}
use Rattle.refusal.specs.declared.Refusal.{Refusal}
use Rattle.refusal.specs.declared.Refusal.TheVariants.{ImageLinks}
use Rattle.refusal.specs.Refusal.{number}
use Rattle.loading.specs.declared.Lengths.{Lengths}
use Rattle.loading.specs.Read.{lengths_in, Taken}
use Rattle.image.specs.Loaded.{Loaded}
use Rattle.image.specs.Image.{records_in, length_fits, numbers_fit, links_fit, verdict, row_in, places_in}
use Rattle.image.specs.Keeping.{lent_enough, Loads}

abbrev pub told : ℕ → Cluster → Loaded
told n row = record { answer = n; row = row }

-- What was lent is enough: the two tests.
pub enough-both : (p : Places) (s : Text) → lengths_fit p ≡ true → leb room (length s) ≡ true → lent_enough p s ≡ true
enough-both p s a b = rw (a, b)

module _ (p : Places) (s : Text) (e : lent_enough p s ≡ true) where
  pub lent-lengths : lengths_fit p ≡ true
  lent-lengths = is_true (lengths_fit p) (split-and (lengths_fit p) (leb room (length s)) (of-true e)).0

  pub lent-scratch : leb room (length s) ≡ true
  lent-scratch = is_true (leb room (length s)) (split-and (lengths_fit p) (leb room (length s)) (of-true e)).1

  pub scratch-room : room ≤ length s
  scratch-room = leb-true room (length s) lent-scratch

module _ (image : Text) (given : Cluster) (p : Places) (s : Text) where
  pub bad-lengths : lengths_fit p ≡ false → Loads image given p s (told 1 given) p s
  bad-lengths e = record { answer = sym (rw e); row = sym (rw e); places = sym (rw e); scratch = sym (rw e) }

  pub bad-scratch : lengths_fit p ≡ true → leb room (length s) ≡ false → Loads image given p s (told 3 given) p s
  bad-scratch l e =
      record {
        answer = sym (rw (l, e));
        row = sym (rw (l, e));
        places = sym (rw (l, e));
        scratch = sym (rw (l, e));
      }

  module _ (t : lent_enough p s ≡ true) (s' : Text) (z : s' ≡ replicate (length s) 0) where
    said : verdict image ≡ cond (lengths_fit p) (cond (leb room (length s)) (verdict image) 3) 1
    said = sym (rw (lent-lengths p s t, lent-scratch p s t))

    pub bad-image : (n : ℕ) → verdict image ≡ n → n ≢ 0 → Loads image given p s (told n given) p s'
    bad-image n e d =
        let f : eqb (verdict image) 0 ≡ false = ap (λ x. eqb x 0) e ∙ ne_eqb n 0 d in
        record {
          answer = sym e ∙ said;
          row = sym (rw (t, f));
          places = sym (rw (t, f));
          scratch = z ∙ sym (rw t);
        }

    pub good-image : (row : Cluster) (p' : Places) → verdict image ≡ 0 → row ≡ row_in image → p' ≡ places_in image p
        → Loads image given p s (told 0 row) p' s'
    good-image row p' e r g =
        let f : eqb (verdict image) 0 ≡ true = eq-eqb (verdict image) 0 e in
        record {
          answer = sym e ∙ said;
          row = r ∙ sym (rw (t, f));
          places = g ∙ sym (rw (t, f));
          scratch = z ∙ sym (rw t);
        }

-- Error 18 by its three tests.
pub numbers-are : (image : Text) (a b c : Bool) → codes_fit image ≡ a
    → in_range (outline_of (row_at image (replicate 8 0) 0)) ≡ b → epochs_fit (records_in image) image ≡ c
    → numbers_fit image ≡ (a && b && c)
unfolding numbers_fit
numbers-are image a b c x y z = rw (x, y, z)

-- Errors 17 and 18 by their tests.
pub verdict-of : (image : Text) (v : ℕ) → v ≡ cond (length_fits image) (cond (numbers_fit image) 0 18) 17 → v ≢ 0
    → verdict image ≡ v
verdict-of image v e d = go (length_fits image) (numbers_fit image) refl refl
  where
    go : (a b : Bool) → length_fits image ≡ a → numbers_fit image ≡ b → verdict image ≡ v
    go true true x y = absurd (d (e ∙ rw (x, y)))
    go true false x y = rw (x, y) (sym (e ∙ rw (x, y)))
    go false b x y = rw x (sym (e ∙ rw x))

pub judged-both : (image : Text) → ◌≡◌ {A = ℕ} 0 (cond (length_fits image) (cond (numbers_fit image) 0 18) 17)
    → (length_fits image ≡ true) × (numbers_fit image ≡ true)
judged-both image e = go (length_fits image) (numbers_fit image) refl refl
  where
    go : (a b : Bool) → length_fits image ≡ a → numbers_fit image ≡ b
        → (length_fits image ≡ true) × (numbers_fit image ≡ true)
    go true true x y = (x, y)
    go true false x y = let z : ◌≡◌ {A = ℕ} 0 18 = e ∙ rw (x, y) in absurd (omega (arith, z))
    go false b x y = let z : ◌≡◌ {A = ℕ} 0 17 = e ∙ rw x in absurd (omega (arith, z))

-- What the chains' reader leaves and answers, of an image whose bytes and records are these: the cases of the whole.
module _ (image : Text) (given : Cluster) (p : Places) (s : Text) (t : lent_enough p s ≡ true)
    (f : length_fits image ≡ true) (g : numbers_fit image ≡ true) (bytes : Text) (n : ℕ) (b : bytes ≡ image)
    (k : n ≡ records_in image) where
  links : verdict image ≡ cond (holds (records_in image) image) 0 19
  unfolding links_fit
  links = rw (f, g)

  -- The chains, and what is answered of them.
  seen : {p' : Places} {s' : Text} {r : Result Lengths Refusal} → Taken (holds n bytes) bytes p p' s s' r → (h : Bool)
      → holds (records_in image) image ≡ h → Taken h image p p' s s' r
  seen {p'} {s'} {r} x h q =
      let y : Taken (holds (records_in image) image) image p p' s s' r = rw (b, k) at x in
      subst (λ h. Taken h image p p' s s' r) q y

  pub not-linked : {p' : Places} {s' : Text} {e : Refusal} → Taken (holds n bytes) bytes p p' s s' (Err e)
      → Loads image given p s (told (number e) given) p' s'
  not-linked {p'} {s'} {e} x = go (holds (records_in image) image) refl
    where
      go : (h : Bool) → holds (records_in image) image ≡ h → Loads image given p s (told (number e) given) p' s'
      go true q = absurd (let a = (seen x true q).answer in cc)
      go false q =
          let y = seen x false q in
          let a = y.answer in
          let l : e ≡ ImageLinks = cc in
          let same : p' ≡ p = λ i. lent (y.values i) (y.epochs i) (y.list i) (y.dates i) in
          rw (same, l)
          (bad-image image given p s t s' y.scratch 19 (links ∙ ap (λ b. cond b 0 19) q) (λ z. omega (arith, z)))

  pub took : {p' : Places} {s' : Text} {l : Lengths} → Taken (holds n bytes) bytes p p' s s' (Ok l) → (row : Cluster)
      → row ≡ row_at bytes l.boards l.receipts → Loads image given p s (told 0 row) p' s'
  unfolding row_in places_in over
  took {p'} {s'} {l} x row e = go (holds (records_in image) image) refl
    where
      go : (h : Bool) → holds (records_in image) image ≡ h → Loads image given p s (told 0 row) p' s'
      go true q =
          let y = seen x true q in
          let a = y.answer in
          let m : l ≡ lengths_in image = cc in
          good-image image given p s t s' y.scratch row p' (links ∙ ap (λ b. cond b 0 19) q)
          (e ∙ rw (b, m)) (λ i. lent (y.values i) (y.epochs i) (y.list i) (y.dates i))
      go false q = absurd (let a = (seen x false q).answer in cc)
