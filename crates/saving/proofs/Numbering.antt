-- Lists written as records, numbered one after the other, are well linked and read back as the same lists. Assumes
-- nothing.
use mathlib.Core.Bool.{Bool, true, false, ◌&&◌, and-eq-true_iff}
use mathlib.Core.List.{List, [], ◌∷◌, ◌++◌, map, map-append}
use mathlib.Core.Path.{◌≡◌, refl, sym, ap, subst, ◌∙◌}
use Prim.Native.Nat.{ℕ, zero, suc, ◌+◌, ◌-◌, ◌<◌, ◌≤◌}
use native.Mathlib.Nat.{not-suc-le-zero, add-zero}
use native.Mathlib.Omega.{arith}
use lib.ListN.{length}
use borrow.Author.Tests.{le-leb, ne_eqb, eq-eqb}
use Rattle.model.specs.State.{Entry}
use Rattle.model.specs.Ranges as M
use Rattle.model.specs.Ranges.{is_epoch, terms_in_range}
use Rattle.marks.specs.Marks.{Numbers, none, adding}
use Rattle.text.specs.Text.{Text}
use Rattle.chains.specs.Image.{epoch_of, next_of, values_of, epochs_of, epochs_fit}
use Rattle.chains.specs.Chain.{chain, chain_of, chains_of, is_short, every, joined, has, distinct, up_to, linked, well_linked}
use Rattle.chains.proofs.Walking.{chain-end, chain-step}
use Rattle.chains.proofs.Meeting.{good_all, well-linked-is}
use Rattle.saving.specs.Saved.{Record, first_for, firsts_for, records_for, records_all, sum_of}
use Rattle.saving.proofs.Lengths.{Short}
use Rattle.saving.proofs.Bytes.{Holds, records-length, all-length}

-- Numbers in a row

unfoldable pub range : ℕ → ℕ → List ℕ
range k zero = []
range k (suc m) = k ∷ range (suc k) m

unfoldable pub numbers_for : ℕ → List (List Entry) → List (List ℕ)
numbers_for k [] = []
numbers_for k (xs ∷ xss) = range k (length xs) ∷ numbers_for (k + length xs) xss

range_length : (k m : ℕ) → length (range k m) ≡ m
unfolding range
range_length k zero = refl
range_length k (suc m) = ap suc (range_length (suc k) m)

range-append : (k m n : ℕ) → range k m ++ range (k + m) n ≡ range k (m + n)
unfolding range
range-append k zero n = let z : 0 + n ≡ n = omega arith in rw (add-zero k, z)
range-append k (suc m) n =
    let a : k + suc m ≡ suc k + m = omega arith in
    let b : suc m + n ≡ suc (m + n) = omega arith in
    rw (a, b, range-append (suc k) m n)

numbers-joined : (k : ℕ) (xss : List (List Entry)) → joined (numbers_for k xss) ≡ range k (sum_of xss)
unfolding numbers_for joined sum_of range
numbers-joined k [] = refl
numbers-joined k (xs ∷ xss) = rw (numbers-joined (k + length xs) xss) (range-append k (length xs) (sum_of xss))

-- Numbers in a row are records, and none is met twice.
range-linked : (n : ℕ) (met : Numbers) (k m : ℕ) → 1 ≤ k → k + m ≤ suc n → ((j : ℕ) → k ≤ j → met j ≡ false)
    → linked n met (range k m) ≡ true
unfolding range linked
range-linked n met k zero h l f = refl
range-linked n met k (suc m) h l f =
    rw (le-leb 1 k h, le-leb k n (omega arith), f k (omega arith))
    (range-linked n (adding k met) (suc k) m (omega arith) (omega arith)
    (λ j g. rw (ne_eqb j k (λ (e : j ≡ k). omega arith), f j (omega arith))))

numbers-short : (k : ℕ) (xss : List (List Entry)) → Short xss → every is_short (numbers_for k xss) ≡ true
unfolding numbers_for every
numbers-short k [] s = refl
numbers-short k (xs ∷ xss) s =
    rw (range_length k (length xs), le-leb (length xs) 512 (s 0))
    (numbers-short (k + length xs) xss (λ i. s (suc i)))

pub numbers-linked : (xss : List (List Entry)) → Short xss → well_linked (sum_of xss) (numbers_for 1 xss) ≡ true
numbers-linked xss s =
    let n = sum_of xss in
    let g : good_all n none (numbers_for 1 xss) ≡ true =
    rw (numbers-short 1 xss s, numbers-joined 1 xss)
    (range-linked n none 1 n (omega arith) (omega arith) (λ j h. refl)) in
    well-linked-is n (numbers_for 1 xss) ∙ rw (g, numbers-joined 1 xss, range_length 1 n) (eq-eqb n n refl)

-- Lists in an image

module _ (image : Text) where
  holds-front : (k : ℕ) (rs ss : List Record) → Holds image k (rs ++ ss) → Holds image k rs
  unfolding Holds
  holds-front k [] ss h = tt
  holds-front k (r ∷ rs) ss h = (h.0, h.1, h.2, holds-front (suc k) rs ss h.3)

  holds-back : (k : ℕ) (rs ss : List Record) → Holds image k (rs ++ ss) → Holds image (k + length rs) ss
  unfolding Holds
  holds-back k [] ss h = rw (add-zero k) h
  holds-back k (r ∷ rs) ss h =
      let e : k + length (r ∷ rs) ≡ suc k + length rs = omega arith in rw e (holds-back (suc k) rs ss h.3)

  -- The chain of a list is its numbers in a row,
  chain-numbers : (f k : ℕ) (xs : List Entry) → 1 ≤ k → length xs ≤ f → Holds image k (records_for k xs)
      → chain (next_of image) f (first_for k xs) ≡ range k (length xs)
  unfolding Holds records_for range
  chain-numbers f k [] h l r = chain-end (next_of image) f
  chain-numbers zero k (x ∷ xs) h l r = absurd (not-suc-le-zero l)
  chain-numbers (suc f) k (x ∷ xs) h l r =
      rw (chain-step (next_of image) f k h, r.2)
      (ap (λ ks. k ∷ ks) (chain-numbers f (suc k) xs (omega arith) (omega arith) r.3))

  -- and what they hold is the list.
  held-values : (k : ℕ) (xs : List Entry) → Holds image k (records_for k xs)
      → values_of image (range k (length xs)) ≡ map (λ x. x.value) xs
  unfolding Holds records_for range
  held-values k [] r = refl
  held-values k (x ∷ xs) r = rw (r.0, held-values (suc k) xs r.3)

  held-terms : (k : ℕ) (xs : List Entry) → Holds image k (records_for k xs)
      → epochs_of image (range k (length xs)) ≡ map (λ x. x.term) xs
  unfolding Holds records_for range
  held-terms k [] r = refl
  held-terms k (x ∷ xs) r = rw (r.1, held-terms (suc k) xs r.3)

  -- The first of some lists, and the others.
  module _ (k : ℕ) (xs : List Entry) (xss : List (List Entry)) (r : Holds image k (records_all k (xs ∷ xss))) where
    own : Holds image k (records_for k xs)
    unfolding records_all
    own = holds-front k (records_for k xs) (records_all (k + length xs) xss) r

    others : Holds image (k + length xs) (records_all (k + length xs) xss)
    unfolding records_all
    others =
        subst (λ m. Holds image (k + m) (records_all (k + length xs) xss)) (records-length k xs)
        (holds-back k (records_for k xs) (records_all (k + length xs) xss) r)

  pub chains-numbers : (k : ℕ) (xss : List (List Entry)) → 1 ≤ k → Short xss → Holds image k (records_all k xss)
      → chains_of (next_of image) (firsts_for k xss) ≡ numbers_for k xss
  unfolding chains_of firsts_for numbers_for
  chains-numbers k [] h s r = refl
  chains-numbers k (xs ∷ xss) h s r =
      rw (chain-numbers 513 k xs h (omega (arith, s 0)) (own k xs xss r))
      (ap (λ kss. range k (length xs) ∷ kss)
      (chains-numbers (k + length xs) xss (omega arith) (λ i. s (suc i)) (others k xs xss r)))

  pub numbers-values : (k : ℕ) (xss : List (List Entry)) → Holds image k (records_all k xss)
      → map (values_of image) (numbers_for k xss) ≡ map (λ xs. map (λ x. x.value) xs) xss
  unfolding numbers_for
  numbers-values k [] r = refl
  numbers-values k (xs ∷ xss) r =
      rw (held-values k xs (own k xs xss r), numbers-values (k + length xs) xss (others k xs xss r))

  pub numbers-terms : (k : ℕ) (xss : List (List Entry)) → Holds image k (records_all k xss)
      → map (epochs_of image) (numbers_for k xss) ≡ map (λ xs. map (λ x. x.term) xs) xss
  unfolding numbers_for
  numbers-terms k [] r = refl
  numbers-terms k (xs ∷ xss) r =
      rw (held-terms k xs (own k xs xss r), numbers-terms (k + length xs) xss (others k xs xss r))

  -- Every record's epoch is in its range where those of the records are.
  epoch-fits : (k : ℕ) (rs : List Record) → Holds image k rs → M.every (map (λ r. is_epoch r.term) rs) ≡ true
      → (i : ℕ) → i < length rs → is_epoch (epoch_of image (k + i)) ≡ true
  unfolding Holds
  epoch-fits k [] h t i l = absurd (not-suc-le-zero l)
  epoch-fits k (r ∷ rs) h t zero l =
      rw (add-zero k, h.1) ((and-eq-true_iff (is_epoch r.term) (M.every (map (λ r. is_epoch r.term) rs))).0 t).0
  epoch-fits k (r ∷ rs) h t (suc i) l =
      let e : k + suc i ≡ suc k + i = omega arith in
      let p = (and-eq-true_iff (is_epoch r.term) (M.every (map (λ r. is_epoch r.term) rs))).0 t in
      rw e (epoch-fits (suc k) rs h.3 p.1 i (omega arith))

pub numbers-lengths : (k : ℕ) (xss : List (List Entry)) → map length (numbers_for k xss) ≡ map length xss
unfolding numbers_for
numbers-lengths k [] = refl
numbers-lengths k (xs ∷ xss) = rw (range_length k (length xs), numbers-lengths (k + length xs) xss)

-- Terms

every_append : (s t : List Bool) → M.every (s ++ t) ≡ (M.every s && M.every t)
every_append [] t = refl
every_append (true ∷ s) t = every_append s t
every_append (false ∷ s) t = refl

terms-for : (k : ℕ) (xs : List Entry)
    → map (λ r. is_epoch r.term) (records_for k xs) ≡ map (λ x. is_epoch x.term) xs
unfolding records_for
terms-for k [] = refl
terms-for k (x ∷ xs) = ap (λ ts. is_epoch x.term ∷ ts) (terms-for (suc k) xs)

-- The records' terms are epochs where the entries' are.
terms-all : (k : ℕ) (xss : List (List Entry))
    → M.every (map (λ r. is_epoch r.term) (records_all k xss)) ≡ M.every (map terms_in_range xss)
unfolding records_all
terms-all k [] = refl
terms-all k (xs ∷ xss) =
    let f : Record → Bool = λ r. is_epoch r.term in
    let rest = records_all (k + length xs) xss in
    ap M.every (map-append f (records_for k xs) rest) ∙ every_append (map f (records_for k xs)) (map f rest)
    ∙ rw (terms-for k xs, terms-all (k + length xs) xss)

up-to : (n : ℕ) (m : Numbers) → ((i : ℕ) → i < n → m (1 + i) ≡ true) → up_to n m ≡ true
unfolding up_to
up-to zero m h = refl
up-to (suc n) m h =
    let e : 1 + n ≡ suc n = omega arith in
    let a : m (suc n) ≡ true = ap m (sym e) ∙ h n (omega arith) in
    rw a (up-to n m (λ i l. h i (omega arith)))

pub epochs-fit : (image : Text) (xss : List (List Entry)) → Holds image 1 (records_all 1 xss)
    → M.every (map terms_in_range xss) ≡ true → epochs_fit (sum_of xss) image ≡ true
epochs-fit image xss h t =
    up-to (sum_of xss) (λ k. is_epoch (epoch_of image k))
    (λ i l. epoch-fits image 1 (records_all 1 xss) h (terms-all 1 xss ∙ t) i (omega (arith, all-length 1 xss)))

-- The definitions, tried: two chains of three records; then one met twice, by one chain and by two, one not met, one
-- past the last; and a chain that comes back to itself, which has 513 steps of no end.
tried :
    (well_linked 3 ((2 ∷ 1 ∷ []) ∷ [] ∷ (3 ∷ []) ∷ []) ≡ true)
    × (well_linked 3 ((2 ∷ 1 ∷ 2 ∷ []) ∷ (3 ∷ []) ∷ []) ≡ false)
    × (well_linked 3 ((2 ∷ 1 ∷ []) ∷ (3 ∷ 1 ∷ []) ∷ []) ≡ false) × (well_linked 3 ((2 ∷ 1 ∷ []) ∷ []) ≡ false)
    × (well_linked 3 ((2 ∷ 1 ∷ []) ∷ (3 ∷ 4 ∷ []) ∷ []) ≡ false) × (length (chain_of (λ k. k) 7) ≡ 513)
    × (chain_of (λ k. k - 1) 4 ≡ 4 ∷ 3 ∷ 2 ∷ 1 ∷ [])
unfolding well_linked every joined has distinct up_to chain
tried = (refl, refl, refl, refl, refl, refl, refl)
