-- What is read from an image of nine lists is these lists, whatever the places held that they are read into. Assumes
-- nothing.
use mathlib.Core.Bool.{Bool, true, false}
use mathlib.Core.List.{List, [], ◌∷◌, ◌++◌, map}
use mathlib.Core.Path.{◌≡◌, refl, sym, ap, ap₂, subst, ◌∙◌}
use Prim.Native.Nat.{ℕ, suc, ◌+◌, ◌-◌, ◌*◌, ◌<◌, ◌≤◌}
use native.Mathlib.Omega.{arith}
use lib.Dec.{eqb}
use lib.ListN.{length, get_or, take, drop, length-map, get_or-map}
use lib.Seq.{sets, sets-eq, take-append_seam, take_at, drop_at}
use borrow.Author.Tests.{eqb-true, eqb-false}
use Rattle.model.specs.State.{Entry}
use Rattle.model.specs.Ranges as M
use Rattle.model.specs.Ranges.{terms_in_range}
use Rattle.logstore.specs.Log.{pairs, log_of}
use Rattle.logstore.proofs.Laws.{pairs-take, pairs-drop}
use Rattle.text.specs.Text.{Text}
use Rattle.chains.specs.Image.{next_of, value_of, epoch_of, list_of, firsts_from, firsts_of, values_of, epochs_of, epochs_fit, holds}
use Rattle.chains.specs.Chain.{chains_of}
use Rattle.loading.specs.Read.{boards_of, receipts_of, laid}
use Rattle.loading.proofs.Places.{list-there}
use Rattle.saving.specs.Saved.{firsts_for, records_all, bytes_of, nine_lists, sum_of}
use Rattle.saving.proofs.Lengths.{each, each-is, each_map, each_at, list_at, nine-each, Sized, sized-nine, sized-short, log-size}
use Rattle.saving.proofs.Bytes.{Holds, bytes-hold}
use Rattle.saving.proofs.Numbering.{numbers_for, numbers-linked, chains-numbers, numbers-values, numbers-terms, numbers-lengths, epochs-fit}

-- Entries are their values and terms.
pairs-back : (xs : List Entry) → pairs (map (λ x. x.value) xs) (map (λ x. x.term) xs) ≡ xs
pairs-back [] = refl
pairs-back (x ∷ xs) = ap (λ ys. x ∷ ys) (pairs-back xs)

-- What is stored whole at the start of a slice is read back.
sets-front : (s vs : List ℕ) (n : ℕ) → length vs ≡ n → n ≤ length s → take n (sets s 0 vs) ≡ vs
sets-front s vs n e h =
    rw (sets-eq vs s 0 (omega arith), ← e) (take-append_seam vs (drop (0 + length vs) s))

-- Lists of eight and one more are equal where the eight are and the last.
module _ {A : Type 0} (p q : List A) (x y : A) (l : length p ≡ 8) (l' : length q ≡ 8)
    (e : p ++ (x ∷ []) ≡ q ++ (y ∷ [])) where
  first-eight : p ≡ q
  first-eight = sym (take_at p (x ∷ []) 8 l) ∙ ap (take 8) e ∙ take_at q (y ∷ []) 8 l'

  the_last : x ≡ y
  the_last =
      let d : x ∷ [] ≡ y ∷ [] = sym (drop_at p (x ∷ []) 8 l) ∙ ap (drop 8) e ∙ drop_at q (y ∷ []) 8 l' in
      ap (λ r. get_or r 0 x) d

-- What a reader asks of an image, and the lengths that it finds.
pub record Linked (lists : List (List Entry)) (len : List ℕ) (count : ℕ) (image : Text) : Type 0 where
  pub linked : holds (sum_of lists) image ≡ true
  pub epochs : M.every (map terms_in_range lists) ≡ true → epochs_fit (sum_of lists) image ≡ true
  pub logs : map length (boards_of image) ≡ len
  pub receipts : length (receipts_of image) ≡ count

-- Nine lists of the lengths len and count, after a head of 258 bytes that has their first records.
module _ (lists : List (List Entry)) (len : List ℕ) (count : ℕ) (z : Sized lists len count) (head : Text)
    (long : length head ≡ 258) where
  abbrev image : Text
  image = head ++ bytes_of (records_all 1 lists)

  module _ (right : firsts_of image ≡ firsts_for 1 lists) where
    records : Holds image 1 (records_all 1 lists)
    records = bytes-hold head (records_all 1 lists) 1 long

    -- The nine chains of the image are the numbers of the lists.
    numbered : chains_of (next_of image) (firsts_of image) ≡ numbers_for 1 lists
    numbered =
        ap (chains_of (next_of image)) right
        ∙ chains-numbers image 1 lists (omega arith) (sized-short lists len count z) records

    chains : each (list_of image) 0 9 ≡ numbers_for 1 lists
    unfolding chains_of firsts_from each
    chains = numbered

    -- What is read of each is what was written.
    read : {B : Type 0} (f : List ℕ → B) (g : List Entry → B) → map f (numbers_for 1 lists) ≡ map g lists
        → (i : ℕ) → i < 9 → f (list_of image i) ≡ g (get_or lists i [])
    read f g q i h =
        let o : 0 + i ≡ i = omega arith in
        let e : get_or (map f (each (list_of image) 0 9)) i (g []) ≡ f (list_of image i) =
        rw (each_map f (list_of image) 0 9, each_at (g []) (λ j. f (list_of image j)) 0 9 i h, o) in
        sym e ∙ ap (λ kss. get_or (map f kss) i (g [])) chains ∙ ap (λ ys. get_or ys i (g [])) q
        ∙ get_or-map g lists i []

    values-at : (i : ℕ) → i < 9 → values_of image (list_of image i) ≡ map (λ x. x.value) (get_or lists i [])
    values-at = read (values_of image) (λ xs. map (λ x. x.value) xs) (numbers-values image 1 lists records)

    terms-at : (i : ℕ) → i < 9 → epochs_of image (list_of image i) ≡ map (λ x. x.term) (get_or lists i [])
    terms-at = read (epochs_of image) (λ xs. map (λ x. x.term) xs) (numbers-terms image 1 lists records)

    size-at : (i : ℕ) → i < 9 → length (list_of image i) ≡ length (get_or lists i [])
    size-at = read length length (numbers-lengths 1 lists)

    linked : holds (sum_of lists) image ≡ true
    linked = rw numbered (numbers-linked lists (sized-short lists len count z))

    all-lengths : map length (boards_of image) ++ (length (receipts_of image) ∷ []) ≡ len ++ (count ∷ [])
    unfolding chains_of firsts_from each
    all-lengths = ap (map length) chains ∙ numbers-lengths 1 lists ∙ z.lengths

    eight-boards : length (map length (boards_of image)) ≡ 8
    unfolding chains_of firsts_from
    eight-boards = refl

    pub image-back : Linked lists len count image
    image-back = record {
      linked = linked;
      epochs = epochs-fit image lists records;
      logs = first-eight _ len (length (receipts_of image)) count eight-boards z.eight all-lengths;
      receipts = the_last (map length (boards_of image)) len _ _ eight-boards z.eight all-lengths;
    }

    -- One of the two numbers of each entry, f of its record and g of itself, where it is read to.
    module _ (f : ℕ → ℕ) (g : Entry → ℕ) (same : (i : ℕ) → i < 9 → map f (list_of image i) ≡ map g (get_or lists i []))
        (s : List ℕ) where
      log-there : length s ≡ 4096 → (i : ℕ) → i < 8
          → take (get_or len i 0) (drop (512 * i) (laid s 0 (map (map f) (boards_of image)))) ≡ map g (get_or lists i [])
      log-there l i h =
          let n : length (list_of image i) ≡ get_or len i 0 = size-at i (omega arith) ∙ log-size lists len count z i h in
          rw (← n) (list-there f image (sum_of lists) linked s i h l ∙ same i (omega arith))

      receipts-there : length s ≡ 512 → take count (sets s 0 (map f (receipts_of image))) ≡ map g (get_or lists 8 [])
      receipts-there l =
          let n : length (map f (receipts_of image)) ≡ count = length-map (receipts_of image) f ∙ image-back.receipts in
          sets-front s (map f (receipts_of image)) count n (omega (arith, z.few)) ∙ same 8 (omega arith)

    -- Places of the right lengths, whatever they hold.
    module _ (store store2 list list2 : List ℕ) (full : length store ≡ 4096) (also : length store2 ≡ 4096)
        (l : length list ≡ 512) (l2 : length list2 ≡ 512) where
      -- What they hold after the reading.
      abbrev store' : List ℕ
      store' = laid store 0 (map (values_of image) (boards_of image))

      abbrev store2' : List ℕ
      store2' = laid store2 0 (map (epochs_of image) (boards_of image))

      abbrev list' : List ℕ
      list' = sets list 0 (values_of image (receipts_of image))

      abbrev list2' : List ℕ
      list2' = sets list2 0 (epochs_of image (receipts_of image))

      log_back : (i : ℕ) → i < 8 → get_or lists i [] ≡ log_of (pairs store' store2') (suc i) (get_or len i 0)
      log_back i h =
          let n = get_or len i 0 in
          let b : suc i - 1 ≡ i = omega arith in
          let v = log-there (value_of image) (λ x. x.value) values-at store full i h in
          let t = log-there (epoch_of image) (λ x. x.term) terms-at store2 also i h in
          sym (rw (b, pairs-drop (512 * i) store' store2')
          (pairs-take n (drop (512 * i) store') (drop (512 * i) store2') ∙ ap₂ pairs v t
          ∙ pairs-back (get_or lists i [])))

      receipts-back : get_or lists 8 [] ≡ take count (pairs list' list2')
      receipts-back =
          let v = receipts-there (value_of image) (λ x. x.value) values-at list l in
          let t = receipts-there (epoch_of image) (λ x. x.term) terms-at list2 l2 in
          sym (pairs-take count list' list2' ∙ ap₂ pairs v t ∙ pairs-back (get_or lists 8 []))

      -- The list i, as the places hold it.
      abbrev held : ℕ → List Entry
      held i = list_at store' store2' len list' list2' count i

      list_back : (i : ℕ) → i < 9 → get_or lists i [] ≡ held i
      list_back i h = go (eqb i 8) refl
        where
          go : (t : Bool) → eqb i 8 ≡ t → get_or lists i [] ≡ held i
          go true e = let q = eqb-true i 8 e in rw (e, q) receipts-back
          go false e = let q = eqb-false i 8 e in rw e (log_back i (omega arith))

      -- They hold the lists.
      pub places-back : nine_lists store' store2' len list' list2' count ≡ lists
      places-back =
          let n = sized-nine lists len count z in
          let a = each-is [] held lists 0
          (λ i h. let o : 0 + i ≡ i = omega arith in rw o (list_back i (omega arith))) in
          nine-each store' store2' len list' list2' count ∙ subst (λ m. each held 0 m ≡ lists) n (sym a)
