-- The nine lists in turn, and what their lengths alone tell: how many records they make, and the first ones. Assumes
-- nothing.
use mathlib.Core.Bool.{Bool, true, false, cond}
use mathlib.Core.List.{List, [], ◌∷◌, ◌++◌, map}
use mathlib.Core.Path.{◌≡◌, refl, sym, ap, subst, ◌∙◌}
use Prim.Native.Nat.{ℕ, zero, suc, zero-le, ◌+◌, ◌*◌, ◌<◌, ◌≤◌}
use native.Mathlib.Nat.{not-suc-le-zero, add-zero}
use native.Mathlib.Omega.{arith}
use lib.Dec.{eqb}
use lib.ListN.{length, get_or, take, length-append, length-map, get_or-append, get_or-map}
use lib.Seq.{length-take-le, get_or_at}
use borrow.Author.Tests.{eqb-true, eqb-false, ne_eqb}
use Rattle.std.specs.Prelude.{sum}
use Rattle.std.proofs.lemmas.List.Sums.{sum_by-cons}
use Rattle.model.specs.State.{Entry}
use Rattle.logstore.specs.Log.{pairs, log_of}
use Rattle.logstore.proofs.Laws.{pairs-length, log-length}
use Rattle.cluster.specs.Layout.{at}
use Rattle.saving.specs.Saved.{first_for, firsts_for, nine_lists, sum_of, sum_by, firsts_by}

-- Elements in turn

-- What f has for m numbers from b on.
unfoldable pub each : {A : Type 0} → (ℕ → A) → ℕ → ℕ → List A
each f b zero = []
each f b (suc m) = f b ∷ each f (suc b) m

pub each-is : {A : Type 0} (d : A) (f : ℕ → A) (xs : List A) (b : ℕ)
    → ((i : ℕ) → i < length xs → get_or xs i d ≡ f (b + i)) → xs ≡ each f b (length xs)
unfolding each
each-is d f [] b h = refl
each-is d f (x ∷ xs) b h =
    let e : x ≡ f b = h 0 (omega arith) ∙ ap f (add-zero b) in
    let rest = each-is d f xs (suc b) (λ i g.
    let q : b + suc i ≡ suc b + i = omega arith in h (suc i) (omega arith) ∙ ap f q) in
    rw (← e) (ap (λ ys. x ∷ ys) rest)

pub each_map : {A B : Type 0} (g : A → B) (f : ℕ → A) (b m : ℕ) → map g (each f b m) ≡ each (λ i. g (f i)) b m
unfolding each
each_map g f b zero = refl
each_map g f b (suc m) = ap (λ ys. g (f b) ∷ ys) (each_map g f (suc b) m)

pub each_at : {A : Type 0} (d : A) (f : ℕ → A) (b m i : ℕ) → i < m → get_or (each f b m) i d ≡ f (b + i)
unfolding each
each_at d f b zero i h = absurd (not-suc-le-zero h)
each_at d f b (suc m) zero h = rw (add-zero b)
each_at d f b (suc m) (suc i) h =
    let q : b + suc i ≡ suc b + i = omega arith in rw q (each_at d f (suc b) m i (omega arith))

-- By the lengths

first_by : (k : ℕ) (xs : List Entry) → first_for k xs ≡ cond (eqb (length xs) 0) 0 k
first_by k [] = refl
first_by k (x ∷ xs) = rw (ne_eqb (suc (length xs)) 0 (λ (e : suc (length xs) ≡ 0). omega arith))

pub firsts-by : (k : ℕ) (xss : List (List Entry)) → firsts_for k xss ≡ firsts_by k (map length xss)
unfolding firsts_for firsts_by
firsts-by k [] = refl
firsts-by k (xs ∷ xss) = rw (first_by k xs, firsts-by (k + length xs) xss)

pub sum_by_lem : (xss : List (List Entry)) → sum_of xss ≡ sum_by (map length xss)
unfolding sum_of sum_by
sum_by_lem [] = refl
sum_by_lem (xs ∷ xss) = rw (sum_by_lem xss)

-- The numbers before the last one, by std's sum.
pub sum-last : (ns : List ℕ) (n : ℕ) → sum_by (ns ++ (n ∷ [])) ≡ sum ns + n
unfolding sum_by
sum-last [] n = omega arith
sum-last (m ∷ ns) n = omega (arith, sum-last ns n, sum_by-cons (λ (x : ℕ). x) m ns)

pub sum-bound : (ns : List ℕ) → ((i : ℕ) → get_or ns i 0 ≤ 512) → sum ns ≤ 512 * length ns
sum-bound [] h = omega arith
sum-bound (n ∷ ns) h = omega (arith, h 0, sum-bound ns (λ i. h (suc i)), sum_by-cons (λ (x : ℕ). x) n ns)

sum-within : (ns : List ℕ) → ((i : ℕ) → get_or ns i 0 ≤ 512) → sum_by ns ≤ 512 * length ns
unfolding sum_by
sum-within [] h = omega arith
sum-within (n ∷ ns) h = omega (arith, h 0, sum-within ns (λ i. h (suc i)))

-- One more number within the bound.
one_more : (ns : List ℕ) (n : ℕ) → ((i : ℕ) → get_or ns i 0 ≤ 512) → n ≤ 512 → (i : ℕ) → get_or (ns ++ (n ∷ [])) i 0 ≤ 512
one_more [] n h k zero = k
one_more [] n h k (suc i) = zero-le
one_more (m ∷ ns) n h k zero = h 0
one_more (m ∷ ns) n h k (suc i) = one_more ns n (λ j. h (suc j)) k i

-- "258 plus 8 times 0 to 4,608"
pub sum-most : (len : List ℕ) (count : ℕ) → length len ≡ 8 → ((b : ℕ) → at 0 len b ≤ 512) → count ≤ 512
    → sum_by (len ++ (count ∷ [])) ≤ 4608
sum-most len count e h k =
    let m = sum-within (len ++ (count ∷ [])) (one_more len count (λ i. h (suc i)) k) in
    omega (arith, m, length-append len (count ∷ []))

-- Nine lists of these lengths, none of more than 512 entries: the boards' logs have the lengths len.
pub record Sized (lists : List (List Entry)) (len : List ℕ) (count : ℕ) : Type 0 where
  pub lengths : map length lists ≡ len ++ (count ∷ [])
  pub eight : length len ≡ 8
  pub most : (b : ℕ) → at 0 len b ≤ 512
  pub few : count ≤ 512

-- No list has more than 512 entries.
abbrev pub Short : List (List Entry) → Type 0
Short xss = (i : ℕ) → length (get_or xss i []) ≤ 512

module _ (lists : List (List Entry)) (len : List ℕ) (count : ℕ) (z : Sized lists len count) where
  pub sized-nine : length lists ≡ 9
  sized-nine =
      sym (length-map lists length) ∙ ap length z.lengths ∙ length-append len (count ∷ []) ∙ rw z.eight

  pub length_at : (i : ℕ) → length (get_or lists i []) ≡ get_or (len ++ (count ∷ [])) i 0
  length_at i = sym (get_or-map length lists i []) ∙ ap (λ ns. get_or ns i 0) z.lengths

  pub log-size : (i : ℕ) → i < 8 → length (get_or lists i []) ≡ get_or len i 0
  log-size i h = length_at i ∙ get_or-append len (count ∷ []) 0 i (omega (arith, z.eight))

  pub list-size : length (get_or lists 8 []) ≡ count
  list-size = length_at 8 ∙ get_or_at len count [] 0 8 z.eight

  pub sized-short : Short lists
  sized-short i = rw (length_at i) (one_more len count (λ j. z.most (suc j)) z.few i)

  pub sized-sum : sum_of lists ≡ sum_by (len ++ (count ∷ []))
  sized-sum = sum_by_lem lists ∙ ap sum_by z.lengths

  pub sized-firsts : (k : ℕ) → firsts_for k lists ≡ firsts_by k (len ++ (count ∷ []))
  sized-firsts k = firsts-by k lists ∙ ap (firsts_by k) z.lengths

  pub sized-most : sum_of lists ≤ 4608
  sized-most = omega (arith, sized-sum, sum-most len count z.eight z.most z.few)

-- The nine lists of a row

module _ (store store2 len list list2 : List ℕ) (count : ℕ) where
  -- The list i: the log of the board after i, or the receipts.
  abbrev pub list_at : ℕ → List Entry
  list_at i = cond (eqb i 8) (take count (pairs list list2)) (log_of (pairs store store2) (suc i) (get_or len i 0))

  pub nine-each : nine_lists store store2 len list list2 count ≡ each list_at 0 9
  unfolding nine_lists each
  nine-each = refl

  pub nine-at : (i : ℕ) → i < 9 → get_or (nine_lists store store2 len list list2 count) i [] ≡ list_at i
  nine-at i h =
      let z : 0 + i ≡ i = omega arith in
      ap (λ xss. get_or xss i []) nine-each ∙ each_at [] list_at 0 9 i h ∙ ap list_at z

  pub board-list : (i : ℕ) → i < 8 → list_at i ≡ log_of (pairs store store2) (suc i) (get_or len i 0)
  board-list i h = rw (ne_eqb i 8 (λ (e : i ≡ 8). omega arith))

  module _ (full : length store ≡ 4096) (also : length store2 ≡ 4096) (eight : length len ≡ 8)
      (most : (b : ℕ) → at 0 len b ≤ 512) (l : length list ≡ 512) (l2 : length list2 ≡ 512) (few : count ≤ 512) where
    list_length : (i : ℕ) → i < 9 → get_or (len ++ (count ∷ [])) i 0 ≡ length (list_at i)
    list_length i h = go (eqb i 8) refl
      where
        go : (t : Bool) → eqb i 8 ≡ t → get_or (len ++ (count ∷ [])) i 0 ≡ length (list_at i)
        go true e =
            let q = eqb-true i 8 e in
            let n : length (pairs list list2) ≡ 512 = pairs-length list list2 (l ∙ sym l2) ∙ l in
            rw (e, length-take-le count (pairs list list2) (omega arith), q) (get_or_at len count [] 0 8 eight)
        go false e =
            let q = eqb-false i 8 e in
            let n : length (pairs store store2) ≡ 4096 = pairs-length store store2 (full ∙ sym also) ∙ full in
            rw (e, log-length (pairs store store2) n (suc i) (omega arith) (omega arith) (get_or len i 0) (most (suc i)))
            (get_or-append len (count ∷ []) 0 i (omega arith))

    pub nine-lengths : map length (nine_lists store store2 len list list2 count) ≡ len ++ (count ∷ [])
    nine-lengths =
        let ns = len ++ (count ∷ []) in
        let n : length ns ≡ 9 = length-append len (count ∷ []) ∙ rw eight in
        let a = each-is 0 (λ i. length (list_at i)) ns 0 (λ i h.
        let q : 0 + i ≡ i = omega arith in rw q (list_length i (omega arith))) in
        ap (map length) nine-each ∙ each_map length list_at 0 9
        ∙ subst (λ m. each (λ i. length (list_at i)) 0 m ≡ ns) n (sym a)

    pub nine-sized : Sized (nine_lists store store2 len list list2 count) len count
    nine-sized = record { lengths = nine-lengths; eight = eight; most = most; few = few }
