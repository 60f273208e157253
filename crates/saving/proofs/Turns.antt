-- The nine lists of a row in turn: what a list's turn asks, and what it leaves. Assumes nothing.
use mathlib.Core.List.{List, []}
use mathlib.Core.Path.{◌≡◌, sym, ap, subst, ◌∙◌}
use Prim.Native.Nat.{ℕ, suc, ◌+◌, ◌-◌, ◌*◌, ◌<◌, ◌≤◌}
use native.Mathlib.Numerals.{add-one}
use native.Mathlib.Omega.{arith}
use lib.ListN.{length, get_or, take, drop, length-drop}
use lib.Seq.{length-take-le}
use Rattle.model.specs.State.{Entry}
use Rattle.logstore.specs.Log.{pairs, log_of}
use Rattle.logstore.proofs.Laws.{pairs-length, pairs-take}
use Rattle.cluster.specs.declared.Cluster.{Cluster}
use Rattle.refinement.specs.Refinement.{Places, Full, Short}
use Rattle.text.specs.declared.Page.{Page}
use Rattle.text.specs.Text.{Puts, HasRoom}
use Rattle.saving.specs.Saved.{bytes_of, records_for, records_all, lists_in, sum_of}
use Rattle.saving.proofs.Lengths.{nine-at, board-list, Sized, sized-nine, nine-sized, sized-sum, sum-most}
use Rattle.saving.proofs.Putting.{Listing, log-part, list-few, list-room, lists-on, lists-end}

-- The list i, whose values are v and whose terms are t.
module _ (all : List (List Entry)) (most : sum_of all ≤ 4608) {p q : Page} (k i : ℕ) (w : Listing all p q k i)
    (h : i < length all) (v t : List ℕ) (l : length v ≡ length t) (own : get_or all i [] ≡ pairs v t) where
  size : length (get_or all i []) ≡ length v
  size = ap length own ∙ pairs-length v t l

  asked : length v ≤ 512 → HasRoom p (bytes_of (records_all 1 all))
      → (length v ≤ 512) × (length v ≡ length t) × (k + length v ≤ 4609)
      × HasRoom q (bytes_of (records_for k (pairs v t)))
  asked few r =
      let room = list-room all k i w h r in (
        few,
        l,
        omega (arith, list-few all k i w h, size),
        subst (λ xs. HasRoom q (bytes_of (records_for k xs))) own room,
      )

  goes-on : (n : ℕ) → length v ≡ n → {u : Page} → Puts q (bytes_of (records_for k (pairs v t))) u
      → Listing all p u (k + n) (i + 1)
  goes-on n e {u} x =
      let y = lists-on all k i w h (subst (λ xs. Puts q (bytes_of (records_for k xs)) u) (sym own) x) in
      subst (λ m. Listing all p u (k + m) (i + 1)) (size ∙ e) y

-- The lists of a row.
module _ (row : Cluster) (p : Places) (f : Full p) (s : Short row.len) (few : row.issued ≤ 512) where
  abbrev all : List (List Entry)
  all = lists_in row p

  sized : Sized all row.len row.issued
  sized = nine-sized p.store p.store2 row.len p.list p.list2 row.issued f.store f.store2 s.eight s.most f.list f.list2 few

  nine : length all ≡ 9
  nine = sized-nine all row.len row.issued sized

  all-most : sum_of all ≤ 4608
  all-most =
      omega (arith, sized-sum all row.len row.issued sized, sum-most row.len row.issued s.eight s.most few)

  -- The log of the board after i, in its part of the store,
  module _ (i : ℕ) (h : i < 8) where
    abbrev part : List ℕ → List ℕ
    part xs = take (512 * i + get_or row.len i 0 - 512 * i) (drop (512 * i) xs)

    log-length : (xs : List ℕ) → length xs ≡ 4096 → length (part xs) ≡ get_or row.len i 0
    log-length xs l =
        let e : 512 * i + get_or row.len i 0 - 512 * i ≡ get_or row.len i 0 = omega arith in
        rw e (length-take-le (get_or row.len i 0) (drop (512 * i) xs) (omega (arith, length-drop (512 * i) xs, s.most (suc i))))

    log-same : length (part p.store) ≡ length (part p.store2)
    log-same = log-length p.store f.store ∙ sym (log-length p.store2 f.store2)

    log-own : get_or all i [] ≡ pairs (part p.store) (part p.store2)
    log-own =
        nine-at p.store p.store2 row.len p.list p.list2 row.issued i (omega arith)
        ∙ board-list p.store p.store2 row.len p.list p.list2 row.issued i h
        ∙ ap (λ b. log_of (pairs p.store p.store2) b (get_or row.len i 0)) (sym (add-one i))
        ∙ sym (log-part p.store p.store2 i (get_or row.len i 0))

    module _ {a b : Page} (k : ℕ) (w : Listing all a b k i) where
      pub log-asked : HasRoom a (bytes_of (records_all 1 all))
          → (length (part p.store) ≤ 512) × (length (part p.store) ≡ length (part p.store2))
          × (k + length (part p.store) ≤ 4609)
          × HasRoom b (bytes_of (records_for k (pairs (part p.store) (part p.store2))))
      log-asked =
          asked all all-most k i w (omega (arith, nine)) _ _ log-same log-own
          (omega (arith, log-length p.store f.store, s.most (suc i)))

      pub log-few : k + get_or row.len i 0 ≤ 4609
      log-few =
          omega (
            arith,
            list-few all k i w (omega (arith, nine)),
            all-most,
            ap length log-own,
            pairs-length (part p.store) (part p.store2) log-same,
            log-length p.store f.store,
          )

      pub log-on : {c : Page} → Puts b (bytes_of (records_for k (pairs (part p.store) (part p.store2)))) c
          → Listing all a c (k + get_or row.len i 0) (i + 1)
      log-on x =
          goes-on all all-most k i w (omega (arith, nine)) _ _ log-same log-own _ (log-length p.store f.store) x

  -- and the receipts.
  abbrev front : List ℕ → List ℕ
  front xs = take row.issued xs

  list-length : (xs : List ℕ) → length xs ≡ 512 → length (front xs) ≡ row.issued
  list-length xs l = length-take-le row.issued xs (omega arith)

  list-same : length (front p.list) ≡ length (front p.list2)
  list-same = list-length p.list f.list ∙ sym (list-length p.list2 f.list2)

  list-own : get_or all 8 [] ≡ pairs (front p.list) (front p.list2)
  list-own =
      nine-at p.store p.store2 row.len p.list p.list2 row.issued 8 (omega arith) ∙ pairs-take row.issued p.list p.list2

  module _ {a b : Page} (k i : ℕ) (w : Listing all a b k i) (h : i ≡ 8) where
    at-8 : Listing all a b k 8
    at-8 = subst (λ j. Listing all a b k j) h w

    pub list-asked : HasRoom a (bytes_of (records_all 1 all))
        → (length (front p.list) ≤ 512) × (length (front p.list) ≡ length (front p.list2))
        × (k + length (front p.list) ≤ 4609) × HasRoom b (bytes_of (records_for k (pairs (front p.list) (front p.list2))))
    list-asked =
        asked all all-most k 8 at-8 (omega (arith, nine)) _ _ list-same list-own
        (omega (arith, list-length p.list f.list, few))

    pub list-end : {c : Page} → Puts b (bytes_of (records_for k (pairs (front p.list) (front p.list2)))) c
        → Puts a (bytes_of (records_all 1 all)) c
    list-end x =
        lists-end all _ 9
        (goes-on all all-most k 8 at-8 (omega (arith, nine)) _ _ list-same list-own _ (list-length p.list f.list) x)
        (sym nine)
