-- Lists written as records: what is written so far. Assumes nothing.
use mathlib.Core.Bool.{Bool, true, false, cond}
use mathlib.Core.List.{List, [], ◌∷◌, ◌++◌, append-nil, append_assoc}
use mathlib.Core.Path.{◌≡◌, refl, sym, ap, ◌∙◌}
use Prim.Native.Nat.{ℕ, zero, suc, ◌+◌, ◌-◌, ◌*◌, ◌<◌, ◌≤◌}
use native.Mathlib.Nat.{add-zero, not-suc-le-zero}
use native.Mathlib.Numerals.{add-one}
use native.Mathlib.Omega.{arith}
use lib.Dec.{ltb}
use lib.ListN.{length, get_or, take, drop}
use lib.Seq.{take-suc, take-length, length-take-le}
use borrow.Author.Tests.{ltb-true, ltb-false, lt-ltb, le-ltb}
use Rattle.model.specs.State.{Entry, entry}
use Rattle.logstore.specs.Log.{pairs, log_of}
use Rattle.logstore.proofs.Laws.{pairs-take, pairs-drop, pairs-length, pairs-at}
use Rattle.text.specs.declared.Page.{Page}
use Rattle.text.specs.Text.{Text, Puts, HasRoom}
use Rattle.text.proofs.Laws.{puts-then, puts_as, puts-nothing, puts-length}
use Rattle.saving.specs.Saved.{Record, record_of, record_bytes, bytes_of, records_for, records_all, sum_of}
use Rattle.saving.proofs.Bytes.{bytes-append, records-bytes, records-length, list-bytes, bytes-length}

-- One list

-- The record i of a list whose records are numbered from k on.
abbrev record_at : ℕ → List Entry → ℕ → Record
record_at k xs i =
    let x = get_or xs i (entry 0 0) in
    record_of x.value x.term (cond (ltb (i + 1) (length xs)) (k + i + 1) 0)

records-at : (d : Record) (k : ℕ) (xs : List Entry) (i : ℕ) → i < length xs
    → get_or (records_for k xs) i d ≡ record_at k xs i
unfolding records_for
records-at d k [] i h = absurd (not-suc-le-zero h)
records-at d k (x ∷ []) zero h = refl
records-at d k (x ∷ (y ∷ xs)) zero h =
    let e : k + 0 + 1 ≡ suc k = omega arith in
    let t = lt-ltb (0 + 1) (length (x ∷ (y ∷ xs))) (omega arith) in rw (e, t)
records-at d k (x ∷ xs) (suc i) h =
    records-at d (suc k) xs i (omega arith) ∙ same (ltb (i + 1) (length xs)) refl
  where
    same : (t : Bool) → ltb (i + 1) (length xs) ≡ t → record_at (suc k) xs i ≡ record_at k (x ∷ xs) (suc i)
    same true e =
        let l = ltb-true (i + 1) (length xs) e in
        let n : suc k + i + 1 ≡ k + suc i + 1 = omega arith in
        rw (e, lt-ltb (suc i + 1) (suc (length xs)) (omega arith), n)
    same false e =
        let l = ltb-false (i + 1) (length xs) e in
        rw (e, le-ltb (suc i + 1) (suc (length xs)) (omega arith))

-- The records of xs, numbered from k on, that are written when the record i is next.
abbrev pub so_far : ℕ → List Entry → ℕ → Text
so_far k xs i = bytes_of (take i (records_for k xs))

one-more : (k : ℕ) (xs : List Entry) (i : ℕ) → i < length xs
    → so_far k xs (i + 1) ≡ so_far k xs i ++ record_bytes (record_at k xs i)
unfolding bytes_of
one-more k xs i h =
    let rs = records_for k xs in
    let none = record_of 0 0 0 in
    let t = take-suc rs i none (omega (arith, records-length k xs)) in
    ap (λ n. bytes_of (take n rs)) (add-one i) ∙ ap bytes_of t
    ∙ ap (λ r. bytes_of (take i rs ++ (r ∷ []))) (records-at none k xs i h)
    ∙ bytes-append (take i rs) (record_at k xs i ∷ [])

module _ {p q : Page} (k : ℕ) (xs : List Entry) (i : ℕ) (w : Puts p (so_far k xs i) q) where
  -- Room for all is room for the next.
  pub record-room : i < length xs → HasRoom p (bytes_of (records_for k xs)) → q.at + 8 ≤ length q.out.now
  record-room h r =
      let n = length-take-le i (records_for k xs) (omega (arith, records-length k xs)) in
      omega (arith, w.wrote.next, puts-length w, records-bytes (take i (records_for k xs)), n, list-bytes k xs, r)

  pub record-on : i < length xs → (r : Record) → record_at k xs i ≡ r → {v : Page} → Puts q (record_bytes r) v
      → Puts p (so_far k xs (i + 1)) v
  record-on h r e u = puts_as (ap (λ r. so_far k xs i ++ record_bytes r) (sym e) ∙ sym (one-more k xs i h)) (puts-then w u)

  pub records-end : i ≡ length xs → Puts p (bytes_of (records_for k xs)) q
  records-end e =
      let q : i ≡ length (records_for k xs) = e ∙ sym (records-length k xs) in
      puts_as (ap bytes_of (rw q (take-length (records_for k xs)))) w

-- The record i of values and terms.
pub record-is : (values terms : List ℕ) (k i next : ℕ) → length values ≡ length terms
    → next ≡ cond (ltb (i + 1) (length values)) (k + i + 1) 0
    → record_at k (pairs values terms) i ≡ record_of (get_or values i 0) (get_or terms i 0) next
record-is values terms k i next e f =
    rw (pairs-length values terms e, ← f) (ap (λ x. record_of x.value x.term next) (pairs-at values terms i e))

-- All lists in turn

records-more : (k : ℕ) (xss : List (List Entry)) (xs : List Entry)
    → records_all k (xss ++ (xs ∷ [])) ≡ records_all k xss ++ records_for (k + sum_of xss) xs
unfolding records_all sum_of
records-more k [] xs = rw (add-zero k) (append-nil (records_for k xs))
records-more k (ys ∷ xss) xs =
    let e : k + length ys + sum_of xss ≡ k + (length ys + sum_of xss) = omega arith in
    rw (records-more (k + length ys) xss xs, e)
    (sym (append_assoc (records_for k ys) (records_all (k + length ys) xss) (records_for (k + (length ys + sum_of xss)) xs)))

sum-more : (xss : List (List Entry)) (xs : List Entry) → sum_of (xss ++ (xs ∷ [])) ≡ sum_of xss + length xs
unfolding sum_of
sum-more [] xs = omega arith
sum-more (ys ∷ xss) xs = omega (arith, sum-more xss xs)

sum-front : (xss : List (List Entry)) (i : ℕ) → sum_of (take i xss) ≤ sum_of xss
unfolding sum_of
sum-front xss zero = omega arith
sum-front [] (suc i) = omega arith
sum-front (xs ∷ xss) (suc i) = omega (arith, sum-front xss i)

-- The lists before i are written, and the records of the list i are numbered from k on.
pub record Listing (all : List (List Entry)) (p q : Page) (k i : ℕ) : Type 0 where
  pub puts : Puts p (bytes_of (records_all 1 (take i all))) q
  pub number : k ≡ 1 + sum_of (take i all)

pub lists-none : (all : List (List Entry)) (p : Page) → Listing all p p 1 0
unfolding records_all sum_of bytes_of
lists-none all p = record { puts = puts-nothing p; number = refl }

module _ (all : List (List Entry)) {p q : Page} (k i : ℕ) (w : Listing all p q k i) where
  abbrev own : List Entry
  own = get_or all i []

  pub lists-end : i ≡ length all → Puts p (bytes_of (records_all 1 all)) q
  lists-end e = puts_as (ap (λ xss. bytes_of (records_all 1 xss)) (rw e (take-length all))) w.puts

  module _ (h : i < length all) where
    split : take (i + 1) all ≡ take i all ++ (own ∷ [])
    split = ap (λ n. take n all) (add-one i) ∙ take-suc all i [] h

    pub next-number : k + length own ≡ 1 + sum_of (take (i + 1) all)
    next-number = omega (arith, w.number, ap sum_of split, sum-more (take i all) own)

    pub list-few : k + length own ≤ sum_of all + 1
    list-few = omega (arith, next-number, sum-front all (i + 1))

    pub list-room : HasRoom p (bytes_of (records_all 1 all)) → HasRoom q (bytes_of (records_for k own))
    list-room r =
        omega (
          arith,
          w.number,
          list-few,
          list-bytes k own,
          bytes-length 1 (take i all),
          bytes-length 1 all,
          w.puts.wrote.next,
          puts-length w.puts,
          r,
        )

    pub lists-on : {v : Page} → Puts q (bytes_of (records_for k own)) v → Listing all p v (k + length own) (i + 1)
    lists-on u =
        let more = ap (records_all 1) split ∙ records-more 1 (take i all) own
        ∙ ap (λ n. records_all 1 (take i all) ++ records_for n own) (sym w.number) in
        record {
          puts = puts_as (sym (ap bytes_of more ∙ bytes-append (records_all 1 (take i all)) (records_for k own)))
              (puts-then w.puts u);
          number = next-number;
        }

-- The log of the board after i, in its part of the store.
pub log-part : (store store2 : List ℕ) (i n : ℕ)
    → let m = 512 * i + n - 512 * i in
    pairs (take m (drop (512 * i) store)) (take m (drop (512 * i) store2)) ≡ log_of (pairs store store2) (i + 1) n
log-part store store2 i n =
    let e : 512 * i + n - 512 * i ≡ n = omega arith in
    let b : i + 1 - 1 ≡ i = omega arith in
    rw (e, b, pairs-drop (512 * i) store store2, pairs-take n (drop (512 * i) store) (drop (512 * i) store2))
