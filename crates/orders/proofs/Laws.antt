-- Orders: one more of them, how many records they are, and their bytes. Assumes nothing.
use mathlib.Core.List.{List, [], ◌∷◌, ◌++◌, append_assoc, append-nil}
use mathlib.Core.Path.{◌≡◌, refl, sym, ap, ◌∙◌}
use Prim.Native.Nat.{ℕ, zero, suc, ◌+◌, ◌-◌, ◌<◌, ◌≤◌}
use native.Mathlib.Nat.{add-zero, add-suc}
use native.Mathlib.Numerals.{add-one}
use native.Mathlib.Omega.{arith}
use lib.ListN.{length, get_or, take, set, replicate, length-append, length-replicate, length-take}
use lib.Seq.{get_or-set_same, get_or-set_other, get_or-take}
use Rattle.model.specs.Records.{Record, of}
use Rattle.text.specs.Text.{Puts, HasRoom}
use Rattle.text.specs.declared.Page.{Page}
use Rattle.text.proofs.Laws.{puts-length}
use Rattle.records.specs.Bytes.{record_bytes, sheet_bytes}
use Rattle.records.proofs.Encoding.{bytes-length, sheet-length}
use Rattle.orders.specs.declared.Order.{Order}
use Rattle.orders.specs.Orders.{ordered, no_order, orders}

pub orders-none : (os : List Order) → orders 0 os ≡ []
unfolding orders
orders-none os = refl

-- A store past the first k orders leaves them.
orders-set : (k : ℕ) (os : List Order) (i : ℕ) (x : Order) → k ≤ i → orders k (set os i x) ≡ orders k os
unfolding orders
orders-set zero os i x h = refl
orders-set (suc k) os i x h =
    rw (orders-set k os i x (omega arith), get_or-set_other os i k x no_order (λ e. omega arith))

-- The next order is stored.
pub pushed : (k : ℕ) (os : List Order) (x : Order) → k < length os → orders (k + 1) (set os k x) ≡ orders k os ++ ordered x
unfolding orders
pushed k os x h = rw (add-one k, orders-set k os k x (omega arith), get_or-set_same os k x no_order h)

-- One order more, which is at its place.
pub orders-next : (k : ℕ) (os : List Order) (x : Order) → x ≡ get_or os k no_order
    → orders (k + 1) os ≡ orders k os ++ ordered x
unfolding orders
orders-next k os x e = rw (add-one k, e)

-- How many records k orders are: so many each,
pub count-next : (k : ℕ) (os : List Order) (x : Order) → x ≡ get_or os k no_order
    → length (orders (k + 1) os) ≡ length (orders k os) + x.times
count-next k os x e =
    rw (orders-next k os x e, length-append (orders k os) (ordered x), length-replicate x.times (of x.step x.board))

-- and of more orders no less.
count-more : (os : List Order) (k d : ℕ) → length (orders k os) ≤ length (orders (k + d) os)
unfolding orders
count-more os k zero = rw (add-zero k) (omega arith)
count-more os k (suc d) =
    let o = ordered (get_or os (k + d) no_order) in
    rw (add-suc k d) (omega (arith, count-more os k d, length-append (orders (k + d) os) o))

-- Bytes

sheet-append : (xs ys : List Record) → sheet_bytes (xs ++ ys) ≡ sheet_bytes xs ++ sheet_bytes ys
unfolding sheet_bytes
sheet-append [] ys = refl
sheet-append (x ∷ xs) ys = rw (sheet-append xs ys) (sym (append_assoc (record_bytes x) (sheet_bytes xs) (sheet_bytes ys)))

pub bytes-none : (os : List Order) → sheet_bytes (orders 0 os) ≡ []
unfolding orders sheet_bytes
bytes-none os = refl

pub bytes-next : (k : ℕ) (os : List Order) (x : Order) → x ≡ get_or os k no_order
    → sheet_bytes (orders (k + 1) os) ≡ sheet_bytes (orders k os) ++ sheet_bytes (ordered x)
bytes-next k os x e = ap sheet_bytes (orders-next k os x e) ∙ sheet-append (orders k os) (ordered x)

pub same-none : (r : Record) → sheet_bytes (replicate 0 r) ≡ []
unfolding sheet_bytes
same-none r = refl

-- A record more at the end is one more at the start.
same-more : (n : ℕ) (r : Record) → sheet_bytes (replicate (suc n) r) ≡ sheet_bytes (replicate n r) ++ record_bytes r
unfolding sheet_bytes
same-more zero r = append-nil (record_bytes r)
same-more (suc n) r =
    ap (λ t. record_bytes r ++ t) (same-more n r)
    ∙ sym (append_assoc (record_bytes r) (sheet_bytes (replicate n r)) (record_bytes r))

pub same-next : (n : ℕ) (r : Record) → sheet_bytes (replicate (n + 1) r) ≡ sheet_bytes (replicate n r) ++ record_bytes r
same-next n r = rw (add-one n) (same-more n r)

-- Room for n of a record is room for one more after i of them;
pub same-room : (p q : Page) {r r' : Record} → r' ≡ r → (n i : ℕ) → i < n → HasRoom p (sheet_bytes (replicate n r))
    → Puts p (sheet_bytes (replicate i r)) q → HasRoom q (record_bytes r')
same-room p q {r} {r'} e n i h room w =
    omega (
      arith,
      w.wrote.next,
      puts-length w,
      bytes-length r',
      sheet-length (replicate n r),
      sheet-length (replicate i r),
      length-replicate n r,
      length-replicate i r,
    )

-- room for the records of k orders is room for those of one after the i before it.
pub order-room : (p q : Page) (os : List Order) (k i : ℕ) (x : Order) → i < k → x ≡ get_or os i no_order
    → HasRoom p (sheet_bytes (orders k os)) → Puts p (sheet_bytes (orders i os)) q → HasRoom q (sheet_bytes (ordered x))
order-room p q os k i x h e room w =
    let n : i + 1 + (k - (i + 1)) ≡ k = omega arith in
    let more : length (orders (i + 1) os) ≤ length (orders k os) = rw n at (count-more os (i + 1) (k - (i + 1))) in
    omega (
      arith,
      w.wrote.next,
      puts-length w,
      more,
      count-next i os x e,
      sheet-length (orders k os),
      sheet-length (orders i os),
      sheet-length (ordered x),
      length-replicate x.times (of x.step x.board),
    )

-- Orders past the first k are none of them.
orders-take : (j k : ℕ) (os : List Order) → j ≤ k → orders j (take k os) ≡ orders j os
unfolding orders
orders-take zero k os h = refl
orders-take (suc j) k os h = rw (orders-take j k os (omega arith), get_or-take k os j no_order (omega arith))

pub all-taken : (k : ℕ) (os : List Order) → k ≤ length os → orders (length (take k os)) (take k os) ≡ orders k os
all-taken k os h =
    let n : length (take k os) ≡ k = omega (arith, length-take k os) in
    ap (λ j. orders j (take k os)) n ∙ orders-take k k os (omega arith)
