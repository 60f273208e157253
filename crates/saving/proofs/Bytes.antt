-- The bytes of records, one after the other, and the records that they are read as. Assumes nothing.
use mathlib.Core.List.{List, [], ◌∷◌, ◌++◌, append_assoc}
use mathlib.Core.Path.{◌≡◌, refl, ap, subst, ◌∙◌}
use Prim.Native.Nat.{ℕ, suc, ◌+◌, ◌*◌, ◌/◌, ◌%◌}
use native.Mathlib.Omega.{arith}
use lib.ListN.{length, get_or, length-append}
use lib.Seq.{get_or-append-add}
use Rattle.model.specs.State.{Entry}
use Rattle.text.specs.Text.{Text}
use Rattle.fields.proofs.Back.{two_back, four-back}
use Rattle.chains.specs.Image.{value_of, epoch_of, next_of}
use Rattle.saving.specs.Saved.{Record, record_bytes, bytes_of, records_for, records_all, sum_of}

-- Lengths

pub bytes-append : (rs ss : List Record) → bytes_of (rs ++ ss) ≡ bytes_of rs ++ bytes_of ss
unfolding bytes_of
bytes-append [] ss = refl
bytes-append (r ∷ rs) ss = rw (bytes-append rs ss)

pub records-bytes : (rs : List Record) → length (bytes_of rs) ≡ 8 * length rs
unfolding bytes_of
records-bytes [] = refl
records-bytes (r ∷ rs) = omega (arith, records-bytes rs)

pub records-length : (k : ℕ) (xs : List Entry) → length (records_for k xs) ≡ length xs
unfolding records_for
records-length k [] = refl
records-length k (x ∷ xs) = ap suc (records-length (suc k) xs)

pub all-length : (k : ℕ) (xss : List (List Entry)) → length (records_all k xss) ≡ sum_of xss
unfolding records_all sum_of
all-length k [] = refl
all-length k (xs ∷ xss) =
    length-append (records_for k xs) (records_all (k + length xs) xss)
    ∙ rw (records-length k xs, all-length (k + length xs) xss)

pub list-bytes : (k : ℕ) (xs : List Entry) → length (bytes_of (records_for k xs)) ≡ 8 * length xs
list-bytes k xs = records-bytes (records_for k xs) ∙ rw (records-length k xs)

pub bytes-length : (k : ℕ) (xss : List (List Entry)) → length (bytes_of (records_all k xss)) ≡ 8 * sum_of xss
bytes-length k xss = records-bytes (records_all k xss) ∙ rw (all-length k xss)

-- Reading

-- An image has the records rs from number k on.
unfoldable pub Holds : Text → ℕ → List Record → Type 0
Holds image k [] = Unit {0}
Holds image k (r ∷ rs) =
    (value_of image k ≡ r.value) × (epoch_of image k ≡ r.term) × (next_of image k ≡ r.next) × Holds image (suc k) rs

-- One record after those before it.
module _ (pre : Text) (r : Record) (rest : Text) (k : ℕ) (l : length pre ≡ 8 * k + 250) where
  abbrev image : Text
  image = pre ++ (record_bytes r ++ rest)

  byte : (i j : ℕ) → j ≡ 8 * k + 250 + i → get_or image j 0 ≡ get_or (record_bytes r ++ rest) i 0
  byte i j q = rw (q, ← l) (get_or-append-add pre (record_bytes r ++ rest) i 0)

  value-is : value_of image k ≡ r.value
  value-is =
      let v = r.value in
      let a : get_or image (8 * k + 250) 0 ≡ v % 256 = byte 0 (8 * k + 250) (omega arith) in
      let b : get_or image (8 * k + 250 + 1) 0 ≡ v / 256 % 256 = byte 1 (8 * k + 250 + 1) refl in
      let c : get_or image (8 * k + 250 + 2) 0 ≡ v / 65536 % 256 = byte 2 (8 * k + 250 + 2) refl in
      let d : get_or image (8 * k + 250 + 3) 0 ≡ v / 16777216 = byte 3 (8 * k + 250 + 3) refl in
      rw (a, b, c, d) (four-back v)

  term_is : epoch_of image k ≡ r.term
  term_is =
      let a : get_or image (8 * k + 254) 0 ≡ r.term % 256 = byte 4 (8 * k + 254) (omega arith) in
      let b : get_or image (8 * k + 254 + 1) 0 ≡ r.term / 256 = byte 5 (8 * k + 254 + 1) (omega arith) in
      rw (a, b) (two_back r.term)

  next-is : next_of image k ≡ r.next
  next-is =
      let a : get_or image (8 * k + 256) 0 ≡ r.next % 256 = byte 6 (8 * k + 256) (omega arith) in
      let b : get_or image (8 * k + 256 + 1) 0 ≡ r.next / 256 = byte 7 (8 * k + 256 + 1) (omega arith) in
      rw (a, b) (two_back r.next)

-- The bytes of records, after those before the record k, are read as the records from k on.
pub bytes-hold : (pre : Text) (rs : List Record) (k : ℕ) → length pre ≡ 8 * k + 250 → Holds (pre ++ bytes_of rs) k rs
unfolding Holds bytes_of
bytes-hold pre [] k l = tt
bytes-hold pre (r ∷ rs) k l =
    let one = record_bytes r in
    let e : (pre ++ one) ++ bytes_of rs ≡ pre ++ (one ++ bytes_of rs) = append_assoc pre one (bytes_of rs) in
    let n : length (pre ++ one) ≡ 8 * suc k + 250 = omega (arith, length-append pre one, l) in (
      value-is pre r (bytes_of rs) k l,
      term_is pre r (bytes_of rs) k l,
      next-is pre r (bytes_of rs) k l,
      subst (λ image. Holds image (suc k) rs) e (bytes-hold (pre ++ one) rs (suc k) n),
    )
